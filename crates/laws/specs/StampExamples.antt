-- Worked examples of tasks that measure time: applications, injections, and the runs that result.
use Rattle.model.specs.declared.value.Value.TheVariants.{Number}
use Rattle.std.specs.Prelude.{List, [], ◌∷◌, codes}
use Rattle.model.specs.declared.answer.AnswerCondition.TheVariants.{Below, Above}
use Rattle.model.specs.declared.op.Op.TheVariants.{Work, Delay, Expect, Stamp, Since, SuspendAll, ResumeAll}
use Rattle.model.specs.declared.event.End.TheVariants.{Pass, Check}
use Rattle.laws.specs.Examples.{a_task, a_task_of, the_application, a, b, event_at, call, runs, idles}
use Rattle.laws.specs.HandlerExamples.{Injected}
use Rattle.laws.specs.TicklessExamples.{sleeper}

-- At first the time is measured from reset, even past the wrap of the tick. While the scheduler is held, the time doesn't change.
abbrev pub measures_its_time : Injected
measures_its_time = record {
  app = the_application 4294967290 (a_task (codes "a") (
      Since ∷ Delay 9 ∷ Since ∷ Stamp ∷ Work 2 ∷ Since ∷ Expect (Below (Number 3)) ∷ Expect (Above (Number 1)) ∷ SuspendAll
      ∷ Stamp ∷ Work 3 ∷ Since
      ∷ ResumeAll ∷ Since ∷ []) ∷ []);
  plan = [];
  run = record {
    events =
        event_at 0 4294967290 (call a 0 0) ∷ event_at 1 4294967290 (call a 1 0) ∷ event_at 1 4294967290 idles
        ∷ event_at 10 3 (runs a) ∷ event_at 11 3 (call a 2 9) ∷ event_at 15 5 (call a 5 2) ∷ event_at 18 5 (call a 8 0)
        ∷ event_at 23 5 (call a 11 0) ∷ event_at 24 8 (call a 12 0) ∷ event_at 25 8 (call a 13 3) ∷ event_at 25 8 idles ∷ [];
    steps = 26;
    ticks = 14;
    end = Pass;
  };
}

-- If the number of ticks doesn't fit in 32 bits, the result is the largest number that does.
abbrev pub measures_as_much_as_may_be : Injected
measures_as_much_as_may_be = record {
  app = sleeper 10000000000 (Stamp ∷ Delay 4294967294 ∷ Since ∷ Delay 1 ∷ Since ∷ Delay 1 ∷ Since ∷ []);
  plan = [];
  run = record {
    events =
        event_at 1 0 (call a 1 0) ∷ event_at 1 0 idles ∷ event_at 2 4294967294 (runs a)
        ∷ event_at 3 4294967294 (call a 2 4294967294) ∷ event_at 4 4294967294 (call a 3 0) ∷ event_at 4 4294967294 idles
        ∷ event_at 5 4294967295 (runs a) ∷ event_at 6 4294967295 (call a 4 4294967295) ∷ event_at 7 4294967295 (call a 5 0)
        ∷ event_at 7 4294967295 idles ∷ event_at 8 0 (runs a) ∷ event_at 9 0 (call a 6 4294967295) ∷ event_at 9 0 idles ∷ [];
    steps = 10;
    ticks = 4294967296;
    end = Pass;
  };
}

-- A deadline: it is met the first time. The second time a higher task runs in the meantime, and it is missed.
abbrev pub misses_its_deadline : Injected
misses_its_deadline = record {
  app = the_application 0 (
      a_task (codes "a") (
      Stamp ∷ Delay 4 ∷ Since ∷ Expect (Below (Number 6)) ∷ Stamp ∷ Delay 4 ∷ Since ∷ Expect (Below (Number 6)) ∷ [])
      ∷ a_task_of 2 (codes "b") (Delay 6 ∷ Work 5 ∷ []) ∷ []);
  plan = [];
  run = record {
    events =
        event_at 0 0 (call b 0 0) ∷ event_at 0 0 (runs a) ∷ event_at 2 0 (call a 1 0) ∷ event_at 2 0 idles ∷ event_at 6 4 (runs a)
        ∷ event_at 7 4 (call a 2 4) ∷ event_at 10 4 (call a 5 0) ∷ event_at 10 4 idles ∷ event_at 12 6 (runs b)
        ∷ event_at 17 11 (runs a) ∷ event_at 18 11 (call a 6 7) ∷ [];
    steps = 20;
    ticks = 11;
    end = Check a 7;
  };
}

-- all of them
abbrev pub stamp_examples : List Injected
stamp_examples =
    measures_its_time ∷ measures_as_much_as_may_be ∷ misses_its_deadline ∷ []
