-- Worked examples with endless tasks: applications, and the runs that result.
use Rattle.model.specs.declared.value.Value.TheVariants.{Number}
use Rattle.std.specs.Prelude.{ℕ, true, List, [], ◌∷◌, Some, codes}
use Rattle.model.specs.declared.answer.AnswerCondition.TheVariants.{Is}
use Rattle.model.specs.declared.op.Access.TheVariants.{Send, Receive}
use Rattle.model.specs.declared.op.Op.{Op}
use Rattle.model.specs.declared.op.Op.TheVariants.{Delay, Expect, End as EndLoop}
use Rattle.model.specs.declared.event.End.TheVariants.{Pass, Check, Stuck}
use Rattle.model.specs.Application.{Definition}
use Rattle.laws.specs.Examples.{a_task, a_task_of, with_queue, on_queue, on_queue_forever, a, b, event_at, call, runs, idles}
use Rattle.laws.specs.HandlerExamples.{Injected}
use Rattle.laws.specs.BranchExamples.{forever}

-- ---- words

-- a task of this priority that no run waits for
abbrev pub endless_task : ℕ → List ℕ → List Op → Definition
endless_task priority name script = record (a_task_of priority name script) { endless = true }

-- ---- the table

-- A run passes when the only task that it waits for has ended.
abbrev pub serves_and_passes : Injected
serves_and_passes = record {
  app = with_queue (
      endless_task 2 (codes "a") (forever ∷ on_queue_forever Receive ∷ Expect (Is (Some (Number 7))) ∷ EndLoop ∷ [])
      ∷ a_task (codes "b") (on_queue (Send (Number 7)) 0 ∷ Delay 2 ∷ on_queue (Send (Number 7)) 0 ∷ Delay 1 ∷ []) ∷ []);
  plan = [];
  run = record {
    events =
        event_at 5 0 (runs b) ∷ event_at 6 0 (call b 0 1) ∷ event_at 6 0 (runs a) ∷ event_at 7 0 (call a 1 7)
        ∷ event_at 14 0 (runs b) ∷ event_at 15 0 (call b 1 0) ∷ event_at 15 0 idles ∷ event_at 17 2 (runs b)
        ∷ event_at 18 2 (call b 2 1) ∷ event_at 18 2 (runs a) ∷ event_at 19 2 (call a 1 7) ∷ event_at 26 2 (runs b)
        ∷ event_at 27 2 (call b 3 0) ∷ event_at 27 2 idles ∷ [];
    steps = 28;
    ticks = 2;
    end = Pass;
  };
}

-- The server receives an item that it does not expect.
abbrev pub serves_and_fails : Injected
serves_and_fails = record {
  app = with_queue (
      endless_task 2 (codes "a") (forever ∷ on_queue_forever Receive ∷ Expect (Is (Some (Number 7))) ∷ EndLoop ∷ [])
      ∷ a_task (codes "b") (on_queue (Send (Number 7)) 0 ∷ on_queue (Send (Number 8)) 0 ∷ Delay 1 ∷ []) ∷ []);
  plan = [];
  run = record {
    events =
        event_at 5 0 (runs b) ∷ event_at 6 0 (call b 0 1) ∷ event_at 6 0 (runs a) ∷ event_at 7 0 (call a 1 7)
        ∷ event_at 14 0 (runs b) ∷ event_at 15 0 (call b 1 1) ∷ event_at 15 0 (runs a) ∷ event_at 16 0 (call a 1 8) ∷ [];
    steps = 18;
    ticks = 0;
    end = Check a 2;
  };
}

-- No task sends an item: the run is stuck, since it waits for a task that is not endless.
abbrev pub nothing_to_serve : Injected
nothing_to_serve = record {
  app = with_queue (
      endless_task 2 (codes "a") (forever ∷ on_queue_forever Receive ∷ EndLoop ∷ [])
      ∷ a_task (codes "b") (on_queue_forever Receive ∷ []) ∷ []);
  plan = [];
  run = record {
    events = event_at 5 0 (runs b) ∷ event_at 10 0 idles ∷ [];
    steps = 11;
    ticks = 0;
    end = Stuck;
  };
}

-- A run that waits for no task never passes.
abbrev pub serves_alone : Injected
serves_alone = record {
  app = with_queue (
      endless_task 2 (codes "a") (forever ∷ on_queue_forever Receive ∷ EndLoop ∷ []) ∷ []);
  plan = [];
  run = record {
    events = event_at 5 0 idles ∷ [];
    steps = 6;
    ticks = 0;
    end = Stuck;
  };
}

-- all of them
abbrev pub endless_examples : List Injected
endless_examples =
    serves_and_passes ∷ serves_and_fails ∷ nothing_to_serve ∷ serves_alone ∷ []
