-- Worked examples of tickless applications: applications, injections, and the runs that result.
use Rattle.model.specs.declared.value.Value.TheVariants.{Number}
use Rattle.std.specs.Prelude.{ℕ, true, List, [], ◌∷◌, codes}
use Rattle.model.specs.declared.object.ObjectKind.TheVariants.{Queue}
use Rattle.model.specs.declared.op.Access.TheVariants.{Receive}
use Rattle.model.specs.declared.op.Op.{Op}
use Rattle.model.specs.declared.op.Op.TheVariants.{Delay, DelayUntil, Time}
use Rattle.model.specs.declared.op.IsrOp.TheVariants as isr_op
use Rattle.model.specs.declared.event.What.TheVariants as what
use Rattle.model.specs.declared.event.End.TheVariants.{Pass, Ticks}
use Rattle.model.specs.Application.{Application}
use Rattle.laws.specs.Examples.{a_task, the_application, on_queue, a, b, event_at, call, runs, idles}
use Rattle.laws.specs.HandlerExamples.{Injected, with_handler, interrupted_at, point_at, sends, isr, h}

-- ---- words

-- the same application, but tickless and with this limit of ticks
abbrev pub tickless_within : ℕ → Application → Application
tickless_within ticks app = record app { tickless = true; limits = record { ticks = ticks; steps = 1000000 } }

-- a tickless application of one task with this script, that starts at 0
abbrev pub sleeper : ℕ → List Op → Application
sleeper ticks script = tickless_within ticks (the_application 0 (a_task (codes "a") script ∷ []))

-- an application of one task that sleeps for ten ticks, and of a handler that writes a mark
abbrev pub ten_ticks : Application
ten_ticks = with_handler [] (isr_op.Mark (Number 1) ∷ []) (a_task (codes "a") (Delay 10 ∷ Time ∷ []) ∷ [])

-- ---- the table

-- The longest sleep is one step, and the next one passes the wrap of the tick. `delay_until` counts the ticks of both.
abbrev pub long_sleeps : Injected
long_sleeps = record {
  app = sleeper 10000000000 (Delay 4294967295 ∷ Delay 2 ∷ DelayUntil 1 ∷ DelayUntil 4294967295 ∷ Time ∷ []);
  plan = [];
  run = record {
    events =
        event_at 0 0 (call a 0 0) ∷ event_at 0 0 idles ∷ event_at 1 4294967295 (runs a) ∷ event_at 2 4294967295 (call a 1 0)
        ∷ event_at 2 4294967295 idles ∷ event_at 3 1 (runs a) ∷ event_at 4 1 (call a 2 0) ∷ event_at 5 1 (call a 3 0)
        ∷ event_at 6 1 (call a 4 1) ∷ event_at 6 1 idles ∷ [];
    steps = 7;
    ticks = 4294967297;
    end = Pass;
  };
}

-- Idle sleeps until a base interrupt, and then continues to sleep.
abbrev pub up_to_an_interrupt : Injected
up_to_an_interrupt = record {
  app = tickless_within 1000000 (interrupted_at 3 ten_ticks);
  plan = [];
  run = record {
    events =
        event_at 0 0 (call a 0 0) ∷ event_at 0 0 idles ∷ event_at 1 3 (what.IsrMark h 1) ∷ event_at 2 10 (runs a)
        ∷ event_at 3 10 (call a 1 10) ∷ event_at 3 10 idles ∷ [];
    steps = 4;
    ticks = 10;
    end = Pass;
  };
}

-- Idle sleeps until the limit, and no further.
abbrev pub up_to_the_limit : Injected
up_to_the_limit = record {
  app = sleeper 5 (Delay 10 ∷ Time ∷ []);
  plan = [];
  run = record {
    events = event_at 0 0 (call a 0 0) ∷ event_at 0 0 idles ∷ [];
    steps = 2;
    ticks = 5;
    end = Ticks;
  };
}

-- Two tasks sleep until the same time, at which a base interrupt comes and the tick wraps. The interrupt comes first, and then
-- both run. The tick of an interrupt counts from reset, not from tick 0.
abbrev pub all_at_the_wrap : Injected
all_at_the_wrap = record {
  app =
      let tasks = a_task (codes "a") (Delay 6 ∷ Delay 5000000 ∷ Time ∷ []) ∷ a_task (codes "b") (DelayUntil 6 ∷ Time ∷ []) ∷ [] in
      let app = with_handler [] (isr_op.Mark (Number 1) ∷ []) tasks in
      record (tickless_within 10000000 (interrupted_at 6 app)) { start = 4294967290 };
  plan = [];
  run = record {
    events =
        event_at 0 4294967290 (call a 0 0) ∷ event_at 0 4294967290 (runs b) ∷ event_at 1 4294967290 (call b 0 1)
        ∷ event_at 1 4294967290 idles ∷ event_at 2 0 (what.IsrMark h 1) ∷ event_at 2 0 (runs a) ∷ event_at 3 0 (call a 1 0)
        ∷ event_at 3 0 (runs b) ∷ event_at 4 0 (call b 1 0) ∷ event_at 4 0 idles ∷ event_at 5 5000000 (runs a)
        ∷ event_at 6 5000000 (call a 2 5000000) ∷ event_at 6 5000000 idles ∷ [];
    steps = 7;
    ticks = 5000006;
    end = Pass;
  };
}

-- A task waits for an item, with a timeout, and then sleeps.
abbrev pub long_receive : Application
long_receive =
    tickless_within 10000000 (with_handler (Queue 1 ∷ []) (sends 0 7 ∷ []) (
    a_task (codes "a") (on_queue Receive 5000000 ∷ Delay 4000000 ∷ Time ∷ []) ∷ []))

-- The item is sent before idle would sleep until the timeout: the task gets the processor, and no tick passes.
abbrev pub woken_from_idle : Injected
woken_from_idle = record {
  app = long_receive;
  plan = point_at 5;
  run = record {
    events =
        event_at 4 0 idles ∷ event_at 5 0 (isr 0 1) ∷ event_at 5 0 (runs a) ∷ event_at 5 0 (call a 0 7)
        ∷ event_at 6 0 (call a 1 0) ∷ event_at 6 0 idles ∷ event_at 7 4000000 (runs a) ∷ event_at 8 4000000 (call a 2 4000000)
        ∷ event_at 8 4000000 idles ∷ [];
    steps = 9;
    ticks = 4000000;
    end = Pass;
  };
}

-- The item is sent while no task waits for it: idle continues to sleep in that step.
abbrev pub sleeps_on : Injected
sleeps_on = record {
  app = long_receive;
  plan = point_at 8;
  run = record {
    events =
        event_at 4 0 idles ∷ event_at 5 5000000 (runs a) ∷ event_at 6 5000000 (what.CallNone a 0)
        ∷ event_at 7 5000000 (call a 1 0) ∷ event_at 7 5000000 idles ∷ event_at 8 5000000 (isr 0 1)
        ∷ event_at 8 9000000 (runs a) ∷ event_at 9 9000000 (call a 2 9000000) ∷ event_at 9 9000000 idles ∷ [];
    steps = 10;
    ticks = 9000000;
    end = Pass;
  };
}

-- all of them
abbrev pub tickless_examples : List Injected
tickless_examples = long_sleeps ∷ up_to_an_interrupt ∷ up_to_the_limit ∷ all_at_the_wrap ∷ woken_from_idle ∷ sleeps_on ∷ []
