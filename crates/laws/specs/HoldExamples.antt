-- Worked examples with event groups, suspended tasks and a held scheduler: applications, and the runs that result.
use Rattle.model.specs.declared.value.Value.TheVariants.{Number}
use Rattle.std.specs.Prelude.{ℕ, true, false, List, [], ◌∷◌, None, codes}
use Rattle.model.specs.declared.object.ObjectKind.TheVariants.{Queue}
use Rattle.model.specs.declared.op.Access.TheVariants.{Send, Receive}
use Rattle.model.specs.declared.op.Op.{Op}
use Rattle.model.specs.declared.op.Op.TheVariants.{Work, Delay, DelayUntil, Time, SetBits, GetBits, WaitBits, Suspend, Resume}
use Rattle.model.specs.declared.op.Op.TheVariants.{SuspendAll, ResumeAll}
use Rattle.model.specs.declared.event.Misuse.TheVariants.{WhileSuspended, NotSuspended, EndedSuspended}
use Rattle.model.specs.declared.event.End.TheVariants.{Pass, Misuse}
use Rattle.model.specs.declared.event.What.TheVariants as what
use Rattle.model.specs.Application.{Application, Definition}
use Rattle.laws.specs.Examples.{a_task, a_task_of, the_application, with_queue, on_queue, a, b, c, event_at, call, runs, idles}
use Rattle.laws.specs.HandlerExamples.{Injected, with_handler, interrupted_at, sends, isr}

-- ---- words

-- the one event group of an example
abbrev pub g : ℕ
g = 0

-- an application of one event group and these tasks, that starts at 0
abbrev pub with_group : List Definition → Application
with_group tasks = record (the_application 0 tasks) { group_count = 1 }

-- The task waits forever for one of these bits, and clears them.
abbrev pub wait_for_one : (mask : ℕ) → Op
wait_for_one mask = WaitBits g (record { mask = mask; all = false; clear = true }) None

-- The task waits forever for all of these bits, and leaves them set.
abbrev pub wait_for_all : (mask : ℕ) → Op
wait_for_all mask = WaitBits g (record { mask = mask; all = true; clear = false }) None

-- ---- event groups

-- One set wakes two waiting tasks. Both see the bits as they were set, though one of them clears its own.
abbrev pub one_set_wakes_two : Injected
one_set_wakes_two = record {
  app = with_group (
      a_task_of 2 (codes "a") (wait_for_one 1 ∷ []) ∷ a_task_of 3 (codes "b") (wait_for_all 3 ∷ [])
      ∷ a_task_of 1 (codes "c") (SetBits g 3 ∷ GetBits g ∷ []) ∷ []);
  plan = [];
  run = record {
    events =
        event_at 1 0 (runs a) ∷ event_at 3 0 (runs c) ∷ event_at 5 0 (call c 0 2) ∷ event_at 5 0 (runs b)
        ∷ event_at 6 0 (call b 0 3) ∷ event_at 6 0 (runs a) ∷ event_at 7 0 (call a 0 3) ∷ event_at 7 0 (runs c)
        ∷ event_at 8 0 (call c 1 2) ∷ event_at 8 0 idles ∷ [];
    steps = 9;
    ticks = 0;
    end = Pass;
  };
}

-- ---- suspended tasks

-- A sleeping task that is suspended and resumed doesn't sleep again: the rest of its delay is cut off.
abbrev pub sleep_cut_off : Injected
sleep_cut_off = record {
  app = the_application 0 (
      a_task_of 2 (codes "a") (Delay 9 ∷ Time ∷ [])
      ∷ a_task_of 1 (codes "b") (Work 1 ∷ Suspend a ∷ Work 1 ∷ Resume a ∷ Work 1 ∷ []) ∷ []);
  plan = [];
  run = record {
    events =
        event_at 0 0 (call a 0 0) ∷ event_at 0 0 (runs b) ∷ event_at 2 1 (call b 1 1) ∷ event_at 4 2 (call b 3 1)
        ∷ event_at 4 2 (runs a) ∷ event_at 5 2 (call a 1 2) ∷ event_at 5 2 (runs b) ∷ event_at 6 3 idles ∷ [];
    steps = 7;
    ticks = 3;
    end = Pass;
  };
}

-- The next `delay_until` after a sleep that was cut off counts from the time at which it should have ended.
abbrev pub cut_off_and_periodic : Injected
cut_off_and_periodic = record {
  app = the_application 0 (
      a_task_of 2 (codes "a") (DelayUntil 5 ∷ DelayUntil 5 ∷ Time ∷ [])
      ∷ a_task_of 1 (codes "b") (Suspend a ∷ Work 2 ∷ Resume a ∷ []) ∷ []);
  plan = [];
  run = record {
    events =
        event_at 0 0 (call a 0 1) ∷ event_at 0 0 (runs b) ∷ event_at 1 0 (call b 0 1) ∷ event_at 4 2 (call b 2 1)
        ∷ event_at 4 2 (runs a) ∷ event_at 5 2 (call a 1 1) ∷ event_at 5 2 idles ∷ event_at 10 7 (runs a)
        ∷ event_at 11 7 (call a 2 7) ∷ event_at 11 7 idles ∷ [];
    steps = 12;
    ticks = 7;
    end = Pass;
  };
}

-- A receive is suspended while it waits, and resumed. It tries again, and waits until its old deadline.
abbrev pub resumed_with_its_deadline : Injected
resumed_with_its_deadline = record {
  app = with_queue (
      a_task_of 2 (codes "a") (on_queue Receive 5 ∷ [])
      ∷ a_task_of 1 (codes "b") (Suspend a ∷ Work 2 ∷ Resume a ∷ Work 1 ∷ []) ∷ []);
  plan = [];
  run = record {
    events =
        event_at 4 0 (runs b) ∷ event_at 5 0 (call b 0 1) ∷ event_at 8 2 (call b 2 1) ∷ event_at 8 2 (runs a)
        ∷ event_at 13 2 (runs b) ∷ event_at 14 3 idles ∷ event_at 16 5 (runs a) ∷ event_at 17 5 (what.CallNone a 0)
        ∷ event_at 17 5 idles ∷ [];
    steps = 18;
    ticks = 5;
    end = Pass;
  };
}

-- ---- the scheduler held

-- While the scheduler is held, ticks pass and an interrupt wakes a higher task. When the scheduler is released, the held ticks
-- are applied and the task runs.
abbrev pub interrupt_while_held : Injected
interrupt_while_held = record {
  app = interrupted_at 2 (with_handler (Queue 1 ∷ []) (sends 0 4 ∷ []) (
      a_task_of 1 (codes "a") (SuspendAll ∷ Work 3 ∷ ResumeAll ∷ []) ∷ a_task_of 2 (codes "b") (on_queue Receive 9 ∷ []) ∷ []));
  plan = [];
  run = record {
    events =
        event_at 4 0 (runs a) ∷ event_at 5 0 (call a 0 0) ∷ event_at 7 0 (isr 0 1) ∷ event_at 9 3 (call a 2 0)
        ∷ event_at 9 3 (runs b) ∷ event_at 10 3 (call b 0 4) ∷ event_at 10 3 idles ∷ [];
    steps = 11;
    ticks = 3;
    end = Pass;
  };
}

-- A call that may wait is a misuse while the scheduler is held, even if it wouldn't wait.
abbrev pub waits_while_held : Injected
waits_while_held = record {
  app = with_queue (a_task (codes "a") (SuspendAll ∷ on_queue (Send (Number 1)) 0 ∷ []) ∷ []);
  plan = [];
  run = record { events = event_at 0 0 (call a 0 0) ∷ []; steps = 2; ticks = 0; end = Misuse a 1 WhileSuspended };
}

-- A task releases the scheduler, which isn't held.
abbrev pub released_and_not_held : Injected
released_and_not_held = record {
  app = the_application 0 (a_task (codes "a") (ResumeAll ∷ []) ∷ []);
  plan = [];
  run = record { events = []; steps = 1; ticks = 0; end = Misuse a 0 NotSuspended };
}

-- A task reaches the end of its script while it holds the scheduler.
abbrev pub ends_and_holds : Injected
ends_and_holds = record {
  app = the_application 0 (a_task (codes "a") (SuspendAll ∷ []) ∷ []);
  plan = [];
  run = record { events = event_at 0 0 (call a 0 0) ∷ []; steps = 1; ticks = 0; end = Misuse a 0 EndedSuspended };
}

-- all of them
abbrev pub hold_examples : List Injected
hold_examples =
    one_set_wakes_two ∷ sleep_cut_off ∷ cut_off_and_periodic ∷ resumed_with_its_deadline ∷ interrupt_while_held
    ∷ waits_while_held ∷ released_and_not_held ∷ ends_and_holds ∷ []
