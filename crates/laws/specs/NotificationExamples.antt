-- Worked examples with notifications: applications, injections, and the runs that result.
use Rattle.std.specs.Prelude.{ℕ, true, false, List, [], ◌∷◌, Some, None, codes}
use Rattle.model.specs.declared.answer.AnswerCondition.TheVariants.{Is}
use Rattle.model.specs.declared.value.Value as value
use Rattle.model.specs.declared.value.Value.TheVariants.{Number, Answer}
use Rattle.model.specs.declared.notification.NotifyAction.{NotifyAction}
use Rattle.model.specs.declared.notification.NotifyAction.TheVariants.{Nothing, SetBits, Increment, Overwrite, Keep}
use Rattle.model.specs.declared.notification.NotificationWait.TheVariants.{Take, Wait}
use Rattle.model.specs.declared.notification.NotificationClear.TheVariants.{Pending, Bits}
use Rattle.model.specs.declared.op.Op.{Op}
use Rattle.model.specs.declared.op.Op.TheVariants.{Delay, Mark, Expect, Suspend, Resume, SuspendAll, EnterCritical}
use Rattle.model.specs.declared.op.Op.TheVariants.{Notify, AwaitNotification, ClearNotification}
use Rattle.model.specs.declared.op.IsrOp.{IsrOp}
use Rattle.model.specs.declared.op.IsrOp.TheVariants as isr_op
use Rattle.model.specs.declared.event.Misuse.TheVariants.{WhileSuspended, WhileCritical}
use Rattle.model.specs.declared.event.End.TheVariants.{Pass, Check, HandlerCheck, Misuse, Stuck}
use Rattle.model.specs.declared.event.What.TheVariants as what
use Rattle.model.specs.Application.{Application}
use Rattle.laws.specs.Examples.{a_task, a_task_of, the_application, a, b, event_at, call, runs, idles}
use Rattle.laws.specs.HandlerExamples.{Injected, with_handler, interrupted_at, h, point_at, isr}
use Rattle.laws.specs.SectionExamples.{mark}

-- ---- words

-- A handler notifies this task.
abbrev pub notifies : ℕ → NotifyAction value.Value → IsrOp
notifies task action = isr_op.Notify task action

-- The task takes its whole count, or one of it, and waits for at most this many ticks.
abbrev pub take_all : ℕ → Op
take_all ticks = AwaitNotification (Take true) (Some ticks)

abbrev pub take_one : ℕ → Op
take_one ticks = AwaitNotification (Take false) (Some ticks)

-- The task waits for a notification for at most this many ticks, and clears the first bits at its start and the others at its
-- end.
abbrev pub wait_clearing : (entry exit ticks : ℕ) → Op
wait_clearing entry exit ticks = AwaitNotification (Wait (record { entry = entry; exit = exit })) (Some ticks)

-- A task alone.
abbrev pub alone_with : List Op → Application
alone_with script = the_application 0 (a_task (codes "a") script ∷ [])

-- ---- a handler that comes at each step of a take

-- a task that takes what a handler counts
abbrev pub one_take : Application
one_take =
    with_handler [] (notifies a Increment ∷ []) (a_task_of 2 (codes "a") (take_all 5 ∷ Mark (Number 1) ∷ []) ∷ [])

-- The handler comes before the take begins: the take finds the count.
abbrev pub before_the_take : Injected
before_the_take = record {
  app = one_take;
  plan = point_at 0;
  run = record {
    events = event_at 0 0 (isr 0 1) ∷ event_at 0 0 (call a 0 1) ∷ event_at 1 0 (mark a 1) ∷ event_at 1 0 idles ∷ [];
    steps = 2;
    ticks = 0;
    end = Pass;
  };
}

-- It comes between the take's start and the switch: the task is Ready at once, and continues to run.
abbrev pub in_the_window : Injected
in_the_window = record {
  app = one_take;
  plan = point_at 1;
  run = record {
    events = event_at 1 0 (isr 0 1) ∷ event_at 2 0 (call a 0 1) ∷ event_at 3 0 (mark a 1) ∷ event_at 3 0 idles ∷ [];
    steps = 4;
    ticks = 0;
    end = Pass;
  };
}

-- It comes while the task waits: the task wakes.
abbrev pub while_it_waits : Injected
while_it_waits = record {
  app = one_take;
  plan = point_at 2;
  run = record {
    events =
        event_at 1 0 idles ∷ event_at 2 0 (isr 0 1) ∷ event_at 2 0 (runs a) ∷ event_at 2 0 (call a 0 1)
        ∷ event_at 3 0 (mark a 1) ∷ event_at 3 0 idles ∷ [];
    steps = 4;
    ticks = 0;
    end = Pass;
  };
}

-- It comes after the take's deadline and before its end: the take still returns the count.
abbrev pub after_its_deadline : Injected
after_its_deadline = record {
  app = one_take;
  plan = point_at 7;
  run = record {
    events =
        event_at 1 0 idles ∷ event_at 6 5 (runs a) ∷ event_at 7 5 (isr 0 1) ∷ event_at 7 5 (call a 0 1)
        ∷ event_at 8 5 (mark a 1) ∷ event_at 8 5 idles ∷ [];
    steps = 9;
    ticks = 5;
    end = Pass;
  };
}

-- ---- counts

-- a task of this script, and a handler that counts twice for it
abbrev pub two_counts : List Op → Application
two_counts script =
    with_handler [] (notifies a Increment ∷ notifies a Increment ∷ []) (a_task_of 2 (codes "a") script ∷ [])

-- Two increments by one handler wake the task once, and a take of the whole count returns 2. The next take finds none.
abbrev pub takes_both_at_once : Injected
takes_both_at_once = record {
  app = two_counts (take_all 9 ∷ take_all 0 ∷ []);
  plan = point_at 2;
  run = record {
    events =
        event_at 1 0 idles ∷ event_at 2 0 (isr 0 1) ∷ event_at 2 0 (isr 1 1) ∷ event_at 2 0 (runs a)
        ∷ event_at 2 0 (call a 0 2) ∷ event_at 3 0 (call a 1 0) ∷ event_at 3 0 idles ∷ [];
    steps = 4;
    ticks = 0;
    end = Pass;
  };
}

-- A take of one leaves the other.
abbrev pub takes_one_by_one : Injected
takes_one_by_one = record {
  app = two_counts (take_one 9 ∷ take_one 0 ∷ take_one 0 ∷ []);
  plan = point_at 2;
  run = record {
    events =
        event_at 1 0 idles ∷ event_at 2 0 (isr 0 1) ∷ event_at 2 0 (isr 1 1) ∷ event_at 2 0 (runs a)
        ∷ event_at 2 0 (call a 0 2) ∷ event_at 3 0 (call a 1 1) ∷ event_at 4 0 (call a 2 0) ∷ event_at 4 0 idles ∷ [];
    steps = 5;
    ticks = 0;
    end = Pass;
  };
}

-- A notification that leaves the count 0 wakes a take, which returns 0. The notification is then no longer pending.
abbrev pub takes_nothing : Injected
takes_nothing = record {
  app = the_application 0 (
      a_task_of 2 (codes "a") (AwaitNotification (Take true) None ∷ ClearNotification Pending ∷ [])
      ∷ a_task (codes "b") (Notify a Nothing ∷ []) ∷ []);
  plan = [];
  run = record {
    events =
        event_at 1 0 (runs b) ∷ event_at 2 0 (call b 0 1) ∷ event_at 2 0 (runs a) ∷ event_at 3 0 (call a 0 0)
        ∷ event_at 4 0 (call a 1 0) ∷ event_at 4 0 idles ∷ [];
    steps = 5;
    ticks = 0;
    end = Pass;
  };
}

-- ---- values

-- `keep` leaves the value unchanged while a notification is pending, and returns 0. `overwrite` doesn't.
abbrev pub keeps_and_overwrites : Injected
keeps_and_overwrites = record {
  app = alone_with (
      Notify a Nothing ∷ Notify a (Keep (Number 5)) ∷ ClearNotification Pending ∷ Notify a (Keep (Number 6))
      ∷ Notify a (Keep (Number 7)) ∷ wait_clearing 0 0 0 ∷ Notify a (Overwrite (Number 8)) ∷ Notify a (Overwrite (Number 9))
      ∷ wait_clearing 0 0 0 ∷ []);
  plan = [];
  run = record {
    events =
        event_at 0 0 (call a 0 1) ∷ event_at 1 0 (call a 1 0) ∷ event_at 2 0 (call a 2 1) ∷ event_at 3 0 (call a 3 1)
        ∷ event_at 4 0 (call a 4 0) ∷ event_at 5 0 (call a 5 6) ∷ event_at 6 0 (call a 6 1) ∷ event_at 7 0 (call a 7 1)
        ∷ event_at 8 0 (call a 8 9) ∷ event_at 8 0 idles ∷ [];
    steps = 9;
    ticks = 0;
    end = Pass;
  };
}

-- If a notification is pending, a wait clears nothing at its start, and clears its exit bits after it has its result. If none is
-- pending, it clears its entry bits at its start, and no exit bits if it times out.
abbrev pub clears_its_masks : Injected
clears_its_masks = record {
  app = alone_with (
      Notify a (Overwrite (Number 7)) ∷ wait_clearing 1 2 0 ∷ wait_clearing 1 4 0
      ∷ ClearNotification (Bits 4294967295) ∷ ClearNotification (Bits 0) ∷ []);
  plan = [];
  run = record {
    events =
        event_at 0 0 (call a 0 1) ∷ event_at 1 0 (call a 1 7) ∷ event_at 2 0 (what.CallNone a 2) ∷ event_at 3 0 (call a 3 4)
        ∷ event_at 4 0 (call a 4 0) ∷ event_at 4 0 idles ∷ [];
    steps = 5;
    ticks = 0;
    end = Pass;
  };
}

-- A wait that ends at its deadline returns `none`, and clears nothing at its end.
abbrev pub waits_in_vain : Injected
waits_in_vain = record {
  app = alone_with (
      Notify a (SetBits (Number 7)) ∷ ClearNotification Pending ∷ ClearNotification Pending ∷ wait_clearing 2 1 3
      ∷ ClearNotification (Bits 0) ∷ []);
  plan = [];
  run = record {
    events =
        event_at 0 0 (call a 0 1) ∷ event_at 1 0 (call a 1 1) ∷ event_at 2 0 (call a 2 0) ∷ event_at 4 0 idles
        ∷ event_at 7 3 (runs a) ∷ event_at 8 3 (what.CallNone a 3) ∷ event_at 9 3 (call a 4 5) ∷ event_at 9 3 idles ∷ [];
    steps = 10;
    ticks = 3;
    end = Pass;
  };
}

-- A notify has no value to work with if the last answer is `none`.
abbrev pub has_no_value : Injected
has_no_value = record {
  app = alone_with (wait_clearing 0 0 0 ∷ Notify a (SetBits Answer) ∷ []);
  plan = [];
  run = record { events = event_at 0 0 (what.CallNone a 0) ∷ []; steps = 2; ticks = 0; end = Check a 1 };
}

abbrev pub handler_has_no_value : Injected
handler_has_no_value = record {
  app = with_handler [] (notifies a (Overwrite Answer) ∷ []) (a_task (codes "a") (take_all 9 ∷ []) ∷ []);
  plan = point_at 0;
  run = record { events = []; steps = 1; ticks = 0; end = HandlerCheck h 0 };
}

-- ---- which tasks wake, and which don't

-- A woken task runs at once if its priority is higher than that of the notifying task.
abbrev pub goes_first : Injected
goes_first = record {
  app = the_application 0 (
      a_task_of 2 (codes "a") (
      AwaitNotification (Wait (record { entry = 0; exit = 4294967295 })) None ∷ Expect (Is (Some (Number 9))) ∷ [])
      ∷ a_task (codes "b") (Notify a (Overwrite (Number 9)) ∷ Mark (Number 1) ∷ []) ∷ []);
  plan = [];
  run = record {
    events =
        event_at 1 0 (runs b) ∷ event_at 2 0 (call b 0 1) ∷ event_at 2 0 (runs a) ∷ event_at 3 0 (call a 0 9)
        ∷ event_at 4 0 (runs b) ∷ event_at 5 0 (mark b 1) ∷ event_at 5 0 idles ∷ [];
    steps = 6;
    ticks = 0;
    end = Pass;
  };
}

-- A task that is suspended while it waits is not woken, and finds the value when it is resumed. Resuming a task that is only
-- waiting does nothing.
abbrev pub suspended_is_not_woken : Injected
suspended_is_not_woken = record {
  app = the_application 0 (
      a_task_of 2 (codes "a") (AwaitNotification (Take false) None ∷ Mark Answer ∷ [])
      ∷ a_task (codes "b") (Resume a ∷ Suspend a ∷ Notify a (SetBits (Number 6)) ∷ Resume a ∷ Mark (Number 5) ∷ []) ∷ []);
  plan = [];
  run = record {
    events =
        event_at 1 0 (runs b) ∷ event_at 2 0 (call b 0 0) ∷ event_at 3 0 (call b 1 1) ∷ event_at 4 0 (call b 2 1)
        ∷ event_at 5 0 (call b 3 1) ∷ event_at 5 0 (runs a) ∷ event_at 6 0 (call a 0 6) ∷ event_at 7 0 (mark a 6)
        ∷ event_at 7 0 (runs b) ∷ event_at 8 0 (mark b 5) ∷ event_at 8 0 idles ∷ [];
    steps = 9;
    ticks = 0;
    end = Pass;
  };
}

-- A task whose deadline has come keeps its place among tasks of its priority, and returns the count.
abbrev pub late_keeps_its_place : Injected
late_keeps_its_place = record {
  app = interrupted_at 1 (with_handler [] (notifies a Increment ∷ []) (
      a_task (codes "a") (take_all 1 ∷ Mark (Number 1) ∷ []) ∷ a_task (codes "b") (Delay 1 ∷ Mark (Number 2) ∷ []) ∷ []));
  plan = [];
  run = record {
    events =
        event_at 1 0 (runs b) ∷ event_at 2 0 (call b 0 0) ∷ event_at 2 0 idles ∷ event_at 3 1 (isr 0 1) ∷ event_at 3 1 (runs a)
        ∷ event_at 4 1 (call a 0 1) ∷ event_at 5 1 (mark a 1) ∷ event_at 5 1 (runs b) ∷ event_at 6 1 (mark b 2)
        ∷ event_at 6 1 idles ∷ [];
    steps = 7;
    ticks = 1;
    end = Pass;
  };
}

-- No one notifies a task that waits forever.
abbrev pub never_notified : Injected
never_notified = record {
  app = alone_with (AwaitNotification (Take true) None ∷ []);
  plan = [];
  run = record { events = event_at 1 0 idles ∷ []; steps = 2; ticks = 0; end = Stuck };
}

-- ---- misuses

-- A clear is allowed while the scheduler is suspended, but a notify is not.
abbrev pub notifies_while_suspended : Injected
notifies_while_suspended = record {
  app = alone_with (SuspendAll ∷ ClearNotification Pending ∷ ClearNotification (Bits 1) ∷ Notify a Nothing ∷ []);
  plan = [];
  run = record {
    events = event_at 0 0 (call a 0 0) ∷ event_at 1 0 (call a 1 0) ∷ event_at 2 0 (call a 2 0) ∷ [];
    steps = 4;
    ticks = 0;
    end = Misuse a 3 WhileSuspended;
  };
}

-- A take isn't allowed in a critical section, even if it wouldn't wait.
abbrev pub takes_while_critical : Injected
takes_while_critical = record {
  app = alone_with (EnterCritical ∷ ClearNotification Pending ∷ ClearNotification (Bits 1) ∷ take_all 0 ∷ []);
  plan = [];
  run = record {
    events = event_at 1 0 (call a 1 0) ∷ event_at 2 0 (call a 2 0) ∷ [];
    steps = 4;
    ticks = 0;
    end = Misuse a 3 WhileCritical;
  };
}

-- all of them
abbrev pub notification_examples : List Injected
notification_examples =
    before_the_take ∷ in_the_window ∷ while_it_waits ∷ after_its_deadline ∷ takes_both_at_once ∷ takes_one_by_one
    ∷ takes_nothing ∷ keeps_and_overwrites ∷ clears_its_masks ∷ waits_in_vain ∷ has_no_value ∷ handler_has_no_value
    ∷ goes_first ∷ suspended_is_not_woken ∷ late_keeps_its_place ∷ never_notified ∷ notifies_while_suspended
    ∷ takes_while_critical ∷ []
