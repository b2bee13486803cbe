-- Runs whose texts are compared letter by letter.
use Rattle.std.specs.Prelude.{ℕ, Bool, true, false, List, [], ◌∷◌, Some, None, codes}
use Rattle.model.specs.Application.{Application, Definition, Handler}
use Rattle.model.specs.Run.{Run}
use Rattle.model.specs.Campaign as campaign
use Rattle.model.specs.declared.op.Op.{Op}
use Rattle.model.specs.declared.op.Op.TheVariants.{Delay, DelayUntil, Mark, Await, Do, GiveMutex, SetBits, ClearBits, GetBits}
use Rattle.model.specs.declared.op.Op.TheVariants.{WaitBits, Notify, AwaitNotification, ClearNotification, Suspend, Resume}
use Rattle.model.specs.declared.op.Op.TheVariants.{SuspendAll}
use Rattle.model.specs.declared.op.Op.TheVariants.{ResumeAll}
use Rattle.model.specs.declared.notification.NotifyAction.TheVariants as notify
use Rattle.model.specs.declared.notification.NotificationWait.TheVariants as awaited
use Rattle.model.specs.declared.notification.NotificationClear.TheVariants as cleared
use Rattle.model.specs.declared.op.Access.TheVariants.{SendFront, Take, Give, Lock}
use Rattle.model.specs.declared.value.Value.TheVariants.{Number}
use Rattle.model.specs.declared.op.IsrOp.{IsrOp}
use Rattle.model.specs.declared.op.IsrOp.TheVariants as isr_op
use Rattle.model.specs.declared.event.Event.{Event}
use Rattle.model.specs.declared.event.What.{What}
use Rattle.model.specs.declared.event.What.TheVariants as what
use Rattle.model.specs.declared.event.End.TheVariants.{Pass, Check, Misuse}
use Rattle.model.specs.declared.event.Misuse.TheVariants.{WhileSuspended, NotHolder}
use Rattle.model.specs.declared.object.ObjectKind.TheVariants as kind
use Rattle.model.specs.declared.plan.Injection.{Injection}
use Rattle.model.specs.declared.totals.Totals.{Totals}
use Rattle.report.specs.Shards.{Shard}
use Rattle.report.specs.Views.{failing, plain}
use Rattle.report.specs.declared.title.Title.{Title}
use Rattle.report.specs.declared.title.Title.TheVariants.{Row}
use Rattle.report.specs.declared.view.View.{View}

-- an application of these tasks, from tick 0 and under no limits but the most
abbrev pub app_of : List Definition → Application
app_of tasks =
    record {
      start = 0;
      tickless = false;
      limits = record { ticks = 1000000; steps = 1000000 };
      objects = [];
      group_count = 0;
      variables = [];
      handlers = [];
      interrupts = [];
      tasks = tasks;
      daemon = None;
      points = [];
    }

-- a task of priority 1
abbrev pub a_task : List ℕ → List Op → Definition
a_task name script = record { name = name; priority = 1; endless = false; script = script }

-- the tasks by their numbers
abbrev pub a : ℕ
a = 0

abbrev pub b : ℕ
b = 1

-- an event of this step, with this printed tick
abbrev pub event_at : ℕ → ℕ → What → Event
event_at step tick w = record { step = step; tick = tick; what = w }

-- a `delay 1` beside a task that only marks
abbrev pub delay_one : Application
delay_one = app_of (a_task (codes "a") (Delay 1 ∷ Mark (Number 1) ∷ []) ∷ a_task (codes "b") (Mark (Number 2) ∷ []) ∷ [])

abbrev pub delay_one_run : Run
delay_one_run = record {
  events =
      event_at 0 0 (what.Call a 0 0) ∷ event_at 0 0 (what.Run (Some b)) ∷ event_at 1 0 (what.Mark b 2)
      ∷ event_at 1 0 (what.Run None) ∷ event_at 2 1 (what.Run (Some a)) ∷ event_at 3 1 (what.Mark a 1)
      ∷ event_at 3 1 (what.Run None) ∷ [];
  steps = 4;
  ticks = 1;
  end = Pass;
}

-- a task that gives a mutex back twice, and a handler that gives a semaphore
abbrev pub two_unlocks : Application
two_unlocks =
    record (app_of
    (a_task (codes "a") (Do 0 Give ∷ Await 0 Take (Some 0) ∷ Await 1 Lock None ∷ GiveMutex 1 ∷ GiveMutex 1 ∷ []) ∷ [])) {
      objects = kind.Semaphore 1 0 ∷ kind.Mutex ∷ [];
      handlers = record { name = codes "h"; ops = isr_op.Do 0 Give ∷ []; armed = true; apart = 0 } ∷ [];
    }

-- the row of the handler before step 0
abbrev pub two_unlocks_row : Title
two_unlocks_row = Row 0 (record { step = 0; handler = 0 } ∷ []) true

abbrev pub two_unlocks_run : Run
two_unlocks_run = record {
  events =
      event_at 0 0 (what.Isr 0 0 1) ∷ event_at 0 0 (what.Call a 0 0) ∷ event_at 1 0 (what.Call a 1 1)
      ∷ event_at 2 0 (what.Call a 2 1) ∷ event_at 3 0 (what.Call a 3 1) ∷ [];
  steps = 5;
  ticks = 0;
  end = Misuse a 4 NotHolder;
}

-- an op of a handler that has the daemon set a bit, or clear it
abbrev pub command : (clear : Bool) → IsrOp
command clear = isr_op.Command (record { group = 0; mask = 1; clear = clear })

-- a task that has to do with an event group, with itself and with the scheduler, and a handler that does too
abbrev pub each_hold : Application
each_hold = record (app_of (a_task (codes "a") (
    SetBits 0 5 ∷ WaitBits 0 (record { mask = 4; all = false; clear = true }) None ∷ ClearBits 0 1 ∷ GetBits 0
    ∷ Resume 0 ∷ Suspend 0 ∷ SuspendAll ∷ ResumeAll ∷ []) ∷ [])) {
      group_count = 1;
      handlers = record {
        name = codes "h";
        ops = isr_op.GetBits 0 ∷ isr_op.Resume 0 ∷ command false ∷ command true ∷ [];
        armed = true;
        apart = 0;
      } ∷ [];
    }

-- one event of each of their ops; no run reports these events
abbrev pub each_hold_run : Run
each_hold_run = record {
  events =
      event_at 1 0 (what.Call a 0 5) ∷ event_at 2 0 (what.Call a 1 5) ∷ event_at 3 0 (what.Call a 2 1)
      ∷ event_at 4 0 (what.Call a 3 0) ∷ event_at 5 0 (what.Call a 4 0) ∷ event_at 6 0 (what.Call a 5 1)
      ∷ event_at 7 0 (what.Isr 0 0 0) ∷ event_at 7 0 (what.Isr 0 1 1)
      ∷ event_at 7 0 (what.Isr 0 2 1) ∷ event_at 7 0 (what.Isr 0 3 0)
      ∷ event_at 8 0 (what.Call a 6 0) ∷ event_at 9 0 (what.Call a 7 0) ∷ event_at 9 0 (what.Obeyed a false 1)
      ∷ event_at 9 0 (what.Obeyed a true 1) ∷ [];
  steps = 10;
  ticks = 0;
  end = Misuse a 7 WhileSuspended;
}

-- a task that has to do with its own notification, and a handler that notifies it
abbrev pub each_notification : Application
each_notification = record (app_of (a_task (codes "a") (
    Notify 0 notify.Increment ∷ AwaitNotification (awaited.Take true) None
    ∷ AwaitNotification (awaited.Wait (record { entry = 0; exit = 1 })) (Some 5) ∷ ClearNotification cleared.Pending
    ∷ ClearNotification (cleared.Bits 1) ∷ []) ∷ [])) {
      handlers = record { name = codes "h"; ops = isr_op.Notify 0 notify.Nothing ∷ []; armed = true; apart = 0 } ∷ [];
    }

-- one event of each of their ops; no run reports these events
abbrev pub each_notification_run : Run
each_notification_run = record {
  events =
      event_at 0 0 (what.Isr 0 0 1) ∷ event_at 0 0 (what.Call a 0 1) ∷ event_at 1 0 (what.Call a 1 1)
      ∷ event_at 8 5 (what.CallNone a 2) ∷ event_at 9 5 (what.Call a 3 0) ∷ event_at 10 5 (what.Call a 4 4294967295) ∷ [];
  steps = 11;
  ticks = 5;
  end = Pass;
}

-- a handler that sends an item to the front of a queue
abbrev pub a_handler : Handler
a_handler = record { name = codes "ABCDEFGHIJKLMNOP"; ops = isr_op.Do 0 (SendFront (Number 1)) ∷ []; armed = true; apart = 0 }

-- one event of each form, with the largest numbers; no run reports these events
abbrev pub each_form : Application
each_form = record (app_of (a_task (codes "abcdefghijklmnop") (DelayUntil 1 ∷ []) ∷ [])) { handlers = a_handler ∷ [] }

abbrev pub each_form_run : Run
each_form_run = record {
  events =
      event_at 4294967295 4294967295 (what.Call a 0 4294967295) ∷ event_at 0 0 (what.CallNone a 0)
      ∷ event_at 0 0 (what.CallNone a 1) ∷ event_at 1 10 (what.Obeyed a true 4294967295) ∷ event_at 1 10 (what.Mark a 4294967295)
      ∷ event_at 1 10 (what.Run (Some a)) ∷ event_at 1 10 (what.Run None)
      ∷ event_at 1 10 (what.Isr 0 0 4294967295) ∷ event_at 1 10 (what.IsrNone 0 0) ∷ event_at 1 10 (what.IsrNone 0 1)
      ∷ event_at 1 10 (what.IsrMark 0 4294967295) ∷ [];
  steps = 4294967295;
  ticks = 281474976710656;
  end = Check a 65535;
}

-- the handler, whose name is of the greatest length, at the greatest step
abbrev pub last_injection : Injection
last_injection = record { step = 1000000; handler = 0 }

-- a row of the greatest number, of that injection
abbrev pub last_row : (reached : Bool) → Title
last_row reached = Row 1000000 (last_injection ∷ []) reached

-- one of three of them
abbrev pub longest_row : (reached : Bool) → Title
longest_row reached = Row 1000000 (last_injection ∷ last_injection ∷ last_injection ∷ []) reached

-- a task and a handler that mark
abbrev pub two_marks : Application
two_marks =
    record (app_of (a_task (codes "a") (Mark (Number 1) ∷ []) ∷ []))
    { handlers = record { name = codes "h"; ops = isr_op.Mark (Number 2) ∷ []; armed = true; apart = 0 } ∷ [] }

-- the events of the task's step
abbrev pub one_mark : List Event
one_mark = event_at 0 0 (what.Mark a 1) ∷ event_at 0 0 (what.Run None) ∷ []

-- a row of the handler, whose run has these events
abbrev pub marked_row : (step : ℕ) → (reached : Bool) → List Event → campaign.Row
marked_row step reached events = record {
  point = record { step = step; handler = 0 } ∷ [];
  reached = reached;
  run = record { events = events; steps = 1; ticks = 0; end = Pass };
}

-- a campaign of two rows: the handler runs before step 0; step 1 isn't reached
abbrev pub two_rows : List campaign.Row
two_rows = marked_row 0 true (event_at 0 0 (what.IsrMark 0 2) ∷ one_mark) ∷ marked_row 1 false one_mark ∷ []

-- of each row its head line
abbrev pub heads_alone : View
heads_alone = record plain { heads = true }

-- of rows that don't pass all lines
abbrev pub failing_rows : View
failing_rows = record plain { ends = failing }

-- the second of two parts
abbrev pub second_half : Shard
second_half = record { number = 2; count = 2 }

-- seven rows that pass; one of them is not reached
abbrev pub all_pass : Totals
all_pass = record { rows = 7; pass = 7; check = 0; misuse = 0; ticks = 0; steps = 0; stuck = 0; not_reached = 1 }

-- rows that end in each way, each way another number of times
abbrev pub each_end : Totals
each_end = record { rows = 4294967295; pass = 1; check = 20; misuse = 3; ticks = 40; steps = 5; stuck = 60; not_reached = 7 }
