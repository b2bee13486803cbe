-- Worked examples: applications, and the runs that result.
use Rattle.model.specs.declared.value.Value as value
use Rattle.model.specs.declared.value.Value.TheVariants.{Number}
use Rattle.std.specs.Prelude.{ℕ, false, List, [], ◌∷◌, Some, None, codes}
use Rattle.model.specs.declared.answer.AnswerCondition.TheVariants.{Is}
use Rattle.model.specs.declared.object.ObjectKind.{ObjectKind}
use Rattle.model.specs.declared.object.ObjectKind.TheVariants.{Queue}
use Rattle.model.specs.declared.op.Access.{Access}
use Rattle.model.specs.declared.op.Access.TheVariants.{Send, Receive, Peek}
use Rattle.model.specs.declared.op.Op.{Op}
use Rattle.model.specs.declared.op.Op.TheVariants.{Work, Delay, DelayUntil, Yield, Time, Mark, Expect, Repeat, End as EndLoop}
use Rattle.model.specs.declared.op.Op.TheVariants.{Await}
use Rattle.model.specs.declared.event.What.{What}
use Rattle.model.specs.declared.event.What.TheVariants as what
use Rattle.model.specs.declared.event.Event.{Event}
use Rattle.model.specs.declared.event.End.TheVariants.{Pass, Check}
use Rattle.model.specs.Application.{Application, Definition, Limits}
use Rattle.model.specs.Run.{Run, IsRun}

-- ---- words

-- limits that no example reaches
abbrev pub wide : Limits
wide = record { ticks = 1000000; steps = 1000000 }

-- a task of priority 1
abbrev pub a_task : List ℕ → List Op → Definition
a_task name script = record { name = name; priority = 1; endless = false; script = script }

-- an application that starts at this time, without objects
abbrev pub the_application : ℕ → List Definition → Application
the_application start tasks = record {
  start = start;
  tickless = false;
  limits = wide;
  objects = [];
  group_count = 0;
  variables = [];
  handlers = [];
  interrupts = [];
  tasks = tasks;
  daemon = None;
  points = [];
}

-- a task of this priority
abbrev pub a_task_of : ℕ → List ℕ → List Op → Definition
a_task_of priority name script = record { name = name; priority = priority; endless = false; script = script }

-- an application of these objects and these tasks, that starts at 0
abbrev pub with_objects : List ObjectKind → List Definition → Application
with_objects objects tasks = record (the_application 0 tasks) { objects = objects }

-- one with one queue of length 1
abbrev pub with_queue : List Definition → Application
with_queue tasks = with_objects (Queue 1 ∷ []) tasks

-- a call on that queue, which may wait for this many ticks
abbrev pub on_queue : Access value.Value → ℕ → Op
on_queue access ticks = Await 0 access (Some ticks)

-- the same without a timeout
abbrev pub on_queue_forever : Access value.Value → Op
on_queue_forever access = Await 0 access None

-- the first task
abbrev pub a : ℕ
a = 0

-- the second task
abbrev pub b : ℕ
b = 1

-- the third task
abbrev pub c : ℕ
c = 2

-- an event of this step, at this printed tick
abbrev pub event_at : ℕ → ℕ → What → Event
event_at step tick w = record { step = step; tick = tick; what = w }

-- the op of this index has completed with this result
abbrev pub call : ℕ → ℕ → ℕ → What
call task op_index answer = what.Call task op_index answer

-- the processor goes to this task
abbrev pub runs : ℕ → What
runs task = what.Run (Some task)

-- the processor goes to idle
abbrev pub idles : What
idles = what.Run None

-- an application, and its run
pub record Example : Type 0 where
  pub app : Application
  pub run : Run

-- The application's run without injections is the given one.
abbrev pub Runs : Example → Type 0
Runs e = IsRun e.app [] e.app.limits e.run

-- ---- the table

-- two tasks of one priority compute, and take turns tick by tick
abbrev pub round_robin : Example
round_robin = record {
  app = the_application 0 (a_task (codes "a") (Work 3 ∷ []) ∷ a_task (codes "b") (Work 3 ∷ []) ∷ []);
  run = record {
    events =
        event_at 0 1 (runs b) ∷ event_at 1 2 (runs a) ∷ event_at 2 3 (runs b)
        ∷ event_at 3 4 (runs a) ∷ event_at 4 5 (runs b) ∷ event_at 5 6 idles ∷ [];
    steps = 6;
    ticks = 6;
    end = Pass;
  };
}

-- `delay 0` yields to an equal, and doesn't sleep
abbrev pub delay_zero : Example
delay_zero = record {
  app = the_application 0 (a_task (codes "a") (Delay 0 ∷ Mark (Number 1) ∷ []) ∷ a_task (codes "b") (Mark (Number 2) ∷ []) ∷ []);
  run = record {
    events =
        event_at 0 0 (call a 0 0) ∷ event_at 0 0 (runs b) ∷ event_at 1 0 (what.Mark b 2)
        ∷ event_at 1 0 (runs a) ∷ event_at 2 0 (what.Mark a 1) ∷ event_at 2 0 idles ∷ [];
    steps = 3;
    ticks = 0;
    end = Pass;
  };
}

-- `delay 1` sleeps until the next tick
abbrev pub delay_one : Example
delay_one = record {
  app = the_application 0 (a_task (codes "a") (Delay 1 ∷ Mark (Number 1) ∷ []) ∷ a_task (codes "b") (Mark (Number 2) ∷ []) ∷ []);
  run = record {
    events =
        event_at 0 0 (call a 0 0) ∷ event_at 0 0 (runs b) ∷ event_at 1 0 (what.Mark b 2) ∷ event_at 1 0 idles
        ∷ event_at 2 1 (runs a) ∷ event_at 3 1 (what.Mark a 1) ∷ event_at 3 1 idles ∷ [];
    steps = 4;
    ticks = 1;
    end = Pass;
  };
}

-- two tasks that sleep until the same time, past the wrap of the tick, wake in the order in which they began
abbrev pub across_the_wrap : Example
across_the_wrap = record {
  app = the_application 4294967294 (
      a_task (codes "a") (Yield ∷ Work 1 ∷ Delay 2 ∷ Mark (Number 1) ∷ [])
      ∷ a_task (codes "b") (Delay 3 ∷ Mark (Number 2) ∷ []) ∷ []);
  run = record {
    events =
        event_at 0 4294967294 (call a 0 0) ∷ event_at 0 4294967294 (runs b)
        ∷ event_at 1 4294967294 (call b 0 0) ∷ event_at 1 4294967294 (runs a)
        ∷ event_at 3 4294967295 (call a 2 0) ∷ event_at 3 4294967295 idles
        ∷ event_at 5 1 (runs b) ∷ event_at 6 1 (what.Mark b 2) ∷ event_at 6 1 (runs a)
        ∷ event_at 7 1 (what.Mark a 1) ∷ event_at 7 1 idles ∷ [];
    steps = 8;
    ticks = 3;
    end = Pass;
  };
}

-- `delay_until` continues at once if its time has come, and otherwise sleeps; the next one counts from that time
abbrev pub periodic : Example
periodic = record {
  app = the_application 0 (a_task (codes "a") (Work 3 ∷ DelayUntil 2 ∷ DelayUntil 2 ∷ Time ∷ []) ∷ []);
  run = record {
    events =
        event_at 3 3 (call a 1 0) ∷ event_at 4 3 (call a 2 1) ∷ event_at 4 3 idles
        ∷ event_at 5 4 (runs a) ∷ event_at 6 4 (call a 3 4) ∷ event_at 6 4 idles ∷ [];
    steps = 7;
    ticks = 4;
    end = Pass;
  };
}

-- a loop of two turns is three steps
abbrev pub two_turns : Example
two_turns = record {
  app = the_application 0 (a_task (codes "a") (Repeat (Some 2) ∷ EndLoop ∷ []) ∷ []);
  run = record { events = event_at 2 0 idles ∷ []; steps = 3; ticks = 0; end = Pass };
}

-- a failed `expect` ends the run
abbrev pub failed_expect : Example
failed_expect = record {
  app = the_application 0 (a_task (codes "a") (Time ∷ Expect (Is (Some (Number 1))) ∷ []) ∷ []);
  run = record { events = event_at 0 0 (call a 0 0) ∷ []; steps = 2; ticks = 0; end = Check a 1 };
}

-- ---- queues

-- a receive that times out
abbrev pub times_out : Example
times_out = record {
  app = with_queue (a_task (codes "a") (on_queue Receive 5 ∷ Expect (Is None) ∷ []) ∷ []);
  run = record {
    events =
        event_at 4 0 idles ∷ event_at 9 5 (runs a) ∷ event_at 10 5 (what.CallNone a 0) ∷ event_at 11 5 idles ∷ [];
    steps = 12;
    ticks = 5;
    end = Pass;
  };
}

-- a peek that is woken passes the wake on to the next waiting task
abbrev pub peek_passes_on : Example
peek_passes_on = record {
  app = with_queue (
      a_task_of 3 (codes "a") (on_queue Peek 9 ∷ []) ∷ a_task_of 2 (codes "b") (on_queue Receive 9 ∷ [])
      ∷ a_task_of 1 (codes "c") (on_queue (Send (Number 5)) 0 ∷ []) ∷ []);
  run = record {
    events =
        event_at 4 0 (runs b) ∷ event_at 9 0 (runs c) ∷ event_at 10 0 (call c 0 1) ∷ event_at 10 0 (runs a)
        ∷ event_at 11 0 (call a 0 5) ∷ event_at 11 0 (runs b) ∷ event_at 12 0 (call b 0 5) ∷ event_at 12 0 idles ∷ [];
    steps = 13;
    ticks = 0;
    end = Pass;
  };
}

-- a send wakes a reader of higher priority, which runs at once
abbrev pub send_wakes : Example
send_wakes = record {
  app = with_queue (
      a_task_of 1 (codes "a") (on_queue (Send (Number 7)) 0 ∷ Mark (Number 1) ∷ [])
      ∷ a_task_of 2 (codes "b") (on_queue_forever Receive ∷ []) ∷ []);
  run = record {
    events =
        event_at 4 0 (runs a) ∷ event_at 5 0 (call a 0 1) ∷ event_at 5 0 (runs b) ∷ event_at 6 0 (call b 0 7)
        ∷ event_at 6 0 (runs a) ∷ event_at 7 0 (what.Mark a 1) ∷ event_at 7 0 idles ∷ [];
    steps = 8;
    ticks = 0;
    end = Pass;
  };
}

-- two tasks wait for room in a full queue: the one of higher priority, which came first, gets it first
abbrev pub two_writers : Example
two_writers = record {
  app = with_queue (
      a_task_of 1 (codes "a") (on_queue_forever (Send (Number 1)) ∷ [])
      ∷ a_task_of 2 (codes "b") (on_queue_forever (Send (Number 2)) ∷ [])
      ∷ a_task_of 3 (codes "c") (
      on_queue (Send (Number 3)) 0 ∷ Delay 1 ∷ on_queue Receive 0 ∷ Delay 1 ∷ on_queue Receive 0 ∷ on_queue_forever Receive
      ∷ []) ∷ []);
  run = record {
    events =
        event_at 0 0 (call c 0 1) ∷ event_at 1 0 (call c 1 0) ∷ event_at 1 0 (runs b) ∷ event_at 6 0 (runs a)
        ∷ event_at 11 0 idles ∷ event_at 12 1 (runs c) ∷ event_at 13 1 (call c 2 3) ∷ event_at 14 1 (call c 3 0)
        ∷ event_at 14 1 (runs b) ∷ event_at 15 1 (call b 0 1) ∷ event_at 15 1 idles ∷ event_at 16 2 (runs c)
        ∷ event_at 17 2 (call c 4 2) ∷ event_at 22 2 (runs a) ∷ event_at 23 2 (call a 0 1) ∷ event_at 23 2 (runs c)
        ∷ event_at 24 2 (call c 5 1) ∷ event_at 24 2 idles ∷ [];
    steps = 25;
    ticks = 2;
    end = Pass;
  };
}

-- all of them
abbrev pub examples : List Example
examples =
    round_robin ∷ delay_zero ∷ delay_one ∷ across_the_wrap ∷ periodic ∷ two_turns ∷ failed_expect
    ∷ times_out ∷ peek_passes_on ∷ send_wakes ∷ two_writers ∷ []
