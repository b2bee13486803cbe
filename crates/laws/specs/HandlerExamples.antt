-- Worked examples with interrupt handlers: applications, injections, and the runs that result.
use Rattle.model.specs.declared.value.Value.TheVariants.{Number}
use Rattle.std.specs.Prelude.{ℕ, Bool, true, false, List, [], ◌∷◌, Some, None, codes}
use Rattle.model.specs.declared.object.ObjectKind.{ObjectKind}
use Rattle.model.specs.declared.object.ObjectKind.TheVariants.{Queue}
use Rattle.model.specs.declared.op.Access.TheVariants.{Send, Receive, Peek}
use Rattle.model.specs.declared.op.Op.TheVariants.{Delay, Mark, Await}
use Rattle.model.specs.declared.op.IsrOp.{IsrOp}
use Rattle.model.specs.declared.op.IsrOp.TheVariants as isr_op
use Rattle.model.specs.declared.plan.Injection.{Injection}
use Rattle.model.specs.declared.event.Event.{Event}
use Rattle.model.specs.declared.event.What.{What}
use Rattle.model.specs.declared.event.What.TheVariants as what
use Rattle.model.specs.declared.event.End.TheVariants.{Pass, Stuck}
use Rattle.model.specs.Application.{Application, Definition, Handler}
use Rattle.model.specs.Run.{Run, IsRun, IsRow}
use Rattle.laws.specs.Examples.{wide, a_task, a_task_of, on_queue, on_queue_forever, a, b, c, event_at, call, runs, idles}

-- ---- words

-- the one handler of an example
abbrev pub h : ℕ
h = 0

-- a handler that can come at any time
abbrev pub a_handler : List ℕ → List IsrOp → Handler
a_handler name ops = record { name = name; ops = ops; armed = true; apart = 0 }

-- an application of these queues, this handler and these tasks that starts at 0
abbrev pub with_handler : List ObjectKind → List IsrOp → List Definition → Application
with_handler objects ops tasks = record {
  start = 0;
  tickless = false;
  limits = wide;
  objects = objects;
  group_count = 0;
  variables = [];
  handlers = a_handler (codes "h") ops ∷ [];
  interrupts = [];
  tasks = tasks;
  daemon = None;
  points = [];
}

-- the same, but the handler also comes at this elapsed tick
abbrev pub interrupted_at : ℕ → Application → Application
interrupted_at tick app = record app { interrupts = record { tick = tick; handler = h } ∷ [] }

-- The handler sends an item to the queue, or receives one.
abbrev pub sends : ℕ → ℕ → IsrOp
sends queue item = isr_op.Do queue (Send (Number item))

abbrev pub receives : ℕ → IsrOp
receives queue = isr_op.Do queue Receive

-- the handler comes before this step
abbrev pub at : ℕ → Injection
at step = record { step = step; handler = h }

-- the point with only that injection
abbrev pub point_at : ℕ → List Injection
point_at step = at step ∷ []

-- the handler's op of this index has completed with this result
abbrev pub isr : ℕ → ℕ → What
isr op_index answer = what.Isr h op_index answer

-- an application, its injections, and its run
pub record Injected : Type 0 where
  pub app : Application
  pub plan : List Injection
  pub run : Run

-- The application's run with this plan is the given one.
abbrev pub RunsWith : Injected → Type 0
RunsWith e = IsRun e.app e.plan e.app.limits e.run

-- a point of an application, whether it is reached, and its row
pub record Row : Type 0 where
  pub app : Application
  pub point : List Injection
  pub reached : Bool
  pub row : Run

-- The point's row is the given one.
abbrev pub RowIs : Row → Type 0
RowIs e = IsRow e.app e.app.limits e.point e.reached e.row

-- ---- one receive, with a handler at each of its phases and after them

-- The handler sends an item and receives it again, and the task waits for one tick.
abbrev pub one_receive : Application
one_receive =
    with_handler (Queue 1 ∷ []) (sends 0 7 ∷ receives 0 ∷ []) (a_task (codes "a") (on_queue Receive 1 ∷ []) ∷ [])

-- both ops of the handler, at this step
abbrev pub sent_and_received : ℕ → ℕ → List Event → List Event
sent_and_received step tick rest = event_at step tick (isr 0 1) ∷ event_at step tick (isr 1 7) ∷ rest

-- Before the wait has begun, no task is woken: the task waits for its tick.
abbrev pub before_the_wait : ℕ → Row
before_the_wait step = record {
  app = one_receive;
  point = point_at step;
  reached = true;
  row = record {
    events =
        sent_and_received step 0 (
        event_at 4 0 idles ∷ event_at 5 1 (runs a) ∷ event_at 6 1 (what.CallNone a 0) ∷ event_at 6 1 idles ∷ []);
    steps = 7;
    ticks = 1;
    end = Pass;
  };
}

-- After the wait has begun, the task is woken in its own call, finds nothing, and waits again until the same deadline.
abbrev pub in_the_wait : ℕ → Row
in_the_wait step = record {
  app = one_receive;
  point = point_at step;
  reached = true;
  row = record {
    events =
        sent_and_received step 0 (
        event_at 9 0 idles ∷ event_at 10 1 (runs a) ∷ event_at 11 1 (what.CallNone a 0) ∷ event_at 11 1 idles ∷ []);
    steps = 12;
    ticks = 1;
    end = Pass;
  };
}

-- While idle runs, the task gets the processor before the step, which is its next try.
abbrev pub beside_idle : Row
beside_idle = record {
  app = one_receive;
  point = point_at 5;
  reached = true;
  row = record {
    events =
        event_at 4 0 idles ∷ sent_and_received 5 0 (
        event_at 5 0 (runs a) ∷ event_at 9 0 idles ∷ event_at 10 1 (runs a) ∷ event_at 11 1 (what.CallNone a 0)
        ∷ event_at 11 1 idles ∷ []);
    steps = 12;
    ticks = 1;
    end = Pass;
  };
}

-- before the last step of the base run
abbrev pub at_the_last_step : Row
at_the_last_step = record {
  app = one_receive;
  point = point_at 6;
  reached = true;
  row = record {
    events =
        event_at 4 0 idles ∷ event_at 5 1 (runs a) ∷ sent_and_received 6 1 (
        event_at 6 1 (what.CallNone a 0) ∷ event_at 6 1 idles ∷ []);
    steps = 7;
    ticks = 1;
    end = Pass;
  };
}

-- at the end of the base run, so the row is the base run
abbrev pub past_the_end : Row
past_the_end = record {
  app = one_receive;
  point = point_at 7;
  reached = false;
  row = record {
    events = event_at 4 0 idles ∷ event_at 5 1 (runs a) ∷ event_at 6 1 (what.CallNone a 0) ∷ event_at 6 1 idles ∷ [];
    steps = 7;
    ticks = 1;
    end = Pass;
  };
}

-- before Try, Decide, Place, Unlock and Leave, and after them
abbrev pub rows : List Row
rows =
    before_the_wait 0 ∷ before_the_wait 1 ∷ in_the_wait 2 ∷ in_the_wait 3 ∷ in_the_wait 4
    ∷ beside_idle ∷ at_the_last_step ∷ past_the_end ∷ []

-- ---- one receive, with the handler at two of its phases

-- The first wakes the task, and the second finds no waiting task.
abbrev pub twice : Row
twice = record {
  app = one_receive;
  point = at 0 ∷ at 3 ∷ [];
  reached = true;
  row = record {
    events =
        sent_and_received 0 0 (sent_and_received 3 0 (
        event_at 9 0 idles ∷ event_at 10 1 (runs a) ∷ event_at 11 1 (what.CallNone a 0) ∷ event_at 11 1 idles ∷ []));
    steps = 12;
    ticks = 1;
    end = Pass;
  };
}

-- the second past the end of the base run, but before that of the row
abbrev pub past_the_base_run : Row
past_the_base_run = record {
  app = one_receive;
  point = at 3 ∷ at 10 ∷ [];
  reached = true;
  row = record {
    events =
        sent_and_received 3 0 (event_at 9 0 idles ∷ sent_and_received 10 0 (
        event_at 10 0 (runs a) ∷ event_at 14 0 idles ∷ event_at 15 1 (runs a) ∷ event_at 16 1 (what.CallNone a 0)
        ∷ event_at 16 1 idles ∷ []));
    steps = 17;
    ticks = 1;
    end = Pass;
  };
}

-- the second past the end of the row too: it does nothing
abbrev pub past_the_row : Row
past_the_row = record at_the_last_step { point = at 6 ∷ at 7 ∷ [] }

-- the first at the end of the base run, so the row is the base run
abbrev pub from_the_end_on : Row
from_the_end_on = record past_the_end { point = at 7 ∷ at 8 ∷ [] }

-- the rows of these
abbrev pub rows_of_two : List Row
rows_of_two = twice ∷ past_the_base_run ∷ past_the_row ∷ from_the_end_on ∷ []

-- ---- wakes through a locked queue

-- A wake through another queue takes effect at once, and a wake through the locked queue at its unlock. So the task that was
-- woken last runs first.
abbrev pub two_queues : Injected
two_queues = record {
  app = with_handler (Queue 1 ∷ Queue 1 ∷ []) (sends 0 1 ∷ sends 1 2 ∷ []) (
      a_task (codes "a") (Await 1 Receive (Some 9) ∷ []) ∷ a_task (codes "b") (on_queue Receive 9 ∷ []) ∷ []);
  plan = point_at 7;
  run = record {
    events =
        event_at 4 0 (runs b) ∷ event_at 7 0 (isr 0 1) ∷ event_at 7 0 (isr 1 1) ∷ event_at 9 0 (runs a)
        ∷ event_at 10 0 (call a 0 2) ∷ event_at 10 0 (runs b) ∷ event_at 11 0 (call b 0 1) ∷ event_at 11 0 idles ∷ [];
    steps = 12;
    ticks = 0;
    end = Pass;
  };
}

-- Two items for three waiting tasks: the best two are woken, and the last one, whose call holds the lock, continues to wait.
abbrev pub fewer_items : Injected
fewer_items = record {
  app = with_handler (Queue 4 ∷ []) (sends 0 1 ∷ sends 0 2 ∷ []) (
      a_task_of 3 (codes "a") (on_queue_forever Receive ∷ []) ∷ a_task_of 2 (codes "b") (on_queue_forever Receive ∷ [])
      ∷ a_task_of 1 (codes "c") (on_queue_forever Receive ∷ []) ∷ []);
  plan = point_at 13;
  run = record {
    events =
        event_at 4 0 (runs b) ∷ event_at 9 0 (runs c) ∷ event_at 13 0 (isr 0 1) ∷ event_at 13 0 (isr 1 1)
        ∷ event_at 14 0 (runs a) ∷ event_at 15 0 (call a 0 1) ∷ event_at 15 0 (runs b) ∷ event_at 16 0 (call b 0 2)
        ∷ event_at 16 0 idles ∷ [];
    steps = 17;
    ticks = 0;
    end = Stuck;
  };
}

-- Three items for two waiting tasks: both are woken, and one item is left.
abbrev pub more_items : Injected
more_items = record {
  app = with_handler (Queue 4 ∷ []) (sends 0 1 ∷ sends 0 2 ∷ sends 0 3 ∷ []) (
      a_task_of 2 (codes "a") (on_queue_forever Receive ∷ []) ∷ a_task_of 1 (codes "b") (on_queue_forever Receive ∷ []) ∷ []);
  plan = point_at 8;
  run = record {
    events =
        event_at 4 0 (runs b) ∷ event_at 8 0 (isr 0 1) ∷ event_at 8 0 (isr 1 1) ∷ event_at 8 0 (isr 2 1)
        ∷ event_at 9 0 (runs a) ∷ event_at 10 0 (call a 0 1) ∷ event_at 10 0 (runs b) ∷ event_at 11 0 (call b 0 2)
        ∷ event_at 11 0 idles ∷ [];
    steps = 12;
    ticks = 0;
    end = Pass;
  };
}

-- A task that waits for room is woken, and the handler fills the room again.
abbrev pub room_taken : Injected
room_taken = record {
  app = with_handler (Queue 1 ∷ []) (receives 0 ∷ sends 0 9 ∷ []) (
      a_task (codes "a") (on_queue (Send (Number 1)) 0 ∷ on_queue (Send (Number 2)) 3 ∷ []) ∷ []);
  plan = point_at 4;
  run = record {
    events =
        event_at 0 0 (call a 0 1) ∷ event_at 4 0 (isr 0 1) ∷ event_at 4 0 (isr 1 1) ∷ event_at 10 0 idles
        ∷ event_at 13 3 (runs a) ∷ event_at 14 3 (call a 1 0) ∷ event_at 14 3 idles ∷ [];
    steps = 15;
    ticks = 3;
    end = Pass;
  };
}

-- ---- interrupts

-- A base interrupt wakes a task, and a higher task that wakes at the same tick takes the item. The first task finds nothing, and
-- waits again until the same deadline.
abbrev pub finds_nothing : Injected
finds_nothing = record {
  app = interrupted_at 2 (with_handler (Queue 1 ∷ []) (sends 0 5 ∷ []) (
      a_task_of 2 (codes "a") (on_queue Receive 10 ∷ []) ∷ a_task_of 3 (codes "b") (Delay 2 ∷ on_queue Receive 0 ∷ []) ∷ []));
  plan = [];
  run = record {
    events =
        event_at 0 0 (call b 0 0) ∷ event_at 0 0 (runs a) ∷ event_at 5 0 idles ∷ event_at 7 2 (isr 0 1)
        ∷ event_at 7 2 (runs b) ∷ event_at 8 2 (call b 1 5) ∷ event_at 8 2 (runs a) ∷ event_at 13 2 idles
        ∷ event_at 21 10 (runs a) ∷ event_at 22 10 (what.CallNone a 0) ∷ event_at 22 10 idles ∷ [];
    steps = 23;
    ticks = 10;
    end = Pass;
  };
}

-- A run isn't stuck while an interrupt is yet to arrive.
abbrev pub still_to_come : Injected
still_to_come = record {
  app = interrupted_at 2 (with_handler (Queue 1 ∷ []) (sends 0 5 ∷ []) (a_task (codes "a") (on_queue_forever Receive ∷ []) ∷ []));
  plan = [];
  run = record {
    events =
        event_at 4 0 idles ∷ event_at 6 2 (isr 0 1) ∷ event_at 6 2 (runs a) ∷ event_at 7 2 (call a 0 5)
        ∷ event_at 7 2 idles ∷ [];
    steps = 8;
    ticks = 2;
    end = Pass;
  };
}

-- the results of a handler's ops: `none` from an empty queue, 1 and 0 from a send with and without room
abbrev pub answers : Injected
answers = record {
  app = with_handler (Queue 1 ∷ []) (isr_op.Mark (Number 3) ∷ receives 0 ∷ sends 0 8 ∷ sends 0 9 ∷ isr_op.Do 0 Peek ∷ []) (
      a_task (codes "a") (Mark (Number 1) ∷ []) ∷ []);
  plan = point_at 0;
  run = record {
    events =
        event_at 0 0 (what.IsrMark h 3) ∷ event_at 0 0 (what.IsrNone h 1) ∷ event_at 0 0 (isr 2 1) ∷ event_at 0 0 (isr 3 0)
        ∷ event_at 0 0 (isr 4 8) ∷ event_at 0 0 (what.Mark a 1) ∷ event_at 0 0 idles ∷ [];
    steps = 1;
    ticks = 0;
    end = Pass;
  };
}

-- all of them
abbrev pub injected_examples : List Injected
injected_examples =
    two_queues ∷ fewer_items ∷ more_items ∷ room_taken ∷ finds_nothing ∷ still_to_come ∷ answers ∷ []
