-- Worked examples with a daemon: applications, injections, and the runs that result.
use Rattle.std.specs.Prelude.{ℕ, true, false, List, [], ◌∷◌, Some, None, codes}
use Rattle.model.specs.declared.object.ObjectKind.TheVariants.{Queue}
use Rattle.model.specs.declared.op.Op.{Op}
use Rattle.model.specs.declared.op.Op.TheVariants.{Work, WaitBits, NextCommand, Obey}
use Rattle.model.specs.declared.op.IsrOp.{IsrOp}
use Rattle.model.specs.declared.op.IsrOp.TheVariants as isr_op
use Rattle.model.specs.declared.event.What.{What}
use Rattle.model.specs.declared.event.What.TheVariants as what
use Rattle.model.specs.declared.event.End.TheVariants.{Pass, Stuck}
use Rattle.model.specs.Application.{Application, Definition}
use Rattle.model.specs.Run.{Run}
use Rattle.laws.specs.Examples.{a_task, a, b, event_at, call, runs, idles}
use Rattle.laws.specs.HandlerExamples.{with_handler, interrupted_at, point_at, isr, Injected, Row}
use Rattle.laws.specs.HoldExamples.{g}

-- ---- words

-- the handler's commands to set and to clear these bits
abbrev pub sets : ℕ → IsrOp
sets mask = isr_op.Command (record { group = g; mask = mask; clear = false })

abbrev pub clears : ℕ → IsrOp
clears mask = isr_op.Command (record { group = g; mask = mask; clear = true })

-- The task waits forever for one of the first two bits, and leaves them set.
abbrev pub wait_for_either : Op
wait_for_either = WaitBits g (record { mask = 3; all = false; clear = false }) None

-- a daemon of priority 3
abbrev pub the_daemon : Definition
the_daemon = record { name = codes "d"; priority = 3; endless = true; script = NextCommand 0 ∷ Obey ∷ [] }

-- an application of a queue of this length for commands, this handler, a task of priority 1 with this op, and the daemon
abbrev pub with_daemon : ℕ → List IsrOp → Op → Application
with_daemon size ops op =
    let app = with_handler (Queue size ∷ []) ops (a_task (codes "a") (op ∷ []) ∷ the_daemon ∷ []) in
    record app { group_count = 1; daemon = Some b }

-- The daemon has set bits, or cleared them, and these are the result.
abbrev pub has_set : ℕ → What
has_set bits = what.Obeyed b false bits

abbrev pub has_cleared : ℕ → What
has_cleared bits = what.Obeyed b true bits

-- ---- bits set for a handler

-- A task waits for bits, and the daemon, which has a higher priority, sets them for the handler.
abbrev pub deferred : Application
deferred = with_daemon 1 (sets 1 ∷ sets 2 ∷ []) wait_for_either

-- The daemon waits for a command, and the task for bits that no one sets.
abbrev pub deferred_base : Run
deferred_base = record {
  events = event_at 4 0 (runs a) ∷ event_at 6 0 idles ∷ [];
  steps = 7;
  ticks = 0;
  end = Stuck;
}

-- The handler comes while the task holds the scheduler in its wait. Its first command wakes the daemon, and the second one finds
-- no room.
abbrev pub deferred_row : Row
deferred_row = record {
  app = deferred;
  point = point_at 6;
  reached = true;
  row = record {
    events =
        event_at 4 0 (runs a) ∷ event_at 6 0 (isr 0 1) ∷ event_at 6 0 (isr 1 0) ∷ event_at 6 0 (runs b)
        ∷ event_at 9 0 (has_set 1) ∷ event_at 14 0 (runs a) ∷ event_at 15 0 (call a 0 1) ∷ event_at 15 0 idles ∷ [];
    steps = 16;
    ticks = 0;
    end = Pass;
  };
}

-- ---- runs

-- The handler comes in the daemon's own window: the daemon is woken in its call, takes both commands one after the other, and
-- waits again.
abbrev pub in_its_window : Injected
in_its_window = record {
  app = with_daemon 2 (sets 4 ∷ clears 4 ∷ []) wait_for_either;
  plan = point_at 2;
  run = record {
    events =
        event_at 2 0 (isr 0 1) ∷ event_at 2 0 (isr 1 1) ∷ event_at 7 0 (has_set 4) ∷ event_at 9 0 (has_cleared 4)
        ∷ event_at 14 0 (runs a) ∷ event_at 16 0 idles ∷ [];
    steps = 17;
    ticks = 0;
    end = Stuck;
  };
}

-- A command arrives at the tick at which the task ends: the run passes, although the daemon runs and still has the command to
-- execute.
abbrev pub passes_with_a_command : Injected
passes_with_a_command = record {
  app = interrupted_at 1 (with_daemon 1 (sets 1 ∷ []) (Work 1));
  plan = [];
  run = record {
    events = event_at 4 0 (runs a) ∷ event_at 5 1 (isr 0 1) ∷ event_at 5 1 (runs b) ∷ [];
    steps = 6;
    ticks = 1;
    end = Pass;
  };
}

-- all of them
abbrev pub daemon_rows : List Row
daemon_rows = deferred_row ∷ []

abbrev pub daemon_examples : List Injected
daemon_examples = in_its_window ∷ passes_with_a_command ∷ []
