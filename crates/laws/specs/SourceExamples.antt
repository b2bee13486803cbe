-- Worked examples with handlers that are armed, disarmed, raised and cancelled, or whose comings must be apart: applications,
-- injections, and the runs that result.
use Rattle.model.specs.declared.value.Value.TheVariants.{Number}
use Rattle.std.specs.Prelude.{ℕ, true, false, List, [], ◌∷◌, codes}
use Rattle.model.specs.declared.object.ObjectKind.TheVariants.{Queue}
use Rattle.model.specs.declared.op.Access.TheVariants.{Receive}
use Rattle.model.specs.declared.op.Op.{Op}
use Rattle.model.specs.declared.op.Op.TheVariants.{Work, Mark, EnterCritical, ExitCritical}
use Rattle.model.specs.declared.op.Op.TheVariants as op
use Rattle.model.specs.declared.op.IsrOp.{IsrOp}
use Rattle.model.specs.declared.op.IsrOp.TheVariants as isr_op
use Rattle.model.specs.declared.source.SourceOp.TheVariants.{Arm, Disarm, Raise, Cancel}
use Rattle.model.specs.declared.event.Event.{Event}
use Rattle.model.specs.declared.event.End.TheVariants as end
use Rattle.model.specs.Application.{Application, Handler}
use Rattle.model.specs.Run.{Run}
use Rattle.laws.specs.Examples.{a_task, the_application, on_queue_forever, a, event_at, call, runs, idles}
use Rattle.laws.specs.HandlerExamples.{Injected, Row, a_handler, at, h, interrupted_at, isr, point_at, sends, with_handler}
use Rattle.laws.specs.SectionExamples.{isr_mark, mark, second}
use Rattle.laws.specs.TicklessExamples.{tickless_within}

-- ---- words

-- an application of only the task a, with this script, and of these handlers
abbrev pub with_handlers : List Handler → List Op → Application
with_handlers handlers script = record (the_application 0 (a_task (codes "a") script ∷ [])) { handlers = handlers }

-- an application of one handler
abbrev pub with_one : Handler → List Op → Application
with_one handler script = with_handlers (handler ∷ []) script

-- The handler marks that it comes, and then executes these ops.
abbrev pub marks_and : List IsrOp → Handler
marks_and ops = a_handler (codes "h") (isr_op.Mark (Number 1) ∷ ops)

-- The handler is disarmed at reset.
abbrev pub disarmed : Handler → Handler
disarmed handler = record handler { armed = false }

-- The handler's comings must be at least this many ticks apart.
abbrev pub apart_by : ℕ → Handler → Handler
apart_by ticks handler = record handler { apart = ticks }

-- The handler comes in this step, at this tick.
abbrev pub comes : ℕ → ℕ → Event
comes step tick = event_at step tick (isr_mark h 1)

-- a run that passes after this many steps, at this tick
abbrev pub passes : List Event → (steps ticks : ℕ) → Run
passes events steps ticks = record { events = events; steps = steps; ticks = ticks; end = end.Pass }

-- ---- armed and disarmed

-- A task arms the handler, and then marks.
abbrev pub arms_it : Application
arms_it = with_one (disarmed (marks_and [])) (op.Source h Arm ∷ Mark (Number 2) ∷ [])

-- It can't come before the step that arms it. The row of that point is the base run.
abbrev pub before_it_is_armed : Row
before_it_is_armed = record {
  app = arms_it;
  point = at 0 ∷ at 1 ∷ [];
  reached = false;
  row = passes (event_at 1 0 (mark a 2) ∷ event_at 1 0 idles ∷ []) 2 0;
}

-- It can come before the next step.
abbrev pub when_it_is_armed : Row
when_it_is_armed = record {
  app = arms_it;
  point = point_at 1;
  reached = true;
  row = passes (comes 1 0 ∷ event_at 1 0 (mark a 2) ∷ event_at 1 0 idles ∷ []) 2 0;
}

-- all of these
abbrev pub armed_rows : List Row
armed_rows = before_it_is_armed ∷ when_it_is_armed ∷ []

-- A handler that disarms itself comes once.
abbrev pub disarms_itself : Injected
disarms_itself = record {
  app = with_one (marks_and (isr_op.Source h Disarm ∷ [])) (Work 2 ∷ []);
  plan = at 0 ∷ at 0 ∷ at 1 ∷ [];
  run = passes (comes 0 0 ∷ event_at 1 2 idles ∷ []) 2 2;
}

-- A pending handler comes, though it is disarmed before the critical section ends.
abbrev pub pending_and_disarmed : Injected
pending_and_disarmed = record {
  app = with_one (marks_and []) (EnterCritical ∷ op.Source h Disarm ∷ ExitCritical ∷ Mark (Number 2) ∷ []);
  plan = at 1 ∷ at 2 ∷ at 3 ∷ [];
  run = passes (comes 3 0 ∷ event_at 3 0 (mark a 2) ∷ event_at 3 0 idles ∷ []) 4 0;
}

-- A base interrupt comes, though its handler is disarmed.
abbrev pub base_and_disarmed : Injected
base_and_disarmed = record {
  app = interrupted_at 1 (with_one (disarmed (marks_and [])) (Work 2 ∷ []));
  plan = point_at 1;
  run = passes (comes 0 1 ∷ event_at 1 2 idles ∷ []) 2 2;
}

-- ---- comings that must be apart

-- One tick after its last coming the handler can't come, but after two ticks it can.
abbrev pub too_soon : Injected
too_soon = record {
  app = with_one (apart_by 2 (marks_and [])) (Work 4 ∷ []);
  plan = at 0 ∷ at 1 ∷ at 2 ∷ [];
  run = passes (comes 0 0 ∷ comes 2 2 ∷ event_at 3 4 idles ∷ []) 4 4;
}

-- A base interrupt counts as a coming too.
abbrev pub after_a_base_interrupt : Injected
after_a_base_interrupt = record {
  app = interrupted_at 1 (with_one (apart_by 3 (marks_and [])) (Work 5 ∷ []));
  plan = at 2 ∷ at 3 ∷ at 4 ∷ [];
  run = passes (comes 0 1 ∷ comes 4 4 ∷ event_at 4 5 idles ∷ []) 5 5;
}

-- ---- raised and cancelled

-- A handler that is raised for tick 2, and raises itself again after three ticks, comes at ticks 2 and 5.
abbrev pub again_and_again : Injected
again_and_again = record {
  app = with_one (marks_and (isr_op.Source h (Raise 3) ∷ [])) (op.Source h (Raise 2) ∷ Work 7 ∷ []);
  plan = [];
  run = passes (comes 2 2 ∷ comes 5 5 ∷ event_at 7 7 idles ∷ []) 8 7;
}

-- A handler that is cancelled before its tick doesn't come.
abbrev pub cancelled_before : Injected
cancelled_before = record {
  app = with_one (marks_and []) (op.Source h (Raise 2) ∷ Work 1 ∷ op.Source h Cancel ∷ Work 3 ∷ []);
  plan = [];
  run = passes (event_at 5 4 idles ∷ []) 6 4;
}

-- A handler that is raised anew comes only at the later tick.
abbrev pub raised_anew : Injected
raised_anew = record {
  app = with_one (marks_and []) (op.Source h (Raise 2) ∷ Work 1 ∷ op.Source h (Raise 3) ∷ Work 4 ∷ []);
  plan = [];
  run = passes (comes 5 4 ∷ event_at 6 5 idles ∷ []) 7 5;
}

-- A handler that is injected before the tick for which it is raised also comes at that tick.
abbrev pub injected_meanwhile : Injected
injected_meanwhile = record {
  app = with_one (disarmed (marks_and [])) (op.Source h (Raise 2) ∷ op.Source h Arm ∷ Work 3 ∷ []);
  plan = at 1 ∷ at 2 ∷ [];
  run = passes (comes 2 0 ∷ comes 3 2 ∷ event_at 4 3 idles ∷ []) 5 3;
}

-- Two handlers are raised for the same tick. The first cancels the second, which still comes.
abbrev pub due_already : Injected
due_already = record {
  app = with_handlers (
      marks_and (isr_op.Source second Cancel ∷ []) ∷ a_handler (codes "second") (isr_op.Mark (Number 2) ∷ []) ∷ [])
      (op.Source second (Raise 1) ∷ op.Source h (Raise 1) ∷ Work 2 ∷ []);
  plan = [];
  run = passes (comes 2 1 ∷ event_at 2 1 (isr_mark second 2) ∷ event_at 3 2 idles ∷ []) 4 2;
}

-- A device responds five ticks after it was asked. Idle sleeps until then, and the run isn't stuck.
abbrev pub answers_later : Injected
answers_later = record {
  app = tickless_within 1000 (with_handler (Queue 1 ∷ []) (sends 0 7 ∷ []) (
      a_task (codes "a") (op.Source h (Raise 5) ∷ on_queue_forever Receive ∷ []) ∷ []));
  plan = [];
  run = passes (event_at 5 0 idles ∷ event_at 6 5 (isr 0 1) ∷ event_at 6 5 (runs a) ∷ event_at 7 5 (call a 1 7) ∷ event_at 7 5 idles
      ∷ []) 8 5;
}

-- all of them
abbrev pub source_examples : List Injected
source_examples =
    disarms_itself ∷ pending_and_disarmed ∷ base_and_disarmed ∷ too_soon ∷ after_a_base_interrupt ∷ again_and_again
    ∷ cancelled_before ∷ raised_anew ∷ injected_meanwhile ∷ due_already ∷ answers_later ∷ []
