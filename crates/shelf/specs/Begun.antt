-- The first part of a row.
use Rattle.std.specs.Prelude.{◌≡◌, ◌<◌, List, [], ◌++◌, None}
use Rattle.model.specs.declared.event.Event.{Event}
use Rattle.model.specs.declared.plan.Injection.{Injection}
use Rattle.model.specs.Points.{first_step, last_step}
use Rattle.model.specs.Application.{Application, Limits}
use Rattle.model.specs.Run.{end_of, state_after, events_after}
use Rattle.machine.specs.declared.machine.Machine.{Machine}
use Rattle.machine.specs.Can.{IsUnderWay}
use Rattle.shelf.specs.declared.row.RowBeginning.{RowBeginning}

-- The kernel has come along the row of this point beyond its first injection, and if the row goes on, beyond its last one. The
-- row's events from the first one on came after the others that were kept; those before it are the base run's.
pub record HasBegun (app : Application) (point : List Injection) (limits : Limits)
    (k : Machine) (old new : List Event) (beginning : RowBeginning) : Type 0 where
  pub way : IsUnderWay app point limits k
  pub past : first_step point < k.steps
  pub beyond : beginning.end ≡ None → last_step point < k.steps
  -- how the row ended there, if it did
  pub end : beginning.end ≡ end_of app limits (state_after app limits point k.steps)
  pub own : List Event
  pub kept : new ≡ old ++ own
  pub events : events_after app limits point k.steps ≡ events_after app limits [] (first_step point) ++ own
