-- The events of a run from a step on.
use Rattle.std.specs.Prelude.{◌≡◌, ℕ, List, ◌++◌, length, drop}
use Rattle.model.specs.declared.event.Event.{Event}
use Rattle.model.specs.declared.plan.Injection.{Injection}
use Rattle.model.specs.Application.{Application, Limits}
use Rattle.model.specs.Run.{events_after}

-- the events of the steps from the first number on, before the second
abbrev pub events_from : Application → Limits → List Injection → (first next : ℕ) → List Event
events_from app limits plan first next = drop (length (events_after app limits plan first)) (events_after app limits plan next)

-- Some events, or none, came behind those that were there.
abbrev pub Extends : (old new : List Event) → Type 0
Extends old new = (more : List Event) × (new ≡ old ++ more)
