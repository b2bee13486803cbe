-- Stretches of a trail that are rendered once.
use Rattle.std.specs.Prelude.{◌≡◌, ◌≤◌, ℕ, List, length, drop, slice_range, slice_get, Some, IfSome}
use Rattle.machine.specs.Logged.{all_of}
use Rattle.model.specs.Application.{Application}
use Rattle.model.specs.declared.event.Event.{Event}
use Rattle.report.specs.Writing.{Events}
use Rattle.rows.specs.declared.campaign_report.Rows.{Rows}
use Rattle.rows.specs.declared.rows.Part.{Part}
use Rattle.rows.specs.declared.rendering.stretches.Stretch.{Stretch}
use Rattle.rows.specs.declared.rendering.stretches.Found.{Found}

-- The stretch has the application's events of the trail between its places.
pub record IsStretch (app : Application) (trail : List Event) (stretch : Stretch) : Type 0 where
  pub app_is : stretch.events.app ≡ app
  pub events_are : stretch.events.events ≡ slice_range trail stretch.first stretch.to

-- After this many of the events that were found, which are the application's, come these, and no others.
pub record IsTail (app : Application) (events : List Event) (found : Found) : Type 0 where
  pub app_is : found.events.now.app ≡ app
  pub within : found.before ≤ length found.events.now.events
  pub behind : drop found.before found.events.now.events ≡ events

-- They are of this application and of this trail.
abbrev pub AreOf : Application → List Event → Events → Type 0
AreOf app trail stretches = (stretches.app ≡ app) × (stretches.events ≡ trail)

-- They are stretches of the trail of the part of this number.
abbrev pub AreOfPart : Application → Rows → (number : ℕ) → Events → Type 0
AreOfPart app rows number stretches =
    (part : Part) → slice_get rows.parts.items number ≡ Some part → AreOf app (all_of part.trail) stretches

-- They are those of each part, part by part.
abbrev pub AreOfParts : Application → Rows → List Events → Type 0
AreOfParts app rows all = (number : ℕ) → IfSome (slice_get all number) (AreOfPart app rows number)
