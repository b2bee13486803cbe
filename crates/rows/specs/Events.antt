-- The events of a part's rows, and what is known of a row's text.
use Rattle.std.specs.Prelude.{◌≡◌, IfSome}
use Rattle.machine.specs.Logged.{all_of}
use Rattle.model.specs.Application.{Application}
use Rattle.model.specs.Campaign.{Row}
use Rattle.report.specs.Text.{row_text}
use Rattle.rows.specs.declared.rendering.part_events.KnownRow.{KnownRow}
use Rattle.rows.specs.declared.rendering.part_events.PartEvents.{PartEvents}
use Rattle.rows.specs.declared.rows.KeptRow.{KeptRow}
use Rattle.rows.specs.Links.{AreLegs}
use Rattle.rows.specs.Report.{row_of, store_of, IsKept}
use Rattle.rows.specs.Stretches.{AreOf}

-- They are of this application: what is rendered is of the base run and of the part's trail, and each leg of the part goes on with
-- events that are there.
pub record AreEventsOf (app : Application) (events : PartEvents) : Type 0 where
  pub app_is : events.base_events.now.app ≡ app
  pub base_is : events.base_events.now.events ≡ events.base.now.events
  pub stretches : IfSome events.stretches (λ s. AreOf app (all_of events.part.now.trail) s.now)
  pub legs : AreLegs events.base.now.events (store_of events.part.now)

-- the events of the row are there
abbrev pub HaveRow : PartEvents → KeptRow → Type 0
HaveRow events kept = IsKept events.base.now (store_of events.part.now) kept

-- a row that is kept, with its events
abbrev pub row_from : PartEvents → KeptRow → Row
row_from events kept = row_of events.base.now (store_of events.part.now) kept

-- The row's events are there, and the text that is known is its own under the number 0.
pub record IsKnownRow (app : Application) (events : PartEvents) (row : KnownRow) : Type 0 where
  pub kept : HaveRow events row.kept.now
  pub text : IfSome row.text (λ t. t.now ≡ row_text app 0 (row_from events row.kept.now))
