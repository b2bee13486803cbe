-- The report that is made of a part of an application's campaign, as far as the view shows its rows. No reader need believe it.
use Rattle.std.specs.Prelude.{◌≡◌, List, map}
use Rattle.model.specs.Application.{Application}
use Rattle.model.specs.Campaign.{Row}
use Rattle.report.specs.Shards.{Shard}
use Rattle.report.specs.declared.view.View.{View}
use Rattle.rows.specs.Report.{Shown}
use Rattle.campaign.specs.Seen.{seen}
use Rattle.campaign.specs.Campaigns.{AreRowsOf, first_number}

-- The report has these rows, as far as the view shows them.
pub record IsShownOf (app : Application) (view : View) (shard : Shard) (report : Shown) : Type 0 where
  pub rows : List Row
  pub runs : AreRowsOf app shard rows
  pub shown : report ≡ record { view = view; first = first_number runs; rows = map (seen view) rows }
