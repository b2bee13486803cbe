-- The outcome of the campaign of a file: the report of one row for each of its points, or of a part of these, as a view shows it;
-- or the fault that prevents it.
use Rattle.std.specs.Prelude.{◌≡◌, ◌<◌, ◌≤◌, ℕ, List, [], length, Result}
use Rattle.model.specs.Application.{Application}
use Rattle.model.specs.Scripts.{most_points}
use Rattle.model.specs.Run.{Run, IsRun}
use Rattle.model.specs.Campaign.{Row, AreRows, points_in, totals_of}
use Rattle.model.specs.declared.totals.Totals.{Totals}
use Rattle.report.specs.Shards.{Shard, first_of, part_of}
use Rattle.report.specs.Views.{report_text}
use Rattle.report.specs.declared.view.View.{View}
use Rattle.campaign.specs.declared.file.ServeFault.{ServeFault}
use Rattle.campaign.specs.declared.file.ServeFault.TheVariants.{TooManyPoints}
use Rattle.campaign.specs.Serving.{IsFileOf, HasFileFault, Serves, Streams}

-- The rows are those of a part of the application's own points, which are few enough, under its own limits; `all` means every
-- step of the base run.
pub record AreRowsOf (app : Application) (shard : Shard) (rows : List Row) : Type 0 where
  pub base : Run
  pub is_base : IsRun app [] app.limits base
  pub few : length (points_in app base.steps) ≤ most_points
  pub are_rows : AreRows app app.limits (part_of shard (points_in app base.steps)) rows

-- the number of the first of them among those of all points
abbrev pub first_number : {app : Application} → {shard : Shard} → {rows : List Row} → AreRowsOf app shard rows → ℕ
first_number {app} {shard} are = first_of shard (length (points_in app are.base.steps))

-- The application's points are more than there may be (profile).
pub record HasTooManyPoints (app : Application) : Type 0 where
  pub base : Run
  pub is_base : IsRun app [] app.limits base
  pub many : most_points < length (points_in app base.steps)

-- The bytes are a file whose campaign has this report, of a part of its rows as the view shows them, and these totals of that
-- part's rows.
pub record IsCampaignOf (view : View) (shard : Shard) (bytes report : List ℕ) (totals : Totals) : Type 0 where
  pub app : Application
  pub file : IsFileOf bytes app
  pub rows : List Row
  pub runs : AreRowsOf app shard rows
  pub adds_up : totals ≡ totals_of rows
  pub text : report ≡ report_text app view (first_number runs) rows

-- The bytes have this fault, if their campaign is asked for.
abbrev pub HasCampaignFault : List ℕ → ServeFault → Type 0
HasCampaignFault bytes TooManyPoints = (app : Application) × IsFileOf bytes app × HasTooManyPoints app
HasCampaignFault bytes fault = HasFileFault bytes fault

-- a call that serves a part of the campaign of a file, as the view shows it, and returns that part's totals
abbrev pub ServesCampaign : View → Shard → Streams → Result Totals ServeFault → Type 0
ServesCampaign view shard streams outcome = Serves Totals (IsCampaignOf view shard) HasCampaignFault streams outcome
