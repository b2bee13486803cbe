-- What all workers of a campaign made.
use Rattle.std.specs.Prelude.{◌≡◌, ◌<◌, ◌≤◌, ◌+◌, ℕ, List, length, sum}
use Rattle.std.specs.List.{AllByRecursion, concat, flat_map}
use Rattle.model.specs.Run.{Run}
use Rattle.model.specs.Scripts.{most_points}
use Rattle.model.specs.Campaign.{Row, totals_of}
use Rattle.deal.specs.Sharing.{Game, Sight, AreLanesOf, SomeHasSeenAll, lists_of}
use Rattle.deal.specs.Tallies.{Sheet, Tallied, added_in}
use Rattle.deal.specs.Totals.{total}
use Rattle.report.specs.declared.view.View.{View}
use Rattle.campaign.specs.declared.all_rows.Finished.{Finished}
use Rattle.campaign.specs.declared.all_rows.Made.{Made}
use Rattle.rows.specs.declared.rows.Part.{Part}
use Rattle.rows.specs.declared.rows.Place.{Place}
use Rattle.campaign.specs.Kinds.{RiseBy, kind_in}
use Rattle.rows.specs.Placing.{all_numbers}
use Rattle.rows.specs.Report.{AreKept, IsPlace, rows_at}
use Rattle.campaign.specs.Seen.{AreSeen}
use Rattle.campaign.specs.Working.{Work, AreRowsByBlock, IsKeptPart}

-- the blocks of the deal are those of the work, and have all its points
pub record IsWhole (work : Work) (base : Run) (deal : Game) : Type 0 where
  pub same_base : work.base ≡ base
  pub same_lengths : work.lengths ≡ deal.lengths
  pub whole : sum work.lengths ≡ length work.points
  pub few : length work.points ≤ most_points

-- All lanes of the deal came back, one of them saw that every block is handed out, and the parts have the rows of the blocks that
-- were returned to them.
pub record BringsWhole (work : Work) (deal : Game) (lanes : List Sight) (parts : List Part) : Type 0 where
  pub its_lanes : AreLanesOf deal lanes
  pub all_lanes : length lanes ≡ deal.lanes
  pub seen : SomeHasSeenAll lanes
  pub made : AllByRecursion (IsKeptPart work) parts
  pub numbers : all_numbers parts ≡ concat (lists_of lanes)

-- all seats came back
pub record ComeBack (tally : Sheet) (old new : List Tallied) : Type 0 where
  pub all : length new ≡ length old
  pub same : AllByRecursion (λ (seat : Tallied). seat.sheet ≡ tally) new

-- The same, and the seats counted those rows.
pub record IsBrought (work : Work) (deal : Game) (tally : Sheet) (old : List Tallied)
    (lanes : List Sight) (new : List Tallied) (parts : List Part) : Type 0 where
  pub brings : BringsWhole work deal lanes parts
  pub back : ComeBack tally old new
  pub counts : (rows : ℕ → List Row) → AreRowsByBlock work rows → (kind : ℕ) → kind < 7
      → added_in kind new ≡ added_in kind old + total (λ b. kind_in (rows b) kind) (concat (lists_of lanes))

-- the rows that the parts have in these places
abbrev pub rows_placed : Run → List Part → List Place → List Row
rows_placed base parts places = flat_map (rows_at base parts) places

-- The rows of the points are in their places, one for each, and counted by their totals and by the seats.
pub record IsMade (work : Work) (tally : Sheet) (old : List Tallied) (made : Made) : Type 0 where
  pub kept : AllByRecursion (AreKept work.base) made.parts.items
  pub placed : AllByRecursion (IsPlace made.parts.items) made.places.items
  pub rows : AreSeen work.app work.limits work.view work.points (rows_placed work.base made.parts.items made.places.items)
  pub counted : made.totals ≡ totals_of (rows_placed work.base made.parts.items made.places.items)
  pub back : ComeBack tally old made.seats.items
  pub rise : RiseBy (totals_of (rows_placed work.base made.parts.items made.places.items)) old made.seats.items

-- The rows were made, and can be reported in this view, with this number for the first and with this base run.
pub record IsReportable (work : Work) (tally : Sheet) (old : List Tallied)
    (made : Made) (view : View) (first : ℕ) (base : Run) : Type 0 where
  pub is_made : IsMade work tally old made
  pub same_view : view ≡ work.view
  pub same_base : base ≡ work.base
  pub few : first + length work.points ≤ most_points

-- The report has the rows of the points, one for each, and the seats counted them.
pub record IsFinished (work : Work) (tally : Sheet) (old : List Tallied) (finished : Finished) : Type 0 where
  pub rows : AreSeen work.app work.limits work.view work.points finished.report.rows
  pub back : ComeBack tally old finished.seats.items
  pub rise : RiseBy (totals_of finished.report.rows) old finished.seats.items
