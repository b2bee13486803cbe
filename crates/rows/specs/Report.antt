-- The rows of a campaign, as they are kept.
use Rattle.std.specs.Prelude.{◌≡◌, ℕ, ◌+◌, ◌≤◌, List, [], ◌++◌, length, map, take, drop, slice_get, Option, Some, None}
use Rattle.std.specs.List.{AllByRecursion, flat_map}
use Rattle.machine.specs.Logged.{all_of}
use Rattle.model.specs.Run.{Run}
use Rattle.model.specs.Campaign.{Row, totals_of}
use Rattle.model.specs.Scripts.{most_points}
use Rattle.report.specs.declared.view.View.{View}
use Rattle.rows.specs.declared.rows.KeptRow.{KeptRow}
use Rattle.rows.specs.declared.rows.Part.{Part}
use Rattle.rows.specs.declared.rows.Place.{Place}
use Rattle.rows.specs.declared.campaign_report.Rows.{Rows}
use Rattle.rows.specs.Links.{Store, linked_events, AreLegs, IsLink}

-- A row that is kept begins as the base run does, with this many of its events, and goes on with those that follow its link.
abbrev pub row_of : (base : Run) → Store → KeptRow → Row
row_of base store kept = record {
  point = kept.point;
  reached = kept.reached;
  run = record {
    events = take kept.shared base.events ++ linked_events base.events store kept.link;
    steps = kept.steps;
    ticks = kept.ticks;
    end = kept.end;
  };
}

abbrev pub rows_of : (base : Run) → Store → List KeptRow → List Row
rows_of base store kept = map (row_of base store) kept

-- the events of the row are there
pub record IsKept (base : Run) (store : Store) (kept : KeptRow) : Type 0 where
  pub shared : kept.shared ≤ length base.events
  pub link : IsLink base.events store kept.link

-- ---- the rows as a whole

-- what the worker of a part kept
abbrev pub store_of : Part → Store
store_of part = record { trail = all_of part.trail; legs = part.legs.items }

-- this many rows of a part, from the first on
abbrev pub rows_in : Run → Part → (first count : ℕ) → List Row
rows_in base part first count = rows_of base (store_of part) (take count (drop first part.kept))

abbrev pub rows_in_some : Run → Option Part → (first count : ℕ) → List Row
rows_in_some base (Some part) first count = rows_in base part first count
rows_in_some base None first count = []

-- the rows of a place
abbrev pub rows_at : Run → List Part → Place → List Row
rows_at base parts place = rows_in_some base (slice_get parts place.part) place.first place.count

-- there are rows in the place
pub record IsPlace (parts : List Part) (place : Place) : Type 0 where
  pub part : Part
  pub at_part : slice_get parts place.part ≡ Some part
  pub within : place.first + place.count ≤ length part.kept

-- the rows that the parts keep in these places, one place after the other
abbrev pub whole : Rows → List Row
whole rows = flat_map (rows_at rows.base rows.parts.items) rows.places.items

-- The events of each row of the part are there.
pub record AreKept (base : Run) (part : Part) : Type 0 where
  pub rows : AllByRecursion (IsKept base (store_of part)) part.kept
  pub legs : AreLegs base.events (store_of part)

-- Each row is there, the last one's number is no greater than there may be rows, and they add up to these totals.
pub record IsSound (rows : Rows) : Type 0 where
  pub kept : AllByRecursion (AreKept rows.base) rows.parts.items
  pub placed : AllByRecursion (IsPlace rows.parts.items) rows.places.items
  pub few : rows.first + length (whole rows) ≤ most_points
  pub counted : rows.totals ≡ totals_of (whole rows)

-- what callers see of a report: its view, the number of its first row, and its rows, as far as the view shows them
pub record Shown : Type 0 where
  pub view : View
  pub first : ℕ
  pub rows : List Row

abbrev pub shown_of : Rows → Shown
shown_of rows = record { view = rows.view; first = rows.first; rows = whole rows }
