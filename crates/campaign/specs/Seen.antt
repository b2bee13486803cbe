-- Rows as far as a view shows them: a row whose events are not written has none.
use Rattle.std.specs.Prelude.{◌≡◌, Bool, true, false, List, [], map}
use Rattle.std.specs.List.{AllByRecursion}
use Rattle.model.specs.declared.plan.Injection.{Injection}
use Rattle.model.specs.Application.{Application, Limits}
use Rattle.model.specs.Run.{IsRow}
use Rattle.model.specs.Campaign.{Row}
use Rattle.report.specs.Views.{shows_events}
use Rattle.report.specs.declared.view.View.{View}

-- a row with its events, or without
abbrev pub row_with : (events : Bool) → Row → Row
row_with true row = row
row_with false row = record row { run = record row.run { events = [] } }

-- a row as far as the view shows it
abbrev pub seen : View → Row → Row
seen view row = row_with (shows_events view row.run.end) row

-- It is a row of the application, as far as the view shows that.
pub record IsSeen (app : Application) (limits : Limits) (view : View) (row : Row) : Type 0 where
  pub whole : Row
  pub is_row : IsRow app limits whole.point whole.reached whole.run
  pub is : row ≡ seen view whole

-- They are the rows of these points, as far as the view shows them.
pub record AreSeen (app : Application) (limits : Limits) (view : View)
    (points : List (List Injection)) (rows : List Row) : Type 0 where
  pub one_each : map (λ (row : Row). row.point) rows ≡ points
  pub each : AllByRecursion (IsSeen app limits view) rows
