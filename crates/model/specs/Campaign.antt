-- A campaign: a run for each injection point, and how many of them end in which way.
use Rattle.std.specs.Prelude.{◌≡◌, ℕ, ◌+◌, ◌-◌, Bool, true, false, not, min, List, [], ◌∷◌, length, map, filter}
use Rattle.std.specs.List.{AllByRecursion, flat_map, range_with_len}
use Rattle.model.specs.declared.event.End.{End}
use Rattle.model.specs.declared.event.End.TheVariants.{Pass, Check, HandlerCheck, Misuse, Ticks, Steps, Stuck}
use Rattle.model.specs.declared.plan.Injection.{Injection}
use Rattle.model.specs.declared.plan.PointEntry.{PointEntry}
use Rattle.model.specs.declared.plan.PointEntry.TheVariants.{One, Each}
use Rattle.model.specs.declared.totals.Totals.{Totals}
use Rattle.model.specs.Application.{Application, Limits}
use Rattle.model.specs.Run.{Run, IsRow}

-- ---- the points

-- a point of one injection
abbrev pub one_point : (handler step : ℕ) → List Injection
one_point handler step = record { step = step; handler = handler } ∷ []

-- the steps from the first of these to the last, both included, that a run of this many steps has
abbrev pub steps_within : (steps first last : ℕ) → List ℕ
steps_within steps first last = range_with_len first (min steps (last + 1) - first)

-- the points that an entry of the file means, if the base run has this many steps
abbrev pub points_of : (steps : ℕ) → PointEntry → List (List Injection)
points_of steps (One point) = point ∷ []
points_of steps (Each range) = map (one_point range.handler) (steps_within steps range.first range.last)

-- the points of a file, in its order
abbrev pub points_in : Application → (steps : ℕ) → List (List Injection)
points_in app steps = flat_map (points_of steps) app.points

-- ---- the rows

-- a row: its point, whether the base run reaches it, and its run
pub record Row : Type 0 where
  pub point : List Injection
  pub reached : Bool
  pub run : Run

-- The rows of a campaign over these points.
pub record AreRows (app : Application) (limits : Limits) (points : List (List Injection)) (rows : List Row) : Type 0 where
  -- one for each point, in the order of the points
  pub one_each : map (λ (row : Row). row.point) rows ≡ points
  pub each : AllByRecursion (λ (row : Row). IsRow app limits row.point row.reached row.run) rows

-- ---- the totals

-- one of these, by the way in which a run ends
abbrev pub by_end : {A : Type 0} → (pass check misuse ticks steps stuck : A) → End → A
by_end pass check misuse ticks steps stuck Pass = pass
by_end pass check misuse ticks steps stuck (Check task op_index) = check
by_end pass check misuse ticks steps stuck (HandlerCheck handler op_index) = check
by_end pass check misuse ticks steps stuck (Misuse task op_index kind) = misuse
by_end pass check misuse ticks steps stuck Ticks = ticks
by_end pass check misuse ticks steps stuck Steps = steps
by_end pass check misuse ticks steps stuck Stuck = stuck

abbrev pub is_pass : End → Bool
is_pass end = by_end true false false false false false end

abbrev pub is_check : End → Bool
is_check end = by_end false true false false false false end

abbrev pub is_misuse : End → Bool
is_misuse end = by_end false false true false false false end

abbrev pub is_ticks : End → Bool
is_ticks end = by_end false false false true false false end

abbrev pub is_steps : End → Bool
is_steps end = by_end false false false false true false end

abbrev pub is_stuck_end : End → Bool
is_stuck_end end = by_end false false false false false true end

-- how many rows end in such a way, reached or not
abbrev pub ended : (End → Bool) → List Row → ℕ
ended is rows = length (filter (λ (row : Row). is row.run.end) rows)

-- how many rows there are, how many of them end in each way, and how many of their points are not reached
abbrev pub totals_of : List Row → Totals
totals_of rows = record {
  rows = length rows;
  pass = ended is_pass rows;
  check = ended is_check rows;
  misuse = ended is_misuse rows;
  ticks = ended is_ticks rows;
  steps = ended is_steps rows;
  stuck = ended is_stuck_end rows;
  not_reached = length (filter (λ (row : Row). not row.reached) rows);
}
