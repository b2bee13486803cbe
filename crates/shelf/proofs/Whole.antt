-- Rows with all their events.
use Rattle.std.proofs.Common.{◌≡◌, ◌+◌, ◌-◌, ◌%◌, ◌<◌, ◌≤◌, ℕ, true, None, inl, inr, List, [], ◌++◌, Bool, Some, take, length}
use Rattle.std.proofs.Common.{length-append, ap, ap₂}
use Rattle.std.proofs.Common.{sym, subst, ◌∙◌, arith, false, Result, Ok, Err}
use Rattle.std.specs.Prelude.{OnErr}
use Rattle.std.proofs.lemmas.Bool.{cases_lt}
use Rattle.model.specs.declared.event.Event.{Event}
use Rattle.model.specs.declared.event.End.{End}
use Rattle.model.specs.declared.plan.Injection.{Injection}
use Rattle.model.specs.Points.{IsPoint, first_step}
use Rattle.model.specs.Application.{Application, Limits}
use Rattle.model.specs.Run.{Run, IsRun, IsRow, end_of, events_after, is_reached, state_after}
use Rattle.model.proofs.OneRun.{one_row}
use Rattle.machine.specs.declared.machine.Machine.{Machine}
use Rattle.shelf.specs.Begun.{HasBegun}
use Rattle.shelf.specs.declared.row.RowBeginning.{RowBeginning}
use Rattle.shelf.specs.Shelves.{Shelved, IsShelf, cost_of}
use Rattle.shelf.proofs.Along.{cost_beyond, few_before, shared_is}
use Rattle.shelf.proofs.Walking.{on_err, row_tells}

-- ---- a run is the only one

module _ (app : Application) (plan : List Injection) (limits : Limits) where
  no_longer : (one other : Run) → IsRun app plan limits one → IsRun app plan limits other → one.steps ≤ other.steps
  no_longer one other is also = elim (cases_lt other.steps one.steps) [
    | inl less ↦ let none = is.goes_on other.steps less in let end = also.ends in absurd (cc)
    | inr more ↦ more
  ]

  pub same_steps : (one other : Run) → IsRun app plan limits one → IsRun app plan limits other → one.steps ≡ other.steps
  same_steps one other is also =
      let forth = no_longer one other is also in
      let back = no_longer other one also is in
      omega (arith, forth, back)

  pub same_events : (one other : Run) → IsRun app plan limits one → IsRun app plan limits other → one.events ≡ other.events
  same_events one other is also = is.trace ∙ ap (events_after app limits plan) (same_steps one other is also) ∙ sym also.trace

-- ---- the row of a point that is reached, whose events from the injection on came into an empty trail

module _ (app : Application) (shelf : Shelved) (h : IsShelf app shelf)
    (point : List Injection) (reached : first_step point < shelf.base.steps)
    (k : Machine) (old new : List Event) (none : old ≡ []) (beginning : RowBeginning)
    (begun : HasBegun app point shelf.limits k old new beginning)
    (before : beginning.before ≡ length (events_after app shelf.limits [] (first_step point)))
    (end : End) (ends : beginning.end ≡ Some end)
    (ticks : ℕ) (elapsed : ticks ≡ (state_after app shelf.limits point k.steps).elapsed) where
  is_own : new ≡ begun.own
  is_own = begun.kept ∙ ap (λ (events : List Event). events ++ begun.own) none

  abbrev its_run : Run
  its_run = record {
    events = events_after app shelf.limits [] (first_step point) ++ begun.own;
    steps = k.steps;
    ticks = ticks;
    end = end;
  }

  is_its_run : IsRun app point shelf.limits its_run
  is_its_run =
      record { goes_on = begun.way.goes_on; ends = sym begun.end ∙ ends; trace = sym begun.events; elapsed = elapsed }

  pub whole_row : (events : List Event) → events ≡ take beginning.before shelf.base.events ++ new
      → IsRun app point shelf.limits (record { events = events; steps = k.steps; ticks = ticks; end = end })
  whole_row events e =
      subst (λ (events : List Event).
      IsRun app point shelf.limits (record { events = events; steps = k.steps; ticks = ticks; end = end }))
      (sym (e
      ∙ ap₂ (λ (front own : List Event). front ++ own)
      (shared_is app shelf h (first_step point) reached beginning.before before) is_own))
      is_its_run

  -- If there was no memory for them, the meter has risen by the row's steps all the same.
  pub whole_refused : (from to : ℕ) → to + first_step point ≡ from + k.steps → 0 < beginning.before + length new
      → (run : Run) → IsRun app point shelf.limits run
      → (to ≤ from + (run.steps - first_step point)) × (0 < length run.events)
  whole_refused from to risen some run is =
      let steps = same_steps app point shelf.limits run its_run is is_its_run in
      let events = ap length (same_events app point shelf.limits run its_run is is_its_run) in
      let own = ap length is_own in
      let all = length-append (events_after app shelf.limits [] (first_step point)) begun.own in
      let past = begun.past in
      (rw steps (omega (arith, risen, past)), omega (arith, events, own, all, some, before))

-- ---- a point that isn't reached

module _ (app : Application) (shelf : Shelved) (h : IsShelf app shelf) (point : List Injection) where
  -- Its row is the base run.
  is_missed : is_reached app shelf.limits point shelf.base.steps ≡ false → (reached : Bool) (run : Run)
      → IsRow app shelf.limits point reached run → (reached ≡ false) × (run ≡ shelf.base)
  is_missed missed reached run is = one_row app shelf.limits point reached false run shelf.base is (h.is_base, missed)

  pub missed_few : {X E : Type 0} (from to : ℕ) → is_reached app shelf.limits point shelf.base.steps ≡ false
      → ((steps : ℕ) → to ≤ from + cost_of shelf point false steps) → (r : Result X E) → OnErr r (0 < length shelf.base.events)
      → OnErr r ((reached : Bool) (run : Run) → IsRow app shelf.limits point reached run
      → (to ≤ from + cost_of shelf point reached run.steps) × (0 < length run.events))
  missed_few from to missed few (Ok x) some = tt
  missed_few from to missed few (Err e) some = λ reached run is.
      let one = is_missed missed reached run is in
      (rw one.0 (few run.steps), rw one.1 some)

  -- The row of one that is reached is the run with its injections.
  pub reached_few : {X E : Type 0} (from mid to : ℕ) → first_step point < shelf.base.steps
      → is_reached app shelf.limits point shelf.base.steps ≡ true → mid ≡ from + first_step point % shelf.stride
      → (r : Result X E) → OnErr r ((run : Run) → IsRun app point shelf.limits run
      → (to ≤ mid + (run.steps - first_step point)) × (0 < length run.events))
      → OnErr r ((reached : Bool) (run : Run) → IsRow app shelf.limits point reached run
      → (to ≤ from + cost_of shelf point reached run.steps) × (0 < length run.events))
  reached_few from mid to l comes way (Ok x) few = tt
  reached_few from mid to l comes way (Err e) few = by_row where
    by_row : (reached : Bool) (run : Run) → IsRow app shelf.limits point reached run
        → (to ≤ from + cost_of shelf point reached run.steps) × (0 < length run.events)
    by_row true run is =
        let own = few run is.3 in
        let cost = cost_beyond shelf point l true run.steps in
        (omega (arith, own.0, cost, way), own.1)
    by_row false run is =
        let same = same_steps app [] shelf.limits run shelf.base is.0 h.is_base in
        let both : true ≡ false = sym comes ∙ ap (is_reached app shelf.limits point) (sym same) ∙ is.1 in
        absurd (cc)

  -- Where the walk was refused memory, so would be either.
  pub walk_few : {X E : Type 0} (formed : IsPoint point) (from to : ℕ) → first_step point < shelf.base.steps
      → to ≤ from + first_step point % shelf.stride → 0 < length (events_after app shelf.limits [] (first_step point))
      → (r : Result X E) → OnErr r ((reached : Bool) (run : Run) → IsRow app shelf.limits point reached run
      → (to ≤ from + cost_of shelf point reached run.steps) × (0 < length run.events))
  walk_few formed from to l way some r = on_err r (by_row) where
    goes : (n : ℕ) → n ≤ first_step point → end_of app shelf.limits (state_after app shelf.limits [] n) ≡ None
    goes n le = h.is_base.goes_on n (omega (arith, l, le))

    by_row : (reached : Bool) (run : Run) → IsRow app shelf.limits point reached run
        → (to ≤ from + cost_of shelf point reached run.steps) × (0 < length run.events)
    by_row true run is =
        let cost = cost_beyond shelf point l true run.steps in
        (omega (arith, cost, way), row_tells app shelf.limits point formed goes some run is.3)
    by_row false run is =
        let cost = cost_beyond shelf point l false run.steps in
        let events = ap length (same_events app [] shelf.limits run shelf.base is.0 h.is_base) in
        let few = few_before app shelf h (first_step point) l in
        (omega (arith, cost, way), omega (arith, events, few, some))
