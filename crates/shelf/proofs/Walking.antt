-- A kernel that goes along the base run.
use Rattle.std.proofs.Common.{◌≡◌, ◌<◌, ◌≤◌, ◌+◌, ◌-◌, ℕ, List, [], None, Result, Ok, Err, length, length-append, ap}
use Rattle.std.proofs.Common.{arith, inl, inr}
use Rattle.std.specs.Prelude.{OnErr}
use Rattle.std.proofs.lemmas.Bool.{cases_lt}
use Rattle.model.specs.declared.event.Event.{Event}
use Rattle.model.specs.declared.plan.Injection.{Injection}
use Rattle.model.specs.Points.{IsPoint, first_step}
use Rattle.model.specs.Application.{Application, Limits}
use Rattle.model.specs.Run.{Run, IsRun, end_of, events_after, injected, state_after}
use Rattle.model.proofs.Injected.{no_fewer, none_before, same_events, same_state}
use Rattle.machine.specs.declared.machine.Machine.{Machine}
use Rattle.machine.specs.Can.{IsUnderWay}
use Rattle.kernel.specs.Leads.{IsLed}
use Rattle.shelf.specs.declared.walk.Walk.{Walk}
use Rattle.shelf.specs.Walks.{IsWalk}
use Rattle.shelf.proofs.Joining.{past_none}

module _ (app : Application) (inside limits : Limits) (same : inside ≡ limits) where
  -- the kernel goes on, and what it reports on the way is counted
  pub is_walk : (old : Walk) → IsWalk app limits old → (new : Machine) (before after : List Event)
      → IsLed app inside old.kernel new before after → IsUnderWay app [] inside new
      → (count : ℕ) → count ≡ old.before + (length after - length before)
      → IsWalk app limits (record { kernel = new; before = count })
  is_walk old is new before after led way count sum =
      let was : IsWalk app inside old = rw same is in
      let more = ap length (led.leads.events [] (past_none app inside old.kernel was.way)) in
      let all = ap length led.kept in
      let counted = was.before in
      let long : count ≡ length (events_after app inside [] new.steps) =
      omega (
        arith,
        more,
        all,
        counted,
        sum,
        length-append (events_after app inside [] old.kernel.steps) led.own,
        length-append before led.own,
      ) in
      rw (← same) (record { way = way; before = long })

-- ---- a row whose walk was refused memory

-- What is true holds where memory was refused.
pub on_err : {X E P : Type 0} (r : Result X E) → P → OnErr r P
on_err (Ok x) p = tt
on_err (Err e) p = p

module _ (app : Application) (limits : Limits) (point : List Injection) (formed : IsPoint point)
    (goes : (n : ℕ) → n ≤ first_step point → end_of app limits (state_after app limits [] n) ≡ None) where
  none : (n : ℕ) → n < first_step point → injected point n ≡ []
  none = none_before point formed.in_order

  -- It comes to its first injection,
  row_comes : (run : Run) → IsRun app point limits run → first_step point ≤ run.steps
  row_comes run is = elim (cases_lt run.steps (first_step point)) [
    | inl less ↦
        let same = ap (end_of app limits) (same_state app limits point (first_step point) none run.steps (omega (arith, less))) in
        let on = goes run.steps (omega (arith, less)) in
        let end = is.ends in
        absurd (cc)
    | inr more ↦ more
  ]

  -- so it reports what the base run reports before that.
  pub row_tells : 0 < length (events_after app limits [] (first_step point))
      → (run : Run) → IsRun app point limits run → 0 < length run.events
  row_tells some run is =
      let front = ap length (same_events app limits point (first_step point) none (first_step point) (omega arith)) in
      let more = no_fewer app limits point (first_step point) run.steps (row_comes run is) in
      let all = ap length is.trace in
      omega (arith, some, front, more, all)
