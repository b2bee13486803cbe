-- A variable is as it was if nothing stores to it.
use Rattle.std.proofs.Common.{◌≡◌, ◌<◌, ◌≤◌, ◌+◌, ℕ, zero, suc, true, false, List, [], ◌∷◌, refl, ap, ◌∙◌, arith}
use Rattle.model.specs.declared.plan.Injection.{Injection}
use Rattle.model.specs.Application.{Application, Limits}
use Rattle.model.specs.Order.{tasks_of}
use Rattle.model.specs.Run.{injected, state_after}
use Rattle.model.specs.State.{State, for_each}
use Rattle.model.specs.Step.{before_step, step}
use Rattle.model.specs.Switching.{make_ready}
use Rattle.model.specs.Time.{due, wake_due}
use Rattle.model.specs.Values.{variable_in}
use Rattle.laws.specs.Values.{NoHandlerStores, NoTaskStores}
use Rattle.laws.proofs.Deeds.{Keeping}
use Rattle.laws.proofs.Changes.{anyone, kept-step}
use Rattle.laws.proofs.Staying.{AreLeft, Stops}
use Rattle.laws.proofs.Sleeping.{NoneBetween}

variables-all_ready : (is : List ℕ) (s : State) → (for_each make_ready is s).variables ≡ s.variables
variables-all_ready [] s = refl
variables-all_ready (i ∷ is) s = variables-all_ready is (make_ready i s)

module _ (x value : ℕ) where
  -- The variable is this.
  abbrev Is : State → Type 0
  Is s = variable_in s.variables x ≡ value

  is-framed : (s t : State) → t.tasks ≡ s.tasks → t.next_ticket ≡ s.next_ticket
      → t.time ≡ s.time → Stops s.stopped t.stopped → AreLeft x false 0 true true s t → Is s → Is t
  is-framed s t e n m stops left h = left.0 refl ∙ h

  is-passed : (n : ℕ) (s : State) → NoneBetween n s → Is s → Is (wake_due (record s { time = s.time + n }))
  unfolding wake_due
  is-passed n s none h =
      let t : State = record s { time = s.time + n } in
      ap (λ variables. variable_in variables x) (variables-all_ready (tasks_of (due t)) t) ∙ h

  is-kept : Keeping Is anyone anyone x false 0 true true
  is-kept = record {
    framed = is-framed;
    moved = λ s i t u remains k. k;
    taken = λ s i status is later k. k;
    passed = is-passed;
  }

  pub is_after_step : (app : Application) (limits : Limits) (handlers : List ℕ) (s : State)
      → NoHandlerStores app x → NoTaskStores app x (before_step app handlers s) → Is s → Is (step app limits handlers s)
  is_after_step app limits handlers s spared spares h =
      kept-step is-kept app (λ _. spared) limits handlers s (λ i runs. (λ is. refl, λ _. spares i runs, refl, λ no. absurd (cc))) h

pub same_after_step : (app : Application) (limits : Limits) (handlers : List ℕ) (x : ℕ) (s : State)
    → NoHandlerStores app x → NoTaskStores app x (before_step app handlers s)
    → variable_in (step app limits handlers s).variables x ≡ variable_in s.variables x
same_after_step app limits handlers x s spared spares =
    is_after_step x (variable_in s.variables x) app limits handlers s spared spares refl

-- In no step of a run from one on, and up to another, the running task stores to it.
abbrev NoneStores : Application → Limits → List Injection → ℕ → ℕ → ℕ → Type 0
NoneStores app limits plan x first n =
    (m : ℕ) → first ≤ m → m < first + n → NoTaskStores app x (before_step app (injected plan m) (state_after app limits plan m))

pub same_after : (app : Application) (limits : Limits) (plan : List Injection) (x first n : ℕ) → NoHandlerStores app x
    → NoneStores app limits plan x first n
    → variable_in (state_after app limits plan (first + n)).variables x
    ≡ variable_in (state_after app limits plan first).variables x
same_after app limits plan x first zero spared spares =
    let none : first + zero ≡ first = omega arith in
    ap (λ m. variable_in (state_after app limits plan m).variables x) none
same_after app limits plan x first (suc n) spared spares =
    let one : first + suc n ≡ suc (first + n) = omega arith in
    let last : State = state_after app limits plan (first + n) in
    ap (λ m. variable_in (state_after app limits plan m).variables x) one
    ∙ same_after_step app limits (injected plan (first + n)) x last spared (spares (first + n) (omega arith) (omega arith))
    ∙ same_after app limits plan x first n spared (λ m l k. spares m l (omega arith))
