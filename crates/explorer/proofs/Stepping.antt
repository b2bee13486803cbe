-- Plans that go on from a kernel with handlers before the step.
use Rattle.std.proofs.Common.{◌≡◌, ◌<◌, ◌+◌, ℕ, Bool, true, false, List, [], ◌∷◌, ◌++◌, refl, length, ap, sym, ◌∙◌, subst, arith}
use Rattle.std.proofs.Common.{length-append}
use Rattle.std.specs.List.{AllByRecursion, filter}
use Rattle.std.proofs.lemmas.List.{length-map}
use Rattle.model.specs.declared.plan.Injection.{Injection}
use Rattle.model.specs.Application.{Application, Limits}
use Rattle.model.specs.Scripts.{AreLimits, IsWellFormed}
use Rattle.model.specs.State.{State}
use Rattle.model.specs.Step.{step}
use Rattle.model.specs.Run.{end_of, injected, state_after}
use Rattle.model.specs.Placements.{before_this, can_all_come, is_less}
use Rattle.model.proofs.Among.{all_among, all_append, all_if, all_map, all_of_both, all_weaker, among_map}
use Rattle.model.proofs.Placements.{extended_at, extended_before, same_before}
use Rattle.machine.specs.declared.machine.Machine.{Machine}
use Rattle.machine.specs.StandsFor.{Stands}
use Rattle.machine.specs.Can.{IsUnderWay}
use Rattle.kernel.specs.Can.{CanStep}
use Rattle.kernel.proofs.Running.{can_step, goes_on, steps_more}
use Rattle.explorer.specs.Layers.{AreAt, GoesOn, HasWay, each_followed, followed}
use Rattle.explorer.proofs.Ordering.{less-append}

module _ (app : Application) (formed : IsWellFormed app) (limits : Limits) (are : AreLimits limits.ticks limits.steps)
    (k : Machine) (goes : GoesOn app limits k) where
  pub can : CanStep app limits k
  can = can_step app formed goes.plan limits are k goes.way (goes.going goes.plan goes.way)

  module _ (n : ℕ) (here : k.steps ≡ n) (now : List ℕ) where
    abbrev more : List Injection → List Injection
    more plan = plan ++ before_this n now

    below_more : (plan : List Injection) → AllByRecursion (λ (i : Injection). i.step < n) plan
        → AllByRecursion (λ (i : Injection). i.step < n + 1) (more plan)
    below_more plan below =
        all_append (λ (i : Injection). i.step < n + 1) plan (before_this n now)
        (all_weaker (λ (i : Injection). i.step < n) (λ (i : Injection). i.step < n + 1) (λ i l. omega (arith, l)) plan below)
        (all_map (λ (i : Injection). i.step < n + 1) (λ handler. record { step = n; handler = handler }) now
        (all_if (λ handler. n < n + 1) now (λ handler is. omega arith)))

    -- With the handlers it is under way there too: they come later.
    way_with : (plan : List Injection) → IsUnderWay app plan limits k → IsUnderWay app (more plan) limits k
    way_with plan way = record {
      stands =
          subst (Stands k) (sym (same_before app limits (more plan) plan k.steps
          (λ m l. extended_before plan n now m (omega (arith, l, here))))) way.stands;
      goes_on = λ m l.
          ap (λ (s : State). end_of app limits s)
          (same_before app limits (more plan) plan m (λ j less. extended_before plan n now j (omega (arith, less, l, here))))
          ∙ way.goes_on m l;
    }

    module _ (next : Machine) (stands : (s : State) → Stands k s → Stands next (step app limits now s)) where
      steps_by : (plan : List Injection) → AllByRecursion (λ (i : Injection). i.step < n) plan
          → (s : State) → Stands k s → Stands next (step app limits (injected (more plan) k.steps) s)
      steps_by plan below s h =
          let those : injected (more plan) k.steps ≡ now =
          ap (λ (m : ℕ). injected (more plan) m) here ∙ extended_at plan n now below in
          subst (λ (handlers : List ℕ). Stands next (step app limits handlers s)) (sym those) (stands s h)

      way_on : (plan : List Injection) → AllByRecursion (λ (i : Injection). i.step < n) plan
          → IsUnderWay app plan limits k → IsUnderWay app (more plan) limits next
      way_on plan below way =
          let with = way_with plan way in
          goes_on app formed (more plan) limits are k with (goes.going (more plan) with) next (steps_by plan below)

      below_here : (least : List Injection) → HasWay app limits k least → AllByRecursion (λ (i : Injection). i.step < n) least
      below_here least h = subst (λ (m : ℕ). AllByRecursion (λ (i : Injection). i.step < m) least) here h.below

      pub next_steps : (least : List Injection) → HasWay app limits k least → next.steps ≡ n + 1
      next_steps least h =
          let way = way_with least h.way in
          let steps = steps_more app formed (more least) limits are k way (goes.going (more least) way) next
          (steps_by least (below_here least h)) in
          omega (arith, steps, here)

      pub way_next : (least : List Injection) → HasWay app limits k least → HasWay app limits next (more least)
      way_next least h = record {
        way = way_on least (below_here least h) h.way;
        below =
            subst (λ (m : ℕ). AllByRecursion (λ (i : Injection). i.step < m) (more least)) (sym (next_steps least h))
            (below_more least (below_here least h));
      }

      pub stepped : (count : ℕ) (least : List Injection) (plans : List (List Injection)) → AreAt app limits n k count least plans
          → AreAt app limits (n + 1) next count (least ++ before_this n now) (each_followed n plans now)
      stepped count least plans h =
          let below = all_among (λ plan. AllByRecursion (λ (i : Injection). i.step < n) plan) plans least h.below h.among in
          let way = way_with least (all_among (λ plan. IsUnderWay app plan limits k) plans least h.way h.among) in
          let steps = steps_more app formed (more least) limits are k way (goes.going (more least) way) next
          (steps_by least below) in
          record {
            way =
                all_map (λ plan. IsUnderWay app plan limits next) more plans
                (all_weaker (λ plan. AllByRecursion (λ (i : Injection). i.step < n) plan × IsUnderWay app plan limits k)
                (λ plan. IsUnderWay app (more plan) limits next)
                (λ plan both. way_on plan both.0 both.1) plans
                (all_of_both (λ plan. AllByRecursion (λ (i : Injection). i.step < n) plan)
                (λ plan. IsUnderWay app plan limits k) plans h.below h.way));
            below =
                all_map (λ plan. AllByRecursion (λ (i : Injection). i.step < n + 1) plan) more plans
                (all_weaker (λ plan. AllByRecursion (λ (i : Injection). i.step < n) plan)
                (λ plan. AllByRecursion (λ (i : Injection). i.step < n + 1) (more plan))
                (λ plan below. below_more plan below) plans h.below);
            here = omega (arith, steps, here);
            number = (let number = h.number in omega (arith, length-map plans more));
            among = among_map more plans least h.among;
            none_less =
                all_map (λ plan. is_less plan (more least) ≡ false) more plans
                (all_weaker (λ plan. (length plan ≡ length least) × (is_less plan least ≡ false))
                (λ plan. is_less (more plan) (more least) ≡ false)
                (λ plan both. less-append plan least (before_this n now) both.0 ∙ both.1) plans
                (all_of_both (λ plan. length plan ≡ length least) (λ plan. is_less plan least ≡ false) plans h.long h.none_less));
            long =
                all_map (λ plan. length plan ≡ length (more least)) more plans
                (all_weaker (λ plan. length plan ≡ length least) (λ plan. length (more plan) ≡ length (more least))
                (λ plan e. omega (arith, e, length-append plan (before_this n now), length-append least (before_this n now)))
                plans h.long);
          }

-- ---- whether the handlers can come

pass_all : {X : Type 0} (p : X → Bool) (xs : List X) → AllByRecursion (λ x. p x ≡ true) xs → filter p xs ≡ xs
pass_all p [] h = refl
pass_all p (x ∷ xs) h = rw h.0 (ap (λ ys. x ∷ ys) (pass_all p xs h.1))

pass_none : {X : Type 0} (p : X → Bool) (xs : List X) → AllByRecursion (λ x. p x ≡ false) xs → filter p xs ≡ []
pass_none p [] h = refl
pass_none p (x ∷ xs) h = rw h.0 (pass_none p xs h.1)

-- That is the same for all plans that are at a kernel.
module _ (app : Application) (limits : Limits) (k : Machine) (now : List ℕ) (came : Bool)
    (asked : (s : State) → Stands k s → came ≡ can_all_come app now s)
    (n count : ℕ) (least : List Injection) (plans : List (List Injection)) (at : AreAt app limits n k count least plans) where
  all_agree : AllByRecursion (λ plan. can_all_come app now (state_after app limits plan n) ≡ came) plans
  all_agree =
      all_weaker (λ plan. IsUnderWay app plan limits k)
      (λ plan. can_all_come app now (state_after app limits plan n) ≡ came)
      (λ plan way. sym (asked (state_after app limits plan n)
      (subst (λ (m : ℕ). Stands k (state_after app limits plan m)) at.here way.stands))) plans at.way

  pub all_follow : came ≡ true → followed app limits n plans now ≡ each_followed n plans now
  all_follow on =
      ap (λ (ps : List (List Injection)). each_followed n ps now)
      (pass_all (λ plan. can_all_come app now (state_after app limits plan n)) plans
      (subst (λ (b : Bool). AllByRecursion (λ plan. can_all_come app now (state_after app limits plan n) ≡ b) plans) on all_agree))

  pub none_follows : came ≡ false → followed app limits n plans now ≡ []
  none_follows off =
      ap (λ (ps : List (List Injection)). each_followed n ps now)
      (pass_none (λ plan. can_all_come app now (state_after app limits plan n)) plans
      (subst (λ (b : Bool). AllByRecursion (λ plan. can_all_come app now (state_after app limits plan n) ≡ b) plans) off all_agree))
