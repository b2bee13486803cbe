-- The handlers of a plan, step by step.
use Rattle.std.proofs.Common.{Some, ◌≡◌, ◌≢◌, ◌<◌, ◌≤◌, ◌+◌, ℕ, zero, suc, true, eqb, List, [], ◌∷◌, ◌++◌, length, get_or, drop}
use Rattle.std.proofs.Common.{refl, ap, sym, subst, ◌∙◌, arith, length-append, append-nil}
use Rattle.std.specs.List.{AllByRecursion}
use Rattle.std.proofs.lemmas.Bool.{eq-eqb, ne_eqb}
use Rattle.std.proofs.lemmas.Option.{same_Some}
use Rattle.std.proofs.lemmas.List.{append_assoc, drop_more}
use Rattle.model.specs.declared.plan.Injection.{Injection}
use Rattle.model.specs.Application.{Application, Limits}
use Rattle.model.specs.State.{State}
use Rattle.model.specs.Step.{step}
use Rattle.machine.specs.declared.machine.Machine.{Machine}
use Rattle.machine.specs.StandsFor.{Stands}
use Rattle.model.specs.Run.{injected}
use Rattle.std.specs.Prelude.{slice_get}
use Rattle.model.specs.Plans.{IsPlan}
use Rattle.model.specs.Points.{Rises}
use Rattle.model.proofs.Sorting.{by_test}
use Rattle.model.proofs.Injected.{all_from, none_below}
use Rattle.model.proofs.Lists.{eqb-same}

-- the injections that are left at this step: those of the plan from it on
pub record IsLeft (plan injections : List Injection) (n : ℕ) : Type 0 where
  pub same : (m : ℕ) → n ≤ m → injected injections m ≡ injected plan m
  pub order : Rises (λ (i : Injection). i.step) injections
  pub ahead : AllByRecursion (λ (i : Injection). n ≤ i.step) injections

-- where the first isn't at this step, all come later
pub later : (n : ℕ) (p : Injection) (ps : List Injection) → Rises (λ (i : Injection). i.step) (p ∷ ps)
    → n ≤ p.step → p.step ≢ n → AllByRecursion (λ (i : Injection). suc n ≤ i.step) (p ∷ ps)
later n p ps order l ne = (omega arith, all_from (suc n) p.step ps (omega arith) order.0)

at_it : (n : ℕ) (p : Injection) (ps : List Injection) → p.step ≡ n → injected (p ∷ ps) n ≡ p.handler ∷ injected ps n
at_it n p ps e = rw (eq-eqb p.step n e) refl

not_at : (m : ℕ) (p : Injection) (ps : List Injection) → p.step ≢ m → injected (p ∷ ps) m ≡ injected ps m
not_at m p ps ne = rw (ne_eqb p.step m ne) refl

-- one step on
pub left_next : (plan injections : List Injection) (n : ℕ) → IsLeft plan injections n
    → IsLeft plan (drop (length (injected injections n)) injections) (suc n)
left_next plan injections n h = go injections h.order h.ahead (λ m l. h.same m (omega arith)) where
  go : (ps : List Injection) → Rises (λ (i : Injection). i.step) ps → AllByRecursion (λ (i : Injection). n ≤ i.step) ps
      → ((m : ℕ) → suc n ≤ m → injected ps m ≡ injected plan m) → IsLeft plan (drop (length (injected ps n)) ps) (suc n)
  go [] order ahead same = record { same = same; order = tt; ahead = tt }
  go (q ∷ qs) order ahead same = by_test (eqb q.step n)
      (λ t.
      let e : q.step ≡ n = eqb-same q.step n t in
      rw (at_it n q qs e) (go qs order.1 ahead.1 (λ m l. sym (not_at m q qs (λ r. absurd (omega arith))) ∙ same m l)))
      (λ t.
      let ne : q.step ≢ n = (λ e. let u : eqb q.step n ≡ true = eq-eqb q.step n e in absurd (cc)) in
      let all = later n q qs order ahead.0 ne in
      rw (none_below n (q ∷ qs) all) (record { same = same; order = order; ahead = all }))

-- of a plan all of whose injections are still to come
pub left_first : (plan : List Injection) (n : ℕ) → IsPlan plan
    → AllByRecursion (λ (i : Injection). n ≤ i.step) plan → IsLeft plan plan n
left_first plan n is ahead = record { same = λ m l. refl; order = is.in_order; ahead = ahead }

-- ---- those of one step, one after another

-- from this one on
pub record AreFrom (injections : List Injection) (n i : ℕ) (handlers : List ℕ) : Type 0 where
  pub all : handlers ++ injected (drop i injections) n ≡ injected injections n
  pub order : Rises (λ (i : Injection). i.step) (drop i injections)
  pub ahead : AllByRecursion (λ (i : Injection). n ≤ i.step) (drop i injections)

module _ (injections : List Injection) (n i : ℕ) (handlers : List ℕ) (p : Injection)
    (l : i < length injections) (e : p ≡ get_or injections i p) (h : AreFrom injections n i handlers) where
  here : drop i injections ≡ p ∷ drop (i + 1) injections
  here = drop_more injections i p l ∙ ap (λ (x : Injection). x ∷ drop (i + 1) injections) (sym e)

  pub from_next : p.step ≡ n → AreFrom injections n (i + 1) (handlers ++ p.handler ∷ [])
  from_next at =
      let all : handlers ++ injected (p ∷ drop (i + 1) injections) n ≡ injected injections n = rw here at h.all in
      let order : Rises (λ (i : Injection). i.step) (p ∷ drop (i + 1) injections) =
      subst (Rises (λ (i : Injection). i.step)) here h.order in
      let ahead : AllByRecursion (λ (i : Injection). n ≤ i.step) (p ∷ drop (i + 1) injections) =
      subst (AllByRecursion (λ (i : Injection). n ≤ i.step)) here h.ahead in
      record {
        all =
            append_assoc handlers (p.handler ∷ []) (injected (drop (i + 1) injections) n)
            ∙ ap (λ (hs : List ℕ). handlers ++ hs) (sym (at_it n p (drop (i + 1) injections) at)) ∙ all;
        order = order.1;
        ahead = ahead.1;
      }

  -- there is room for it
  pub from_few : p.step ≡ n → length (injected injections n) ≤ 3 → length handlers < 3
  from_few at few =
      let next = from_next at in
      let long : length (handlers ++ p.handler ∷ []) ≤ length (injected injections n) =
      rw (← next.all) (omega (arith, length-append (handlers ++ p.handler ∷ []) (injected (drop (i + 1) injections) n))) in
      omega (arith, length-append handlers (p.handler ∷ []))

  pub from_done : p.step ≢ n → handlers ≡ injected injections n
  from_done off =
      let all : handlers ++ injected (p ∷ drop (i + 1) injections) n ≡ injected injections n = rw here at h.all in
      let order : Rises (λ (i : Injection). i.step) (p ∷ drop (i + 1) injections) =
      subst (Rises (λ (i : Injection). i.step)) here h.order in
      let ahead : AllByRecursion (λ (i : Injection). n ≤ i.step) (p ∷ drop (i + 1) injections) =
      subst (AllByRecursion (λ (i : Injection). n ≤ i.step)) here h.ahead in
      let none = none_below n (p ∷ drop (i + 1) injections) (later n p (drop (i + 1) injections) order ahead.0 off) in
      sym (append-nil handlers) ∙ ap (λ (hs : List ℕ). handlers ++ hs) (sym none) ∙ all

-- at the end of the injections
pub from_end : (injections : List Injection) (n i : ℕ) (handlers : List ℕ)
    → length injections ≤ i → AreFrom injections n i handlers → handlers ≡ injected injections n
from_end injections n i handlers l h =
    let none : drop i injections ≡ [] = drop_past injections i l in
    sym (append-nil handlers) ∙ ap (λ (ps : List Injection). handlers ++ injected ps n) (sym none) ∙ h.all where
      drop_past : (ps : List Injection) (i : ℕ) → length ps ≤ i → drop i ps ≡ []
      drop_past [] zero l = refl
      drop_past [] (suc i) l = refl
      drop_past (p ∷ ps) zero l = absurd (omega arith)
      drop_past (p ∷ ps) (suc i) l = drop_past ps i (omega arith)

-- ---- the handlers of a step are those of the plan

pub handlers_are : (plan injections : List Injection) (n : ℕ) (handlers : List ℕ)
    → handlers ≡ injected injections n → IsLeft plan injections n → handlers ≡ injected plan n
handlers_are plan injections n handlers is left = is ∙ left.same n (omega arith)

pub few_left : (plan injections : List Injection) (n : ℕ) → IsPlan plan
    → IsLeft plan injections n → length (injected injections n) ≤ 3
few_left plan injections n is left = rw (left.same n (omega arith)) (is.few_at_once n)

pub no_more : (injections : List Injection) (n : ℕ) → length (injected injections n) ≤ length injections
no_more [] n = omega arith
no_more (p ∷ ps) n = let l = no_more ps n in by_test (eqb p.step n) (λ t. rw t (omega arith)) (λ t. rw t (omega arith))

pub stands_as : (app : Application) (limits : Limits) (k next : Machine) (handlers others : List ℕ)
    → handlers ≡ others → ((s : State) → Stands k s → Stands next (step app limits handlers s))
    → (s : State) → Stands k s → Stands next (step app limits others s)
stands_as app limits k next handlers others e h =
    subst (λ (hs : List ℕ). (s : State) → Stands k s → Stands next (step app limits hs s)) e h

-- ---- before the first that is left

module _ (injections : List Injection) (first : Injection) (is : slice_get injections 0 ≡ Some first)
    (order : Rises (λ (i : Injection). i.step) injections) where
  pub all_ahead : (n : ℕ) → n ≤ first.step → AllByRecursion (λ (i : Injection). n ≤ i.step) injections
  all_ahead n l = by_injections injections is order where
    by_injections : (ps : List Injection) → slice_get ps 0 ≡ Some first
        → Rises (λ (i : Injection). i.step) ps → AllByRecursion (λ (i : Injection). n ≤ i.step) ps
    by_injections [] e o = tt
    by_injections (p ∷ ps) e o =
        let same : p.step ≡ first.step = ap (λ (q : Injection). q.step) (same_Some p first e) in
        (omega arith, all_from n p.step ps (omega arith) o.0)

  pub least_is : (n : ℕ) → AllByRecursion (λ (i : Injection). n ≤ i.step) injections → n ≤ first.step
  least_is n h = by_injections injections is h where
    by_injections : (ps : List Injection) → slice_get ps 0 ≡ Some first
        → AllByRecursion (λ (i : Injection). n ≤ i.step) ps → n ≤ first.step
    by_injections [] e a = absurd (cc)
    by_injections (p ∷ ps) e a =
        let same : p.step ≡ first.step = ap (λ (q : Injection). q.step) (same_Some p first e) in
        let l = a.0 in
        omega arith

  pub none_before : (n : ℕ) → n < first.step → injected injections n ≡ []
  none_before n l = none_below n injections (all_ahead (suc n) (omega arith))

pub left_on : (plan injections : List Injection) (n m : ℕ) → n ≤ m
    → AllByRecursion (λ (i : Injection). m ≤ i.step) injections → IsLeft plan injections n → IsLeft plan injections m
left_on plan injections n m le ahead left = record { same = λ k l. left.same k (omega arith); order = left.order; ahead = ahead }
