-- A run with a point: up to the step of its first injection it is the base run.
-- And the events of a run, from one step to a later one.
use Rattle.std.proofs.Common.{◌≡◌, ◌≢◌, ◌<◌, ◌≤◌, ℕ, zero, suc, true, eqb, List, [], ◌∷◌, ◌++◌, length, take, drop, ap, refl, sym}
use Rattle.std.proofs.Common.{◌∙◌, arith, length-append, append-nil}
use Rattle.std.proofs.Math.Seq.{drop-append_seam, drop-length, take-append_seam}
use Rattle.std.specs.List.{AllByRecursion}
use Rattle.std.proofs.lemmas.Bool.{ne_eqb}
use Rattle.std.proofs.lemmas.List.{append_assoc, drop-append-le}
use Rattle.model.specs.declared.event.Event.{Event}
use Rattle.model.specs.declared.plan.Injection.{Injection}
use Rattle.model.specs.Points.{AreInOrder, first_step, last_step}
use Rattle.model.specs.Application.{Application, Limits}
use Rattle.model.specs.State.{State}
use Rattle.model.specs.Step.{step}
use Rattle.model.specs.Run.{injected, state_after, events_after}
use Rattle.model.proofs.Lists.{eqb-refl, eqb-same}
use Rattle.model.proofs.Sorting.{by_test}

-- ---- injections in order: nothing before the first one's step, nothing past the last one's

-- none of those that are above a step is at it
pub none_below : (n : ℕ) (is : List Injection) → AllByRecursion (λ (i : Injection). n < i.step) is → injected is n ≡ []
none_below n [] above = refl
none_below n (i ∷ is) above = rw (ne_eqb i.step n (λ e. let more = above.0 in absurd (omega arith))) (none_below n is above.1)

all_above : (m n : ℕ) (is : List Injection) → m < n → AllByRecursion (λ (i : Injection). n ≤ i.step) is
    → AllByRecursion (λ (i : Injection). m < i.step) is
all_above m n [] l all = tt
all_above m n (i ∷ is) l all = ((let from = all.0 in omega arith), all_above m n is l all.1)

pub none_before : (is : List Injection) → AreInOrder is → (n : ℕ) → n < first_step is → injected is n ≡ []
none_before [] order n l = refl
none_before (i ∷ is) order n l = none_below n (i ∷ is) (l, all_above n i.step is l order.0)

pub all_from : (m n : ℕ) (is : List Injection) → m ≤ n → AllByRecursion (λ (i : Injection). n ≤ i.step) is
    → AllByRecursion (λ (i : Injection). m ≤ i.step) is
all_from m n [] l all = tt
all_from m n (i ∷ is) l all = ((let from = all.0 in omega arith), all_from m n is l all.1)

-- All are from there on if the first one is.
pub from_first : (is : List Injection) → AreInOrder is → (n : ℕ)
    → n ≤ first_step is → AllByRecursion (λ (i : Injection). n ≤ i.step) is
from_first [] order n l = tt
from_first (i ∷ is) order n l = (l, all_from n i.step is l order.0)

pub first_to_last : (is : List Injection) → AreInOrder is → first_step is ≤ last_step is
first_to_last [] order = omega arith
first_to_last (i ∷ []) order = omega arith
first_to_last (i ∷ j ∷ is) order = let one = order.0.0 in let rest = first_to_last (j ∷ is) order.1 in omega arith

pub none_past : (is : List Injection) → AreInOrder is → (n : ℕ) → last_step is < n → injected is n ≡ []
none_past [] order n l = refl
none_past (i ∷ []) order n l = rw (ne_eqb i.step n (λ e. absurd (omega arith))) refl
none_past (i ∷ j ∷ is) order n l =
    let one = order.0.0 in
    let rest = first_to_last (j ∷ is) order.1 in
    rw (ne_eqb i.step n (λ e. absurd (omega arith))) (none_past (j ∷ is) order.1 n l)

-- ---- a run up to the step of the first injection

module _ (app : Application) (limits : Limits) (plan : List Injection)
    (first : ℕ) (none : (n : ℕ) → n < first → injected plan n ≡ []) where
  -- the state after this many steps is the base run's
  pub same_state : (n : ℕ) → n ≤ first → state_after app limits plan n ≡ state_after app limits [] n
  same_state zero l = refl
  same_state (suc n) l =
      ap (λ (handlers : List ℕ). step app limits handlers (state_after app limits plan n)) (none n (omega arith))
      ∙ ap (λ (s : State). step app limits [] s) (same_state n (omega arith))

  -- and so are the events
  pub same_events : (n : ℕ) → n ≤ first → events_after app limits plan n ≡ events_after app limits [] n
  same_events zero l = refl
  same_events (suc n) l =
      ap (λ (events : List Event). events ++ (state_after app limits plan (suc n)).log) (same_events n (omega arith))
      ∙ ap (λ (s : State). events_after app limits [] n ++ s.log) (same_state (suc n) l)

-- ---- the events up to a step are a beginning of those up to a later one

module _ (app : Application) (limits : Limits) (plan : List Injection) where
  -- with the rest of them
  extends : (n m : ℕ) → n ≤ m → (rest : List Event) × (events_after app limits plan m ≡ events_after app limits plan n ++ rest)
  extends zero m l = (events_after app limits plan m, refl)
  extends (suc n) zero l = absurd (omega arith)
  extends (suc n) (suc m) l = by_test (eqb n m)
      (λ t.
      let same : n ≡ m = eqb-same n m t in (
        [],
        ap (λ (k : ℕ). events_after app limits plan (suc k)) (sym same) ∙ sym (append-nil (events_after app limits plan (suc n))),
      ))
      (λ t.
      let apart : n ≢ m = (λ e. let u : eqb n m ≡ true = rw e (eqb-refl m) in absurd (cc)) in
      let more = extends (suc n) m (omega arith) in
      let log : List Event = (state_after app limits plan (suc m)).log in (
        more.0 ++ log,
        ap (λ (events : List Event). events ++ log) more.1 ∙ append_assoc (events_after app limits plan (suc n)) more.0 log,
      ))

  module _ (n m : ℕ) (l : n ≤ m) where
    pub begins_with : take (length (events_after app limits plan n)) (events_after app limits plan m)
        ≡ events_after app limits plan n
    begins_with =
        let more = extends n m l in
        ap (take (length (events_after app limits plan n))) more.1 ∙ take-append_seam (events_after app limits plan n) more.0

    pub no_fewer : length (events_after app limits plan n) ≤ length (events_after app limits plan m)
    no_fewer =
        let more = extends n m l in
        omega (arith, ap length more.1, length-append (events_after app limits plan n) more.0)

    pub goes_on_with : events_after app limits plan n
        ++ drop (length (events_after app limits plan n)) (events_after app limits plan m)
        ≡ events_after app limits plan m
    goes_on_with =
        let more = extends n m l in
        ap (λ (events : List Event). events_after app limits plan n ++ events)
        (ap (drop (length (events_after app limits plan n))) more.1 ∙ drop-append_seam (events_after app limits plan n) more.0)
        ∙ sym more.1

    -- one step more
    pub from_one_more : drop (length (events_after app limits plan n)) (events_after app limits plan (suc m))
        ≡ drop (length (events_after app limits plan n)) (events_after app limits plan m)
        ++ (state_after app limits plan (suc m)).log
    from_one_more =
        drop-append-le (length (events_after app limits plan n))
        (events_after app limits plan m) (state_after app limits plan (suc m)).log no_fewer

  -- none yet
  pub from_here : (n : ℕ) → drop (length (events_after app limits plan n)) (events_after app limits plan n) ≡ []
  from_here n = drop-length (events_after app limits plan n)
