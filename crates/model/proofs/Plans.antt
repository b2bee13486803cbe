-- Points that don't fall, and among which none is at the step of the third after it, are a plan; others aren't.
use Rattle.std.proofs.Common.{◌≡◌, ◌<◌, ◌≤◌, ◌+◌, ◌||◌, ℕ, suc, Bool, true, false, List, [], ◌∷◌, Option, Some, None, length}
use Rattle.std.proofs.Common.{nat_lt, refl, eqb, ltb, subst, arith}
use Rattle.std.specs.List.{filter, AllByRecursion, slice_get}
use Rattle.std.proofs.lemmas.Bool.{ltb-false, le-ltb, eqb-false, eq-eqb, ne_eqb, or_parts, eqb-true}
use Rattle.std.proofs.lemmas.List.{length-map}
use Rattle.model.specs.declared.plan.Injection.{Injection}
use Rattle.model.specs.Points.{Rises, AreInOrder, IsPoint}
use Rattle.model.specs.Plans.{IsCrowded, IsPlan, most_injected}
use Rattle.model.specs.Run.{injected}
use Rattle.model.proofs.Sorting.{by_test}

-- Some step is less than the one before it, the first than this one.
abbrev pub falls_from : ℕ → List Injection → Bool
falls_from last [] = false
falls_from last (p ∷ ps) = nat_lt p.step last || falls_from p.step ps

-- The point is at this step.
abbrev is_at : ℕ → Option Injection → Bool
is_at n None = false
is_at n (Some p) = eqb p.step n

-- Some point is at the step of the third after it.
abbrev pub fourth_found : List Injection → Bool
fourth_found [] = false
fourth_found (p ∷ ps) = is_at p.step (slice_get ps 2) || fourth_found ps

abbrev step_of : Injection → ℕ
step_of p = p.step

abbrev From : ℕ → List Injection → Type 0
From n ps = AllByRecursion (λ (p : Injection). n ≤ p.step) ps

abbrev at : ℕ → List Injection → List Injection
at n ps = filter (λ (p : Injection). eqb p.step n) ps

from_less : (m n : ℕ) → m ≤ n → (ps : List Injection) → From n ps → From m ps
from_less m n le [] h = tt
from_less m n le (p ∷ ps) h = (let above = h.0 in omega arith, from_less m n le ps h.1)

rises : (last : ℕ) (ps : List Injection) → falls_from last ps ≡ false → From last ps × Rises step_of ps
rises last [] isnt = (tt, tt)
rises last (p ∷ ps) isnt =
    let parts = or_parts (ltb p.step last) (falls_from p.step ps) isnt in
    let above = ltb-false p.step last parts.0 in
    let later = rises p.step ps parts.1 in
    ((above, from_less last p.step above ps later.0), later)

-- none of those that are above a step is at it
none_at : (n : ℕ) (ps : List Injection) → From (n + 1) ps → at n ps ≡ []
none_at n [] h = refl
none_at n (p ∷ ps) h =
    let above = h.0 in
    let other : eqb p.step n ≡ false = ne_eqb p.step n (λ same. omega arith) in
    rw other (none_at n ps h.1)

one_more : (n : ℕ) (p : Injection) (ps : List Injection) → length (at n (p ∷ ps)) ≤ suc (length (at n ps))
one_more n p ps = by_test (eqb p.step n) (λ t. rw t (omega arith)) (λ t. rw t (omega arith))

two : (n : ℕ) (ps : List Injection) → From n ps → Rises step_of ps → is_at n (slice_get ps 2) ≡ false → length (at n ps) ≤ 2
two n [] from rising isnt = omega arith
two n (a ∷ []) from rising isnt = let one = one_more n a [] in omega arith
two n (a ∷ b ∷ []) from rising isnt =
    let one = one_more n a (b ∷ []) in
    let other = one_more n b [] in
    omega arith
two n (a ∷ b ∷ c ∷ ps) from rising isnt =
    let one = one_more n a (b ∷ c ∷ ps) in
    let other = one_more n b (c ∷ ps) in
    let above = from.1.1.0 in
    let apart : c.step ≡ n → ⊥ = eqb-false c.step n isnt in
    let past : n + 1 ≤ c.step = omega arith in
    let none = none_at n (c ∷ ps) (past, from_less (n + 1) c.step past ps rising.1.1.0) in
    let count : length (at n (c ∷ ps)) ≡ 0 = rw none refl in
    omega arith

few : (n : ℕ) (ps : List Injection) → Rises step_of ps → fourth_found ps ≡ false → length (at n ps) ≤ 3
few n [] rising isnt = omega arith
few n (p ∷ ps) rising isnt =
    let parts = or_parts (is_at p.step (slice_get ps 2)) (fourth_found ps) isnt in
    by_test (eqb p.step n)
    (λ t.
    let same : p.step ≡ n = eqb-true p.step n t in
    let most = two p.step ps rising.0 rising.1 parts.0 in
    let here = subst (λ m. length (at m ps) ≤ 2) same most in
    let one = one_more n p ps in
    omega arith)
    (λ t. rw t (few n ps rising.1 parts.1))

-- Points in order don't fall.
rises_back : (last : ℕ) (ps : List Injection) → From last ps → Rises step_of ps → falls_from last ps ≡ false
rises_back last [] from rising = refl
rises_back last (p ∷ ps) from rising =
    let above = from.0 in
    rw (le-ltb p.step last above) (rises_back p.step ps rising.0 rising.1)

from_0 : (ps : List Injection) → From 0 ps
from_0 [] = tt
from_0 (p ∷ ps) = (omega arith, from_0 ps)

pub in_order : (ps : List Injection) → falls_from 0 ps ≡ false → AreInOrder ps
in_order ps risen = (rises 0 ps risen).1

pub falls_not : (ps : List Injection) → AreInOrder ps → falls_from 0 ps ≡ false
falls_not ps rising = rises_back 0 ps (from_0 ps) rising

-- Few points of points in order are at one step, if none is at the step of the third after it.
pub few_at_once : (ps : List Injection) → AreInOrder ps → fourth_found ps ≡ false → (n : ℕ) → length (injected ps n) ≤ most_injected
few_at_once ps rising spread n =
    let most = few n ps rising spread in
    omega (arith, length-map (at n ps) (λ (p : Injection). p.handler))

-- If some point is at the step of the third after it, both that are between are too.
at_first : (n : ℕ) (p : Injection) (ps : List Injection) → p.step ≡ n → length (at n (p ∷ ps)) ≡ suc (length (at n ps))
at_first n p ps same = rw (eq-eqb p.step n same) refl

four : (p : Injection) (ps : List Injection) → From p.step ps → Rises step_of ps
    → is_at p.step (slice_get ps 2) ≡ true → 3 < length (at p.step (p ∷ ps))
four p [] from rising found = absurd (cc)
four p (a ∷ []) from rising found = absurd (cc)
four p (a ∷ b ∷ []) from rising found = absurd (cc)
four p (a ∷ b ∷ c ∷ ps) from rising found =
    let third : c.step ≡ p.step = eqb-true c.step p.step found in
    let first = from.0 in
    let second = rising.0.0 in
    let last = rising.1.0.0 in
    let here = at_first p.step p (a ∷ b ∷ c ∷ ps) refl in
    let one = at_first p.step a (b ∷ c ∷ ps) (omega arith) in
    let two = at_first p.step b (c ∷ ps) (omega arith) in
    let three = at_first p.step c ps third in
    omega arith

more : (n : ℕ) (p : Injection) (ps : List Injection) → length (at n ps) ≤ length (at n (p ∷ ps))
more n p ps = by_test (eqb p.step n) (λ t. rw t (omega arith)) (λ t. rw t (omega arith))

other_holds : (x y : Bool) → x || y ≡ true → x ≡ false → y ≡ true
other_holds false y h isnt = h
other_holds true y h isnt = absurd (cc)

pub crowded_at : (ps : List Injection) → AreInOrder ps → fourth_found ps ≡ true → IsCrowded ps
crowded_at [] rising found = absurd (cc)
crowded_at (p ∷ ps) rising found =
    by_test (is_at p.step (slice_get ps 2))
    (λ t.
    let count = four p ps rising.0 rising.1 t in
    record { step = p.step; many = omega (arith, length-map (at p.step (p ∷ ps)) (λ (q : Injection). q.handler)) })
    (λ t.
    let later : IsCrowded ps = crowded_at ps rising.1 (other_holds (is_at p.step (slice_get ps 2)) (fourth_found ps) found t) in
    let count = later.many in
    let grows = more later.step p ps in
    record {
      step = later.step;
      many =
          omega (
            arith,
            length-map (at later.step ps) (λ (q : Injection). q.handler),
            length-map (at later.step (p ∷ ps)) (λ (q : Injection). q.handler),
          );
    })

-- ---- a point is a plan

at_most : (n : ℕ) (ps : List Injection) → length (at n ps) ≤ length ps
at_most n [] = omega arith
at_most n (p ∷ ps) = let more = one_more n p ps in let rest = at_most n ps in omega arith

pub point_is_plan : (ps : List Injection) → IsPoint ps → IsPlan ps
point_is_plan ps h = record {
  in_order = h.in_order;
  few_at_once = λ n.
      let most = at_most n ps in let few = h.few in omega (arith, length-map (at n ps) (λ (p : Injection). p.handler));
}
