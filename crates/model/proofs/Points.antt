-- Points are the same if a test of their places says so.
use Rattle.std.proofs.Common.{◌≡◌, ◌≤◌, ◌&&◌, ℕ, true, eqb, List, [], ◌∷◌, length, take, refl, ap₂, sym, ◌∙◌}
use lib.Pointwise.{pointwise}
use Rattle.std.proofs.lemmas.Bool.{and_parts}
use Rattle.model.specs.declared.plan.Injection.{Injection}
use Rattle.model.proofs.Lists.{eqb-same}
use Rattle.model.specs.Packing.{handlers_of, paired, steps_of}
use Rattle.model.proofs.Packing.{kept}

same_numbers : (xs ys : List ℕ) → pointwise eqb xs ys ≡ true → xs ≡ ys
same_numbers [] [] e = refl
same_numbers [] (y ∷ ys) e = absurd (cc)
same_numbers (x ∷ xs) [] e = absurd (cc)
same_numbers (x ∷ xs) (y ∷ ys) e =
    let parts = and_parts (eqb x y) (pointwise eqb xs ys) e in
    ap₂ (λ (z : ℕ) (zs : List ℕ). z ∷ zs) (eqb-same x y parts.0) (same_numbers xs ys parts.1)

pub same_point : (xs ys : List Injection) → length xs ≤ 3 → length ys ≤ 3
    → (pointwise eqb (steps_of xs) (steps_of ys) && pointwise eqb (handlers_of xs) (handlers_of ys)) && eqb (length xs) (length ys)
    ≡ true
    → xs ≡ ys
same_point xs ys few few' e =
    let parts =
    and_parts (pointwise eqb (steps_of xs) (steps_of ys) && pointwise eqb (handlers_of xs) (handlers_of ys))
    (eqb (length xs) (length ys)) e in
    let places = and_parts (pointwise eqb (steps_of xs) (steps_of ys)) (pointwise eqb (handlers_of xs) (handlers_of ys)) parts.0 in
    let steps = same_numbers (steps_of xs) (steps_of ys) places.0 in
    let handlers = same_numbers (handlers_of xs) (handlers_of ys) places.1 in
    sym (kept xs few)
    ∙ ap₂ (λ (n : ℕ) (is : List Injection). take n is) (eqb-same (length xs) (length ys) parts.1) (ap₂ paired steps handlers)
    ∙ kept ys few'
