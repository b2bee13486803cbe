-- Lists place by place.
use Rattle.std.proofs.Common.{◌≡◌, ◌≢◌, ◌≤◌, ◌<◌, ◌*◌, ◌^◌, ℕ, zero, suc, ◌+◌, max, List, [], ◌∷◌, length, set, refl, sym, arith}
use Rattle.std.proofs.Common.{slice_index, get_or-set_same, get_or-set_other}
use mathlib.Core.Option.{some}
use lib.ListN.{get_elem?}
use Rattle.deal.specs.Totals.{total}
use Rattle.deal.specs.Parts.{sums, greater}

pub total_bound : {V : Type 0} (f g : V → ℕ) → (vs : List V)
    → ((j : ℕ) (v : V) → get_elem? vs j ≡ some v → f v ≤ g v * 2 ^ 40) → total f vs ≤ total g vs * 2 ^ 40
total_bound f g [] h = omega arith
total_bound f g (x ∷ xs) h = omega (arith, h 0 x refl, total_bound f g xs (λ j v e. h (suc j) v e))

pub set_same : (xs : List ℕ) (i x : ℕ) → i < length xs → slice_index (set xs i x) i ≡ x
set_same xs i x h = get_or-set_same xs i x 0 h

pub set_other : (xs : List ℕ) (i k x : ℕ) → k ≢ i → slice_index (set xs i x) k ≡ slice_index xs k
set_other xs i k x h = get_or-set_other xs i k x 0 h

pub sums_at : (xs ys : List ℕ) (k : ℕ) → slice_index (sums xs ys) k ≡ slice_index xs k + slice_index ys k
sums_at [] ys k = omega arith
sums_at (x ∷ xs) [] k = omega arith
sums_at (x ∷ xs) (y ∷ ys) zero = refl
sums_at (x ∷ xs) (y ∷ ys) (suc k) = sums_at xs ys k

pub greater_at : (xs ys : List ℕ) (k : ℕ) → slice_index (greater xs ys) k ≡ max (slice_index xs k) (slice_index ys k)
greater_at [] ys k = omega arith
greater_at (x ∷ xs) [] k = omega arith
greater_at (x ∷ xs) (y ∷ ys) zero = refl
greater_at (x ∷ xs) (y ∷ ys) (suc k) = greater_at xs ys k

pub length-sums : (xs ys : List ℕ) → length xs ≡ length ys → length (sums xs ys) ≡ length xs
length-sums [] ys e = sym e
length-sums (x ∷ xs) [] e = refl
length-sums (x ∷ xs) (y ∷ ys) e = omega (arith, length-sums xs ys (omega (arith, e)))

pub length-greater : (xs ys : List ℕ) → length xs ≡ length ys → length (greater xs ys) ≡ length xs
length-greater [] ys e = sym e
length-greater (x ∷ xs) [] e = refl
length-greater (x ∷ xs) (y ∷ ys) e = omega (arith, length-greater xs ys (omega (arith, e)))
