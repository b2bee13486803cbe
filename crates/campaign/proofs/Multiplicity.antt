-- Sums over lists with the same numbers in them.
use Rattle.std.specs.Prelude.{nat_lt}
use Rattle.std.proofs.Common.{◌≡◌, ◌≢◌, ◌≤◌, ◌<◌, ◌+◌, ℕ, zero, suc, Bool, true, false, cond, List, [], ◌∷◌, ◌++◌, length}
use Rattle.std.proofs.Common.{slice_index, sum, add-one, refl, sym, ap, ◌∙◌, arith, ⊎_elim}
use Rattle.std.proofs.lemmas.Bool.Decides.{nat_tests}
use Rattle.std.proofs.lemmas.List.Sums.{sum_by-cons}
use Rattle.deal.specs.Totals.{total, range, one_at, times, HasEachOnce}
use Rattle.deal.proofs.Once.{here, elsewhere, same_or, none_above, once_within}
use Rattle.deal.proofs.Sums.{total_append}

-- a list, and a place in it where a number is
record Split (x : ℕ) (ys : List ℕ) : Type 0 where
  front : List ℕ
  back : List ℕ
  whole : ys ≡ front ++ x ∷ back

found : (x : ℕ) (ys : List ℕ) → 0 < times x ys → Split x ys
found x [] h = absurd (omega arith)
found x (y ∷ ys) h = ⊎_elim
    (λ (e : y ≡ x). record { front = []; back = ys; whole = ap (λ (n : ℕ). n ∷ ys) e })
    (λ (d : y ≢ x).
    let rest = found x ys (omega (arith, h, elsewhere x y d)) in
    record { front = y ∷ rest.front; back = rest.back; whole = ap (λ (l : List ℕ). y ∷ l) rest.whole })
    (same_or y x)

-- no more of each number: no greater a sum
pub total_within : (xs ys : List ℕ) → ((x : ℕ) → times x xs ≤ times x ys) → (h : ℕ → ℕ) → total h xs ≤ total h ys
total_within [] ys within h = omega arith
total_within (x ∷ xs) ys within h =
    let at = found x ys (omega (arith, within x, here x x refl)) in
    let rest : (z : ℕ) → times z xs ≤ times z (at.front ++ at.back) = λ z. (
    let all = within z in
    let split : times z ys ≡ times z at.front + (one_at z x + times z at.back) =
    ap (times z) at.whole ∙ total_append (one_at z) at.front (x ∷ at.back) in
    omega (arith, all, split, total_append (one_at z) at.front at.back)) in
    let split : total h ys ≡ total h at.front + (h x + total h at.back) =
    ap (total h) at.whole ∙ total_append h at.front (x ∷ at.back) in
    omega (arith, total_within xs (at.front ++ at.back) rest h, split, total_append h at.front at.back)

-- the numbers below n are in their range
pub times_range : (n x : ℕ) → times x (range 0 n) ≡ cond (nat_lt x n) 1 0
times_range n x = go (nat_lt x n) refl
  where
    go : (b : Bool) → nat_lt x n ≡ b → times x (range 0 n) ≡ cond (nat_lt x n) 1 0
    go true e = let low : x < n = grind (arith, nat_tests, e) in rw e (once_within x 0 n (omega arith) (omega arith))
    go false e = let far : n ≤ x = grind (arith, nat_tests, e) in rw e (none_above x 0 n (omega arith))

-- each number below n once: the sum over their range
pub total_each : (n : ℕ) (xs : List ℕ) → HasEachOnce n xs → (h : ℕ → ℕ) → total h xs ≡ total h (range 0 n)
total_each n xs once h =
    let more = total_within xs (range 0 n) (λ x. let e = once x ∙ sym (times_range n x) in omega arith) h in
    let less = total_within (range 0 n) xs (λ x. let e = once x ∙ sym (times_range n x) in omega arith) h in
    omega arith

-- the sum over places
shifted : (f : ℕ → ℕ) (first n : ℕ) → total f (range (first + 1) n) ≡ total (λ i. f (suc i)) (range first n)
shifted f first zero = refl
shifted f first (suc n) = let next = ap f (add-one first) in let rest = shifted f (first + 1) n in omega arith

pub total_places : (xs : List ℕ) → total (λ i. slice_index xs i) (range 0 (length xs)) ≡ sum xs
total_places [] = refl
total_places (x ∷ xs) =
    let others = shifted (λ i. slice_index (x ∷ xs) i) 0 (length xs) in
    let rest = total_places xs in
    let first = sum_by-cons (λ (n : ℕ). n) x xs in
    omega arith
