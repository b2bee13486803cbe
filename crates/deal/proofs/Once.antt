-- How often a number is in a list.
use Rattle.std.proofs.Common.{◌≡◌, ◌≢◌, ◌≤◌, ◌<◌, ℕ, zero, suc, ◌+◌, List, [], ◌∷◌, ◌++◌, refl, ap, arith, Bool, true, false}
use Rattle.std.proofs.Common.{nat_lt, ◌⊎◌, inl, inr, ⊎_elim}
use Rattle.std.proofs.lemmas.Bool.Decides.{nat_tests}
use Rattle.deal.specs.Totals.{range, one_at, times}
use Rattle.deal.specs.Marks.{IsAmong}
use Rattle.deal.proofs.Sums.{total_append}

pub here : (x y : ℕ) → y ≡ x → one_at x y ≡ 1
here x y e = grind (arith, nat_tests, e)

pub elsewhere : (x y : ℕ) → y ≢ x → one_at x y ≡ 0
elsewhere x y e = grind (arith, nat_tests, e)

pub times_one : (x : ℕ) → times x (x ∷ []) ≡ 1
times_one x = omega (arith, here x x refl)

pub same_or : (j k : ℕ) → (j ≡ k) ⊎ (j ≢ k)
same_or zero zero = inl refl
same_or zero (suc k) = inr (λ e. absurd (omega (arith, e)))
same_or (suc j) zero = inr (λ e. absurd (omega (arith, e)))
same_or (suc j) (suc k) = ⊎_elim (λ e. inl (ap suc e)) (λ n. inr (λ e. n (omega (arith, e)))) (same_or j k)

-- numbers that are too large are in no range
pub none_above : (x first m : ℕ) → first + m ≤ x → times x (range first m) ≡ 0
none_above x first zero far = refl
none_above x first (suc m) far =
    let apart : first ≢ x = omega (arith, far) in
    omega (arith, elsewhere x first apart, none_above x (first + 1) m (omega (arith, far)))

none_below : (x first m : ℕ) → x < first → times x (range first m) ≡ 0
none_below x first zero small = refl
none_below x first (suc m) small =
    let apart : first ≢ x = omega (arith, small) in
    omega (arith, elsewhere x first apart, none_below x (first + 1) m (omega (arith, small)))

-- a number of a range is there once
pub once_within : (x first m : ℕ) → first ≤ x → x < first + m → times x (range first m) ≡ 1
once_within x first zero low high = absurd (omega (arith, low, high))
once_within x first (suc m) low high =
    ⊎_elim
    (λ (same : first ≡ x). omega (arith, here x first same, none_below x (first + 1) m (omega (arith, same))))
    (λ (apart : first ≢ x).
    omega (arith, elsewhere x first apart, once_within x (first + 1) m (omega (arith, low, apart)) (omega (arith, high))))
    (same_or first x)

-- what is among the numbers below n is below n, and is there once at most
pub among_once : (n : ℕ) (xs : List ℕ) → IsAmong n xs → (x : ℕ) → times x xs ≤ 1
among_once n xs among x = go (nat_lt x n) refl
  where
    go : (b : Bool) → nat_lt x n ≡ b → times x xs ≤ 1
    go true e =
        let low : x < n = grind (arith, nat_tests, e) in
        omega (arith, among (one_at x), once_within x 0 n (omega arith) (omega (arith, low)))
    go false e =
        let far : n ≤ x = grind (arith, nat_tests, e) in
        omega (arith, among (one_at x), none_above x 0 n (omega (arith, far)))

pub among_below : (n : ℕ) (xs : List ℕ) → IsAmong n xs → (x : ℕ) → 0 < times x xs → x < n
among_below n xs among x there = go (nat_lt x n) refl
  where
    go : (b : Bool) → nat_lt x n ≡ b → x < n
    go true e = grind (arith, nat_tests, e)
    go false e =
        let far : n ≤ x = grind (arith, nat_tests, e) in
        absurd (omega (arith, there, among (one_at x), none_above x 0 n (omega (arith, far))))

-- the last of them is below n, and is nowhere before
pub last_below : (n : ℕ) (xs : List ℕ) (x : ℕ) → IsAmong n (xs ++ x ∷ []) → x < n
last_below n xs x among = among_below n (xs ++ x ∷ []) among x (omega (arith, total_append (one_at x) xs (x ∷ []), times_one x))

pub last_new : (n : ℕ) (xs : List ℕ) (x : ℕ) → IsAmong n (xs ++ x ∷ []) → times x xs ≡ 0
last_new n xs x among = omega (arith, among_once n (xs ++ x ∷ []) among x, total_append (one_at x) xs (x ∷ []), times_one x)
