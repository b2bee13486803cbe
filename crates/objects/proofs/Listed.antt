-- Laws of the list of a function's first values.
use Rattle.std.proofs.Common.{◌≡◌, ◌≢◌, ℕ, zero, suc, ◌+◌, ◌-◌, ◌<◌, Some, List, [], ◌∷◌, ◌++◌, get_or, set, length, drop, ap, ap₂}
use Rattle.std.proofs.Common.{arith, refl}
use Rattle.std.specs.Prelude.{slice_get}
use Rattle.objects.specs.Rings.{listed}

pub length-listed : {X : Type 0} (f : ℕ → X) (n : ℕ) → length (listed f n) ≡ n
length-listed f zero = refl
length-listed f (suc n) = ap suc (length-listed (λ k. f (suc k)) n)

pub get_or-listed : {X : Type 0} (f : ℕ → X) (n k : ℕ) (d : X) → k < n → get_or (listed f n) k d ≡ f k
get_or-listed f zero k d h = absurd (omega (arith, h))
get_or-listed f (suc n) zero d h = refl
get_or-listed f (suc n) (suc k) d h = get_or-listed (λ k. f (suc k)) n k d (omega (arith, h))

pub listed-same : {X : Type 0} (f g : ℕ → X) (n : ℕ) → ((k : ℕ) → k < n → f k ≡ g k) → listed f n ≡ listed g n
listed-same f g zero e = refl
listed-same {X} f g (suc n) e =
    ap₂ (λ (x : X) (xs : List X). x ∷ xs) (e 0 (omega arith))
    (listed-same (λ k. f (suc k)) (λ k. g (suc k)) n (λ k h. e (suc k) (omega (arith, h))))

pub listed-more : {X : Type 0} (f : ℕ → X) (n : ℕ) → listed f (suc n) ≡ listed f n ++ f n ∷ []
listed-more f zero = refl
listed-more {X} f (suc n) = ap (λ (xs : List X). f 0 ∷ xs) (listed-more (λ k. f (suc k)) n)

pub listed-set : {X : Type 0} (f g : ℕ → X) (n q : ℕ) → q < n
    → ((k : ℕ) → k < n → k ≢ q → g k ≡ f k) → listed g n ≡ set (listed f n) q (g q)
listed-set f g zero q h e = absurd (omega (arith, h))
listed-set {X} f g (suc n) zero h e =
    ap (λ (xs : List X). g 0 ∷ xs)
    (listed-same (λ k. g (suc k)) (λ k. f (suc k)) n (λ k l. e (suc k) (omega (arith, l)) (λ i. absurd (omega (arith, i)))))
listed-set {X} f g (suc n) (suc q) h e =
    ap₂ (λ (x : X) (xs : List X). x ∷ xs) (e 0 (omega arith) (λ i. absurd (omega (arith, i))))
    (listed-set (λ k. f (suc k)) (λ k. g (suc k)) n q (omega (arith, h))
    (λ k l ne. e (suc k) (omega (arith, l)) (λ i. ne (omega (arith, i)))))

pub set-own : {X : Type 0} (xs : List X) (i : ℕ) (d : X) → set xs i (get_or xs i d) ≡ xs
set-own [] i d = refl
set-own (x ∷ xs) zero d = refl
set-own {X} (x ∷ xs) (suc i) d = ap (λ (ys : List X). x ∷ ys) (set-own xs i d)

pub listed-none : {X : Type 0} (f : ℕ → X) (n : ℕ) → n ≡ 0 → listed f n ≡ []
listed-none f zero e = refl
listed-none f (suc n) e = absurd (omega (arith, e))

pub listed-first : {X : Type 0} (f : ℕ → X) (n : ℕ) → 0 < n → slice_get (listed f n) 0 ≡ Some (f 0)
listed-first f zero h = absurd (omega (arith, h))
listed-first f (suc n) h = refl

pub listed-rest : {X : Type 0} (f : ℕ → X) (n : ℕ) → drop 1 (listed f n) ≡ listed (λ k. f (suc k)) (n - 1)
listed-rest f zero = refl
listed-rest f (suc n) = let e : n ≡ suc n - 1 = omega arith in ap (listed (λ k. f (suc k))) e

pub listed-add : {X : Type 0} (f : ℕ → X) (n : ℕ) → listed f (n + 1) ≡ listed f (suc n)
listed-add f n = let e : n + 1 ≡ suc n = omega arith in ap (listed f) e
