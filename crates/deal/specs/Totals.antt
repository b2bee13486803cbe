-- Sums over lists, and how often a number is in one.
use Rattle.std.specs.Prelude.{Bool, true, false, ℕ, zero, suc, ◌+◌, ◌≡◌, List, [], ◌∷◌, ◌==◌, nat_lt, if◌then◌else◌}

-- f of each, added up
abbrev pub total : {V : Type 0} → (V → ℕ) → List V → ℕ
total f [] = 0
total f (v ∷ vs) = f v + total f vs

-- n numbers, from the first on
abbrev pub range : ℕ → ℕ → List ℕ
range first zero = []
range first (suc n) = first ∷ range (first + 1) n

-- the numbers below n, the greatest first
abbrev pub falling : ℕ → List ℕ
falling zero = []
falling (suc n) = n ∷ falling n

-- the numbers below n, rising or falling
abbrev pub in_turn : Bool → ℕ → List ℕ
in_turn true n = range 0 n
in_turn false n = falling n

-- 1 at x, and 0 elsewhere
abbrev pub one_at : ℕ → ℕ → ℕ
one_at x y = if y == x then 1 else 0

-- how often x is in a list
abbrev pub times : ℕ → List ℕ → ℕ
times x xs = total (one_at x) xs

-- each number below n is in the list once, and no other number does
abbrev pub HasEachOnce : ℕ → List ℕ → Type 0
HasEachOnce n xs = (x : ℕ) → times x xs ≡ (if nat_lt x n then 1 else 0)
