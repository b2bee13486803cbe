-- Several numbers as one.
use Rattle.std.specs.Prelude.{◌≡◌, ℕ, ◌+◌, ◌*◌, ◌<◌, ◌≤◌, List, get_or}

-- four numbers of 16 bits
abbrev pub word_of : ℕ → ℕ → ℕ → ℕ → ℕ
word_of a b c d = a + 65536 * (b + 65536 * (c + 65536 * d))

-- two lists have the same numbers at each place below one
abbrev pub AreSameBelow : List ℕ → List ℕ → ℕ → Type 0
AreSameBelow xs ys count = (k : ℕ) → k < count → get_or xs k 0 ≡ get_or ys k 0

-- at each place from one on, below another, is 0
abbrev pub AreZeroBetween : List ℕ → ℕ → ℕ → Type 0
AreZeroBetween xs from end = (k : ℕ) → from ≤ k → k < end → get_or xs k 0 ≡ 0
