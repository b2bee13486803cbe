-- How a number of points is cut into blocks.
use Rattle.std.specs.Prelude.{◌≡◌, ◌≢◌, ℕ, zero, suc, ◌/◌, ◌%◌, ◌<◌, ◌^◌, List, [], ◌∷◌, ◌++◌, length, slice_index, sum, take}
use Rattle.std.specs.Prelude.{replicate}
use Rattle.deal.specs.declared.division.BadDivision.{BadDivision}
use Rattle.deal.specs.declared.division.BadDivision.TheVariants.{ZeroLength, WrongSum}

-- each length is at least 1
abbrev pub ArePositive : List ℕ → Type 0
ArePositive lengths = (i : ℕ) → i < length lengths → 0 < slice_index lengths i

-- each block has a point, and the number of points is one that the machine can count
abbrev pub IsDivision : List ℕ → Type 0
IsDivision lengths = ArePositive lengths × (sum lengths < 2 ^ 64)

-- Block i is the range after the first i lengths
abbrev pub IsBlock : List ℕ → ℕ → ℕ → ℕ → Type 0
IsBlock lengths i first len = (i < length lengths) × (first ≡ sum (take i lengths)) × (len ≡ slice_index lengths i)

-- The first length of 0 is named; if there is none, the sum is wrong
abbrev pub MatchBad : BadDivision → ℕ → List ℕ → Type 0
MatchBad (ZeroLength i) total lengths =
    (i < length lengths) × (slice_index lengths i ≡ 0) × ((k : ℕ) → k < i → 0 < slice_index lengths k)
MatchBad WrongSum total lengths = ArePositive lengths × (sum lengths ≢ total)

-- what is left over makes one block more
abbrev pub rest_block : ℕ → List ℕ
rest_block zero = []
rest_block (suc n) = suc n ∷ []

-- blocks of one length, as many as there are, and what is left over
abbrev pub even_lengths : ℕ → ℕ → List ℕ
even_lengths total block = replicate (total / block) block ++ rest_block (total % block)

-- the first point of each block
abbrev pub AreStarts : List ℕ → List ℕ → Type 0
AreStarts lengths starts =
    (length starts ≡ length lengths) × ((i : ℕ) → i < length lengths → slice_index starts i ≡ sum (take i lengths))
