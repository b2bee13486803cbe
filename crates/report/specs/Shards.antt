-- Shards of a campaign: its rows in parts, each of which can be made by itself.
use Rattle.std.specs.Prelude.{ℕ, zero, suc, ◌-◌, ◌*◌, ◌/◌, ◌≤◌, List, [], ◌∷◌, ◌++◌, length, map, slice_range, sum}
use Rattle.model.specs.declared.totals.Totals.{Totals}

-- the part of this number, from 1 on, of this many parts
pub record Shard : Type 0 where
  pub number : ℕ
  pub count : ℕ

-- of parts (profile)
abbrev pub most_shards : ℕ
most_shards = 1000000

-- There is such a part.
pub record IsShard (number count : ℕ) : Type 0 where
  pub some : 1 ≤ number
  pub within : number ≤ count
  pub few : count ≤ most_shards

-- all rows in one part
abbrev pub undivided : Shard
undivided = record { number = 1; count = 1 }

-- how many rows there are up to the end of the part of this number
abbrev pub cut_at : (count rows number : ℕ) → ℕ
cut_at count rows number = number * rows / count

-- how many rows come before a part; so this is the number of its first row
abbrev pub first_of : Shard → (rows : ℕ) → ℕ
first_of shard rows = cut_at shard.count rows (shard.number - 1)

-- the number of the first row after it
abbrev pub next_of : Shard → (rows : ℕ) → ℕ
next_of shard rows = cut_at shard.count rows shard.number

-- its rows, or its points
abbrev pub part_of : {X : Type 0} → Shard → List X → List X
part_of shard xs = slice_range xs (first_of shard (length xs)) (next_of shard (length xs))

-- ---- all parts

-- the first of them, this many, in order
abbrev pub first_shards : (count : ℕ) → ℕ → List Shard
first_shards count zero = []
first_shards count (suc n) = first_shards count n ++ record { number = suc n; count = count } ∷ []

abbrev pub shards : (count : ℕ) → List Shard
shards count = first_shards count count

-- totals that are added up
abbrev pub added : List Totals → Totals
added totals = record {
  rows = sum (map (λ (t : Totals). t.rows) totals);
  pass = sum (map (λ (t : Totals). t.pass) totals);
  check = sum (map (λ (t : Totals). t.check) totals);
  misuse = sum (map (λ (t : Totals). t.misuse) totals);
  ticks = sum (map (λ (t : Totals). t.ticks) totals);
  steps = sum (map (λ (t : Totals). t.steps) totals);
  stuck = sum (map (λ (t : Totals). t.stuck) totals);
  not_reached = sum (map (λ (t : Totals). t.not_reached) totals);
}
