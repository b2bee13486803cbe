-- What callers see of the semaphores: their counts.
use Rattle.std.specs.Prelude.{◌≡◌, ℕ, ◌<◌, List, length, slice_index_or}
use Rattle.objects.specs.Places.{object_places}

-- the greatest count of each object, and its count
pub record Counts : Type 0 where
  pub max_counts : List ℕ
  pub counts : List ℕ

-- the greatest count of the object of this number
abbrev pub max_count_in : Counts → ℕ → ℕ
max_count_in c object = slice_index_or c.max_counts object 0

-- the count of the object of this number
abbrev pub count_in : Counts → ℕ → ℕ
count_in c object = slice_index_or c.counts object 0

-- what is true between two calls: there is one of each for each place, and no count needs more than 16 bits
pub record AreSemaphores (c : Counts) : Type 0 where
  pub as_many_most : length c.max_counts ≡ object_places
  pub as_many : length c.counts ≡ object_places
  pub small : (object : ℕ) → max_count_in c object < 65536
