-- What callers see of the mutexes: who holds each object.
use Rattle.std.specs.Prelude.{◌≡◌, ℕ, ◌<◌, nat_lt, if◌then◌else◌, Option, Some, None, List, length, filter, slice_index_or}
use Rattle.model.specs.Switching.{is_same}
use Rattle.objects.specs.Places.{object_places}

-- the holder that a byte names, which is nobody from 32 on
abbrev pub named_by : ℕ → Option ℕ
named_by byte = if nat_lt byte 32 then Some byte else None

-- who holds the object of this number
abbrev pub holder_in : List (Option ℕ) → ℕ → Option ℕ
holder_in holders object = slice_index_or holders object None

-- how many of these objects a task holds
abbrev pub count_held : ℕ → List (Option ℕ) → ℕ
count_held task holders = length (filter (λ holder. is_same holder (Some task)) holders)

-- what is true between two calls: there is a holder or none for each place,
-- and of each of 32 tasks the count of those that it holds is kept
pub record AreMutexes (holders : List (Option ℕ)) (held : List ℕ) : Type 0 where
  pub as_many : length holders ≡ object_places
  pub for_all : length held ≡ 32
  pub counted : (task : ℕ) → task < 32 → slice_index_or held task 0 ≡ count_held task holders
