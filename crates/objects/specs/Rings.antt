-- How one pool holds the items of all queues, each in a region of its own, around which they go.
use Rattle.std.specs.Prelude.{◌≡◌, ℕ, zero, suc, ◌+◌, ◌-◌, ◌<◌, ◌≤◌, nat_lt, if◌then◌else◌, List, [], ◌∷◌, ◌++◌, get_or, length}
use Rattle.model.specs.State.{Object, no_object}
use Rattle.objects.specs.Places.{item_places, last_place, object_places}

-- the first n values of f
abbrev pub listed : {X : Type 0} → (ℕ → X) → ℕ → List X
listed f zero = []
listed f (suc n) = f 0 ∷ listed (λ k. f (suc k)) n

-- The arrays of the storage. A queue's region of the pool begins at its base, and has its length; its first item
-- is `head` places after the base, and the others follow it around the region
pub record Fields : Type 0 where
  pub pool : List ℕ
  pub bases : List ℕ
  pub lengths : List ℕ
  pub heads : List ℕ
  pub counts : List ℕ

abbrev pub base_of : Fields → ℕ → ℕ
base_of a q = get_or a.bases q 0

abbrev pub size_of : Fields → ℕ → ℕ
size_of a q = get_or a.lengths q 0

abbrev pub head_of : Fields → ℕ → ℕ
head_of a q = get_or a.heads q 0

abbrev pub count_of : Fields → ℕ → ℕ
count_of a q = get_or a.counts q 0

-- a place in a region, counted on around it
abbrev pub wrap : ℕ → ℕ → ℕ
wrap size at = if nat_lt at size then at else at - size

-- the place of item k of a queue in the pool
abbrev pub place : Fields → ℕ → ℕ → ℕ
place a q k = base_of a q + wrap (size_of a q) (head_of a q + k)

-- the items of a queue
abbrev pub ring : Fields → ℕ → List ℕ
ring a q = listed (λ k. get_or a.pool (place a q k) 0) (count_of a q)

-- the queue as an object of the definitions
abbrev pub object_of : Fields → ℕ → Object
object_of a q = record no_object { size = size_of a q; items = ring a q }

unfoldable pub objects_of : Fields → List Object
objects_of a = listed (object_of a) object_places

-- what is true of the arrays between two calls
pub record IsItems (a : Fields) : Type 0 where
  pub pool_length : length a.pool ≡ item_places
  pub bases_length : length a.bases ≡ object_places
  pub lengths_length : length a.lengths ≡ object_places
  pub heads_length : length a.heads ≡ object_places
  pub counts_length : length a.counts ≡ object_places
  pub small : (q : ℕ) → q < object_places → size_of a q ≤ 256
  pub fits : (q : ℕ) → q < object_places → base_of a q + size_of a q ≤ item_places
  pub apart : (q r : ℕ) → q < r → r < object_places → base_of a q + size_of a q ≤ base_of a r
  pub started : (q : ℕ) → q < object_places → 0 < size_of a q → head_of a q < size_of a q
  pub few : (q : ℕ) → q < object_places → count_of a q ≤ size_of a q

-- the same arrays, with another pool
abbrev pub with_pool : List ℕ → Fields → Fields
with_pool pool a = record { pool = pool; bases = a.bases; lengths = a.lengths; heads = a.heads; counts = a.counts }

-- The pool ends with the last region: with what comes after it there, these are the arrays of a storage.
pub record IsFront (a : Fields) : Type 0 where
  pub back : List ℕ
  pub storage : IsItems (with_pool (a.pool ++ back) a)
  pub front : length a.pool ≡ base_of a last_place + size_of a last_place
