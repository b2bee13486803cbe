-- What callers see of the items: the objects of the definitions, by number.
use Rattle.std.specs.Prelude.{◌≡◌, ℕ, ◌≤◌, List, length, slice_index_or}
use Rattle.model.specs.State.{Object, no_object}
use Rattle.objects.specs.Places.{object_places}

-- the object of this number
abbrev pub object_in : List Object → ℕ → Object
object_in objects queue = slice_index_or objects queue no_object

-- An object holds these items, and has room as before.
abbrev pub holding : Object → List ℕ → Object
holding o items = record o { items = items }

-- what is true of every storage: there is an object for each place, and each holds no more than it can
pub record IsSound (objects : List Object) : Type 0 where
  pub as_many : length objects ≡ object_places
  pub small : (queue : ℕ) → (object_in objects queue).size ≤ 256
  pub few : (queue : ℕ) → length (object_in objects queue).items ≤ (object_in objects queue).size
