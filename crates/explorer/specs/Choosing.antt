-- Choices of handlers for one step.
use Rattle.std.specs.Prelude.{◌≡◌, ◌↔◌, ◌<◌, ℕ, Bool, true, false, List, [], Contains, length, slice_index_or}
use Rattle.model.specs.Placements.{AreDistinct, sequences}

-- These are the handlers that are among the others, each once.
pub record IsSetOf (handlers set : List ℕ) : Type 0 where
  pub once : AreDistinct set
  pub same : (handler : ℕ) → Contains set handler ↔ Contains handlers handler

-- The level of each number has all choices of that many of these handlers.
abbrev pub AreLevels : (handlers : List ℕ) → List (List (List ℕ)) → Type 0
AreLevels handlers levels = (count : ℕ) → count < length levels → slice_index_or levels count [] ≡ sequences handlers count

-- The handlers that are among these have a mark, and no others.
abbrev pub HasMarks : (handlers : List ℕ) → List Bool → Type 0
HasMarks handlers marks = (handler : ℕ) → (slice_index_or marks handler false ≡ true) ↔ Contains handlers handler
