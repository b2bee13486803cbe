-- The open loops of a task, as the code has them.
use Rattle.std.specs.Prelude.{◌≡◌, ℕ, zero, suc, ◌-◌, ◌≤◌, Bool, false, List, [], ◌∷◌, Option, Some, None, option_map, nat_le}
use Rattle.std.specs.Prelude.{if◌then◌else◌, length, replicate, set, slice_index_or}
use Rattle.model.specs.declared.loops.Loop.{Loop}

-- what is in a cell that holds no loop
abbrev pub no_loop : Loop
no_loop = record { start = 0; left = None }

-- the open loops that the first cells hold, the last of them the innermost
abbrev pub open_in : List Loop → ℕ → List Loop
open_in cells zero = []
open_in cells (suc nesting) = slice_index_or cells nesting no_loop ∷ open_in cells nesting

-- and back: cells that hold these loops, and nothing else
abbrev pub cells_of : List Loop → List Loop
cells_of [] = replicate 4 no_loop
cells_of (l ∷ ls) = set (cells_of ls) (length ls) l

-- four cells: so many of them hold an open loop, and the others nothing
pub record AreCells (cells : List Loop) (nesting : ℕ) : Type 0 where
  pub few : nesting ≤ 4
  pub full : length cells ≡ 4
  pub blank : (level : ℕ) → nesting ≤ level → slice_index_or cells level no_loop ≡ no_loop

-- The turns that are left, this one included, are over with it; an endless loop always has more.
abbrev pub is_last : Option ℕ → Bool
is_last None = false
is_last (Some left) = nat_le left 1

-- a loop whose turn is over, which was not the last
abbrev pub turned : Loop → Loop
turned l = record l { left = option_map (λ left. left - 1) l.left }

-- the open loops after a turn of the innermost
abbrev pub after_turn : List Loop → List Loop
after_turn [] = []
after_turn (l ∷ ls) = if is_last l.left then ls else turned l ∷ ls

-- the op at which the next turn begins, if there is one
abbrev pub next_turn : List Loop → Option ℕ
next_turn [] = None
next_turn (l ∷ ls) = if is_last l.left then None else Some l.start
