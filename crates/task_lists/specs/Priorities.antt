-- Lists of the definitions as lists of tasks, which have no tickets.
use Rattle.std.specs.Prelude.{ℕ, List, map}
use Rattle.model.specs.Order.{Entry}

-- the tasks of a list with their priorities
abbrev pub with_priorities : List Entry → List (ℕ × ℕ)
with_priorities es = map (λ (e : Entry). (e.task, e.key.priority)) es
