-- What lists of tasks have in common: each task with what orders it there, and tasks without it.
use Rattle.std.specs.Prelude.{ℕ, ◌==◌, Bool, not, nat_lt, if◌then◌else◌, List, [], ◌∷◌, filter, map}
use Rattle.std.specs.List.{list_any}

-- the tasks of a list, without what comes with them
abbrev pub tasks_in : List (ℕ × ℕ) → List ℕ
tasks_in entries = map (λ (e : ℕ × ℕ). e.0) entries

-- a task with its priority put after all that are not of lower priority (`vListInsert`, `prvAddTaskToReadyList`)
abbrev pub insert_by_priority : ℕ × ℕ → List (ℕ × ℕ) → List (ℕ × ℕ)
insert_by_priority e [] = e ∷ []
insert_by_priority e (f ∷ fs) = if nat_lt f.1 e.1 then e ∷ f ∷ fs else f ∷ insert_by_priority e fs

-- whether a task is among these
abbrev pub is_among : ℕ → List ℕ → Bool
is_among task tasks = list_any (λ other. other == task) tasks

-- these tasks without this one
abbrev pub without_task : ℕ → List ℕ → List ℕ
without_task task tasks = filter (λ other. not (other == task)) tasks
