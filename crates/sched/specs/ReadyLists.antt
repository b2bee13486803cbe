-- How lists of tasks, one for each priority (`pxReadyTasksLists`), spell the Ready tasks in order.
use Rattle.std.specs.Prelude.{◌≡◌, ◌≢◌, ℕ, suc, ◌<◌, nat_lt, Bool, true, false, List, [], ◌∷◌, ◌++◌, Option, Some, None}
use Rattle.std.specs.Int.{bit_at}
use Rattle.lists.specs.Lists.{Each, IsSound, entries_of, has_node}
use Rattle.sched.specs.Schedule.{Schedule, priority_in}
use Rattle.task_lists.specs.Tasks.{is_among}

-- the tasks of all lists, those of the last list first
abbrev pub ready_list_of : List (List (ℕ × ℕ)) → List (ℕ × ℕ)
ready_list_of [] = []
ready_list_of (entries ∷ lists) = ready_list_of lists ++ entries

-- the highest list that is not empty, if there is one
abbrev pub IsHighest : List (List (ℕ × ℕ)) → Option ℕ → Type 0
IsHighest lists None = (p : ℕ) → entries_of lists p ≡ []
IsHighest lists (Some list) = (list < 32) × (entries_of lists list ≢ []) × ((p : ℕ) → list < p → entries_of lists p ≡ [])

-- whether a list is below this one, if there is one
abbrev pub is_below : ℕ → Option ℕ → Bool
is_below list None = false
is_below list (Some top) = nat_lt list top

-- the bit of a list: 1 if it is not empty
abbrev pub bit_of : List (ℕ × ℕ) → ℕ
bit_of [] = 0
bit_of (e ∷ entries) = 1

-- lists, and a word with a bit for each (`uxTopReadyPriority`)
pub record AreReadyLists (lists : List (List (ℕ × ℕ))) (occupied : ℕ) : Type 0 where
  pub sound : IsSound 32 32 lists
  pub bits : (list : ℕ) → list < 32 → bit_at occupied list ≡ bit_of (entries_of lists list)

-- each value is the number of its list, if the first list is that of `priority`
abbrev pub AtHome : ℕ → List (List (ℕ × ℕ)) → Type 0
AtHome priority [] = Unit {0}
AtHome priority (entries ∷ lists) = Each (λ e. e.1 ≡ priority) entries × AtHome (suc priority) lists

-- lists of tasks by their priorities
pub record AreByPriority (lists : List (List (ℕ × ℕ))) (priorities : List ℕ) : Type 0 where
  pub sound : IsSound 32 32 lists
  pub at_home : AtHome 0 lists
  pub known : (task : ℕ) → priority_in priorities task < 32

-- what is true of a scheduler between two calls: no pending task is in a ready list, and no task is pending while it
-- isn't held
pub record IsSched (lists : List (List (ℕ × ℕ))) (pending priorities base_priorities : List ℕ) (depth : ℕ) : Type 0 where
  pub lists_are : AreByPriority lists priorities
  pub base_known : (task : ℕ) → priority_in base_priorities task < 32
  pub apart : (task : ℕ) → is_among task pending ≡ true → has_node task (ready_list_of lists) ≡ false
  pub calm : depth ≡ 0 → pending ≡ []

abbrev pub schedule_of : List (List (ℕ × ℕ)) → List ℕ → Option ℕ → List ℕ → List ℕ → ℕ → ℕ → List Bool → Schedule
schedule_of lists pending current priorities base_priorities depth suspensions suspended = record {
  ready = ready_list_of lists;
  pending = pending;
  current = current;
  priorities = priorities;
  base_priorities = base_priorities;
  depth = depth;
  suspensions = suspensions;
  suspended = suspended;
}
