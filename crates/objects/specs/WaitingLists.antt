-- What callers see of the waiting lists: for each list its tasks in order, each with its priority.
use Rattle.std.specs.Prelude.{ℕ, ◌+◌, ◌-◌, ◌*◌, ◌≤◌, List, [], ◌∷◌, map, take, drop, slice_set}
use Rattle.model.specs.declared.call.WaitList.{WaitList}
use Rattle.model.specs.declared.call.WaitList.TheVariants.{ToReceive, ToSend}
use Rattle.lists.specs.Lists.{Each, IsSound, entries_of}
use Rattle.task_lists.specs.Tasks.{tasks_in}
use Rattle.objects.specs.Places.{list_places}

-- the number of a list: there are two for each object
abbrev pub number_of : WaitList → ℕ
number_of (ToReceive object) = 2 * object
number_of (ToSend object) = 2 * object + 1

-- the tasks of a list, each with its priority
abbrev pub waiting_in : List (List (ℕ × ℕ)) → WaitList → List (ℕ × ℕ)
waiting_in lists list = entries_of lists (number_of list)

-- the priority of the first; 0 if there is none
abbrev pub first_priority : List (ℕ × ℕ) → ℕ
first_priority [] = 0
first_priority (e ∷ entries) = e.1

-- this many of the best waiters of a list, in order, or all if there are fewer
abbrev pub best_of : WaitList → ℕ → List (List (ℕ × ℕ)) → List ℕ
best_of list count lists = take count (tasks_in (waiting_in lists list))

-- This many of the best waiters are taken out of a list.
abbrev pub without_best : WaitList → ℕ → List (List (ℕ × ℕ)) → List (List (ℕ × ℕ))
without_best list count lists = slice_set lists (number_of list) (drop count (waiting_in lists list))

-- This many are taken out of the two lists of an object: of the tasks that wait to receive, and of those that wait
-- to send.
abbrev pub without_woken : ℕ → ℕ → ℕ → List (List (ℕ × ℕ)) → List (List (ℕ × ℕ))
without_woken object receivers senders lists =
    without_best (ToSend object) senders (without_best (ToReceive object) receivers lists)

-- a task with its priority, of a list's entry whose value is 31 - priority; and back
abbrev pub mirror : ℕ × ℕ → ℕ × ℕ
mirror e = (e.0, 31 - e.1)

-- the lists with priorities in place of values
abbrev pub mirrored : List (List (ℕ × ℕ)) → List (List (ℕ × ℕ))
mirrored lists = map (map mirror) lists

-- what is true of the entries between two calls: each value is that of a priority
pub record AreWaitingLists (lists : List (List (ℕ × ℕ))) : Type 0 where
  pub sound : IsSound list_places 32 lists
  pub known : (list : ℕ) → Each (λ e. e.1 ≤ 31) (entries_of lists list)
