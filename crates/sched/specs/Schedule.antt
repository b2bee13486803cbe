-- What callers see of the scheduler, and what each call makes of it: the definitions' words for who runs, without tickets.
use Rattle.std.specs.Prelude.{◌≡◌, ℕ, ◌+◌, ◌-◌, ◌==◌, ◌&&◌, ◌||◌, Bool, true, false, not, nat_lt, if◌then◌else◌, List, [], ◌∷◌}
use Rattle.std.specs.Prelude.{◌++◌, Option, Some, None, slice_index_or, slice_set, fold}
use Rattle.std.specs.List.{list_any}
use Rattle.lists.specs.Lists.{first_of, has_node, without}
use Rattle.task_lists.specs.Tasks.{insert_by_priority, without_task}

pub record Schedule : Type 0 where
  -- the tasks in the ready lists, each with its priority and before those that it would run before
  pub ready : List (ℕ × ℕ)
  -- the tasks woken while the scheduler is held, in the order of their waking (`xPendingReadyList`)
  pub pending : List ℕ
  -- the running task, or idle
  pub current : Option ℕ
  -- the priority of each task now, which may be inherited (`uxPriority`)
  pub priorities : List ℕ
  -- the priority that the file gives each task (`uxBasePriority`)
  pub base_priorities : List ℕ
  -- how often the scheduler is held, by calls, by `suspend_all` and by critical sections together
  pub depth : ℕ
  -- how many `suspend_all` are active and critical sections open, each of them a hold of its own
  pub suspensions : ℕ
  -- of each task whether it is suspended (`xSuspendedTaskList`)
  pub suspended : List Bool

-- the priority of this task
abbrev pub priority_in : List ℕ → ℕ → ℕ
priority_in priorities task = slice_index_or priorities task 0

-- The task is suspended.
abbrev pub is_suspended : Schedule → ℕ → Bool
is_suspended s task = slice_index_or s.suspended task false

-- these tasks put one by one after the others of their priority
abbrev pub line_up : List ℕ → List ℕ → List (ℕ × ℕ) → List (ℕ × ℕ)
line_up tasks priorities ready = fold (λ entries task. insert_by_priority (task, priority_in priorities task) entries) ready tasks

-- the Ready tasks in order, once the pending ones are put one by one after the others of their priority
abbrev pub lined_up : Schedule → List (ℕ × ℕ)
lined_up s = line_up s.pending s.priorities s.ready

-- The task is Ready.
abbrev pub is_ready : Schedule → ℕ → Bool
is_ready s task = has_node task (lined_up s)

-- No task is pending while the scheduler isn't held.
abbrev pub IsCalm : Schedule → Type 0
IsCalm s = s.depth ≡ 0 → s.pending ≡ []

-- The task, which isn't Ready, becomes so, after the others of its priority.
abbrev pub make_ready : ℕ → Schedule → Schedule
make_ready task s = record s { ready = insert_by_priority (task, priority_in s.priorities task) s.ready }

-- The task, which isn't Ready, becomes so, and goes to its ready list when the last hold ends.
abbrev pub pend_ready : ℕ → Schedule → Schedule
pend_ready task s = record s { pending = s.pending ++ task ∷ [] }

-- The task, which isn't Ready, is woken: it becomes so, in its ready list, or pending if the scheduler is held.
abbrev pub wake : ℕ → Schedule → Schedule
wake task s = if s.depth == 0 then make_ready task s else pend_ready task s

-- The task is Ready no more.
abbrev pub block : ℕ → Schedule → Schedule
block task s = record s { ready = without task s.ready; pending = without_task task s.pending }

-- The task is Ready no more, and it is suspended (`vTaskSuspend`).
abbrev pub suspend : ℕ → Schedule → Schedule
suspend task s = record (block task s) { suspended = slice_set s.suspended task true }

-- The task is suspended no more, and not yet Ready.
abbrev pub unsuspend : ℕ → Schedule → Schedule
unsuspend task s = record s { suspended = slice_set s.suspended task false }

-- A suspended task is so no more, and is woken (`vTaskResume`).
abbrev pub resume : ℕ → Schedule → Schedule
resume task s = if is_suspended s task then wake task (unsuspend task s) else s

-- A call holds the scheduler once more (`vTaskSuspendAll`).
abbrev pub hold : Schedule → Schedule
hold s = record s { depth = s.depth + 1 }

-- One more `suspend_all` is active (`vTaskSuspendAll`).
abbrev pub suspend_all : Schedule → Schedule
suspend_all s = record s { depth = s.depth + 1; suspensions = s.suspensions + 1 }

-- Every pending task goes to its ready list, in turn.
abbrev pub line_up_pending : Schedule → Schedule
line_up_pending s = record s { ready = lined_up s; pending = [] }

-- A call's hold is taken back, and with the last hold every pending task goes to its ready list (`xTaskResumeAll`).
abbrev pub unhold : Schedule → Schedule
unhold s = record (if s.depth == 1 then line_up_pending s else s) { depth = s.depth - 1 }

-- One `suspend_all` fewer is active, and its hold is taken back (`xTaskResumeAll`).
abbrev pub resume_all : Schedule → Schedule
resume_all s = record (unhold s) { suspensions = s.suspensions - 1 }

-- The task moves after the others of its priority, if it is in a ready list.
abbrev pub to_back : ℕ → Schedule → Schedule
to_back task s = if has_node task s.ready then make_ready task (record s { ready = without task s.ready }) else s

-- The task has this priority from now on; if that is a change it moves after its new equals, if it is in a ready list.
abbrev pub set_priority : ℕ → ℕ → Schedule → Schedule
set_priority task priority s =
    if priority_in s.priorities task == priority then s
    else to_back task (record s { priorities = slice_set s.priorities task priority })

-- A deed is done with this task, if there is one.
abbrev pub for_one : (ℕ → Schedule → Schedule) → Option ℕ → Schedule → Schedule
for_one deed None s = s
for_one deed (Some task) s = deed task s

-- The choice runs: the first in the ready lists, or idle (`vTaskSwitchContext`).
abbrev pub choose : Schedule → Schedule
choose s = record s { current = first_of s.ready }

-- The running task moves after the others of its priority, if it is in a ready list, and the choice runs (`taskYIELD`).
abbrev pub yield_now : Schedule → Schedule
yield_now s = choose (for_one to_back s.current s)

-- A task in a ready list is above the running one: of strictly higher priority, or idle runs (profile).
abbrev pub is_above : List ℕ → Option ℕ → ℕ × ℕ → Bool
is_above priorities None e = true
is_above priorities (Some task) e = nat_lt (priority_in priorities task) e.1

-- A task in a ready list is another than the running one, and of its priority.
abbrev pub is_beside : List ℕ → Option ℕ → ℕ × ℕ → Bool
is_beside priorities None e = false
is_beside priorities (Some task) e = not (e.0 == task) && e.1 == priority_in priorities task

-- Some task in a ready list is above the running one.
abbrev pub is_outranked : Schedule → Bool
is_outranked s = list_any (is_above s.priorities s.current) s.ready

-- Another task in a ready list has the running one's priority.
abbrev pub is_sharing : Schedule → Bool
is_sharing s = list_any (is_beside s.priorities s.current) s.ready

-- If a task in a ready list is above the running one, the running one yields.
abbrev pub preempt : Schedule → Schedule
preempt s = if is_outranked s then yield_now s else s

-- The same, and also if another task in a ready list has the running one's priority (`configUSE_TIME_SLICING`).
abbrev pub slice : Schedule → Schedule
slice s = if is_outranked s || is_sharing s then yield_now s else s

-- The end of a tick switches nothing.
abbrev pub is_steady : Schedule → Bool
is_steady s = not (is_outranked s || is_sharing s)
