-- Who runs: the ready list, the choice from it, and what switches.
use Rattle.std.specs.Prelude.{ℕ, ◌&&◌, ◌||◌, Bool, true, false, not, List, [], ◌∷◌, ◌++◌, Option, Some, None, is_some, option_map}
use Rattle.std.specs.Prelude.{nat_lt, nat_eq, if◌then◌else◌}
use Rattle.std.specs.List.{list_any}
use Rattle.std.specs.Option.{option_eq}
use Rattle.model.specs.declared.event.What.{What}
use Rattle.model.specs.declared.event.What.TheVariants.{Run}
use Rattle.model.specs.State.{State, Task, Ready, ticket_if_ready, task_at, status_at, take_ticket, for_one, printed}
use Rattle.model.specs.Order.{Key, Entry, key, list_by, first, task_of}

-- ---- the Ready tasks

-- A Ready task is in the ready list, by its priority, among equals by its ticket.
abbrev pub ready_key : Task → Option Key
ready_key t = option_map (key t.priority) (ticket_if_ready t.status)

-- the Ready tasks in order; FreeRTOS has a list for each priority (`pxReadyTasksLists`)
abbrev pub ready_list : State → List Entry
ready_list s = list_by ready_key s.tasks

-- The task is Ready.
abbrev pub is_ready : State → ℕ → Bool
is_ready s task = is_some (ticket_if_ready (status_at s task))

-- The task is Ready, after all others of its priority (`prvAddTaskToReadyList`).
abbrev pub make_ready : ℕ → State → State
make_ready task s = take_ticket task Ready s

-- The task moves after the others of its priority, if it is Ready.
unfoldable pub to_back : ℕ → State → State
to_back task s = if is_ready s task then make_ready task s else s

-- ---- the trace

-- An event is reported, with the step's number and the printed tick.
abbrev pub write : What → State → State
write w s = record s { log = s.log ++ record { step = s.steps; tick = printed s.time; what = w } ∷ [] }

-- ---- who runs

-- the choice: the Ready task of highest priority, among equals the one of least ticket; if none is Ready, idle
-- (profile: FreeRTOS's idle is a task of the lowest priority)
abbrev pub choice : State → Option ℕ
choice s = task_of (first (ready_list s))

-- Both are this task, or both none.
abbrev pub is_same : Option ℕ → Option ℕ → Bool
is_same a b = option_eq nat_eq a b

-- The processor goes to this task, or to idle.
unfoldable pub dispatch : Option ℕ → State → State
dispatch c s = if is_same c s.current then s else write (Run c) (record s { current = c })

-- The choice runs, and nobody takes a ticket (`vTaskSwitchContext`).
unfoldable pub choose : State → State
choose s = dispatch (choice s) s

-- The running task moves after the others of its priority, if it is Ready, and the choice runs (`taskYIELD`).
unfoldable pub yield_now : State → State
yield_now s = choose (for_one to_back s.current s)

-- A Ready task is above the running one: of strictly higher priority, or idle runs (profile).
abbrev pub is_above : State → Option ℕ → Entry → Bool
is_above s None e = true
is_above s (Some task) e = nat_lt (task_at s task).priority e.key.priority

-- A Ready task is another than the running one, and of its priority.
abbrev pub is_beside : State → Option ℕ → Entry → Bool
is_beside s None e = false
is_beside s (Some task) e =
    not (nat_eq e.task task) && nat_eq e.key.priority (task_at s task).priority

-- Some Ready task is above the running one.
abbrev pub is_outranked : State → Bool
is_outranked s = list_any (is_above s s.current) (ready_list s)

-- Another Ready task has the running one's priority.
abbrev pub is_sharing : State → Bool
is_sharing s = list_any (is_beside s s.current) (ready_list s)

-- If a Ready task is above the running one, the running one yields. Equals don't preempt (profile).
unfoldable pub preempt : State → State
preempt s = if is_outranked s then yield_now s else s

-- The same, and also if another Ready task has the running one's priority: the end of a tick
-- (`configUSE_TIME_SLICING`).
unfoldable pub slice : State → State
slice s = if is_outranked s || is_sharing s then yield_now s else s

-- A task runs that isn't Ready.
abbrev pub is_off : State → Option ℕ → Bool
is_off s None = false
is_off s (Some task) = not (is_ready s task)

-- A step that leaves the running task not Ready ends with the choice.
unfoldable pub settle : State → State
settle s = if is_off s s.current then choose s else s

-- ---- the scheduler held

-- A `suspend_all` is active.
abbrev pub is_scheduler_suspended : State → Bool
is_scheduler_suspended s = nat_lt 0 s.suspensions

-- A call holds the scheduler, or a `suspend_all` does (`uxSchedulerSuspended` above 0).
abbrev pub holds_ticks : State → Bool
holds_ticks s = s.call_hold || is_scheduler_suspended s

-- A critical section is open (`uxCriticalNesting` above 0).
abbrev pub is_critical : State → Bool
is_critical s = nat_lt 0 s.sections

-- A task holds the scheduler, by a `suspend_all` or by a critical section.
abbrev pub is_held_by_task : State → Bool
is_held_by_task s = is_scheduler_suspended s || is_critical s

-- The scheduler is held, by a call or by a task.
abbrev pub is_held : State → Bool
is_held s = holds_ticks s || is_critical s

-- While the scheduler is held nothing switches (`vTaskSwitchContext` sets `xYieldPending` then).
abbrev pub unless_held : (State → State) → State → State
unless_held deed s = if is_held s then s else deed s
