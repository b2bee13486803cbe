-- Time passes: who wakes when, and how a task goes to sleep.
use Rattle.std.specs.Prelude.{ℕ, zero, suc, ◌+◌, ◌-◌, Bool, List, Option, Some, None, is_some, option_map, nat_eq, if◌then◌else◌}
use Rattle.std.specs.Prelude.{filter}
use Rattle.std.specs.Option.{option_eq}
use Rattle.model.specs.State.{State, Task, Asleep, ticket_of, wake_time_of, status_at, progress_at, take_ticket, with_progress}
use Rattle.model.specs.State.{for_each}
use Rattle.model.specs.Order.{Key, Entry, key, list_by, tasks_of}
use Rattle.model.specs.Switching.{is_ready, make_ready, holds_ticks}

-- ---- who is due

-- Who wakes by itself is in the delayed list, by its ticket alone.
abbrev pub delayed_key : Task → Option Key
delayed_key t = if is_some (wake_time_of t.status) then option_map (key 0) (ticket_of t.status) else None

-- those who sleep, or wait until a deadline, in the order in which they began; FreeRTOS orders its list by wake time
-- (`pxDelayedTaskList`, `pxOverflowDelayedTaskList`)
abbrev pub delayed_list : State → List Entry
delayed_list s = list_by delayed_key s.tasks

-- The task of an entry wakes now.
abbrev pub is_due : State → Entry → Bool
is_due s e = option_eq nat_eq (wake_time_of (status_at s e.task)) (Some s.time)

-- those who wake now, in the order in which they began
abbrev pub due : State → List Entry
due s = filter (is_due s) (delayed_list s)

-- All who are due are Ready, in the order in which they began.
unfoldable pub wake_due : State → State
wake_due s = for_each make_ready (tasks_of (due s)) s

-- ---- ticks

-- The time rises by one, and all who are due are Ready.
unfoldable pub advance : State → State
advance s = wake_due (record s { time = s.time + 1 })

-- One tick comes. Time advances; while a call or a `suspend_all` holds the scheduler, the tick is held instead
-- (`xTaskIncrementTick`).
unfoldable pub increment_tick : State → State
increment_tick s =
    let t : State = record s { elapsed = s.elapsed + 1 } in
    if holds_ticks s then record t { held_ticks = s.held_ticks + 1 } else advance t

-- This many ticks come at once, before the last of which nobody is due: idle slept through them (`vTaskStepTick`).
unfoldable pub jump : ℕ → State → State
jump ticks s = wake_due (record s { time = s.time + ticks; elapsed = s.elapsed + ticks })

-- A tick that was held is applied.
unfoldable pub apply_one : State → State
apply_one s = advance (record s { held_ticks = s.held_ticks - 1 })

-- This many are, one after another.
abbrev pub apply_held : ℕ → State → State
apply_held zero s = s
apply_held (suc n) s = apply_held n (apply_one s)

-- All are: who holds the scheduler has let go of it (in `xTaskResumeAll`). Who was woken meanwhile is Ready before those whom
-- these ticks wake.
abbrev pub release : State → State
release s = apply_held s.held_ticks s

-- ---- sleep

-- The task sleeps until this time, where it is still Ready (`prvAddCurrentTaskToDelayedList`).
unfoldable pub sleep : ℕ → ℕ → State → State
sleep task wake_time s = if is_ready s task then take_ticket task (Asleep wake_time) s else s

-- The task's `delay_until` counts from this time on.
unfoldable pub set_previous_wake : ℕ → ℕ → State → State
set_previous_wake task time s = with_progress task (record (progress_at s task) { previous_wake = time }) s
