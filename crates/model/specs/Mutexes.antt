-- Mutexes, and priority inheritance: when the holder of a mutex takes another priority. All of it is profile.
use Rattle.std.specs.Prelude.{ℕ, ◌==◌, ◌&&◌, Bool, not, Some, None, max, nat_lt, if◌then◌else◌, length, filter, option_map}
use Rattle.std.specs.Prelude.{unwrap_or}
use Rattle.model.specs.declared.call.WaitList.{WaitList}
use Rattle.model.specs.declared.call.WaitList.TheVariants.{ToReceive}
use Rattle.model.specs.Application.{Application}
use Rattle.model.specs.State.{State, Object, task_at, with_task, call_at, with_call, object_at, with_object, for_one}
use Rattle.model.specs.Order.{Entry, first}
use Rattle.model.specs.Switching.{to_back, preempt, is_same}
use Rattle.model.specs.Waiting.{waiters, wake_best}
use Rattle.model.specs.Ops.{answer}

-- The task has this priority from now on; if that is a change it moves after its new equals, if it is Ready.
unfoldable pub set_priority : ℕ → ℕ → State → State
set_priority task priority s =
    let t = task_at s task in
    if t.priority == priority then s else to_back task (with_task task (record t { priority = priority }) s)

-- how many mutexes a task holds (`uxMutexesHeld`)
abbrev pub mutexes_held : State → ℕ → ℕ
mutexes_held s task = length (filter (λ (o : Object). is_same o.holder (Some task)) s.objects)

-- ---- a task waits

-- A wait of the task inherits if the holder is another task, of lower base priority.
abbrev pub inherits : ℕ → ℕ → State → Bool
inherits task holder s = not (holder == task) && nat_lt (task_at s holder).base_priority (task_at s task).priority

-- The task's call notes whether its wait inherits.
abbrev pub note_inherited : ℕ → ℕ → State → State
note_inherited task holder s = with_call task (record (call_at s task) { inherited = inherits task holder s }) s

-- The holder takes this priority, if its own is lower.
abbrev pub raise : ℕ → ℕ → State → State
raise holder priority s = if nat_lt (task_at s holder).priority priority then set_priority holder priority s else s

-- The task will wait for what this one holds, and lends it its priority.
abbrev pub inherit_from : ℕ → ℕ → State → State
inherit_from task holder s =
    let t = note_inherited task holder s in
    raise holder (task_at s task).priority t

-- If the object has a holder, that one inherits from the task, which will wait (`xTaskPriorityInherit`). A task for which
-- the holder waits does not.
unfoldable pub inherit : ℕ → ℕ → State → State
inherit task object s = for_one (inherit_from task) (object_at s object).holder s

-- ---- a wait was unsuccessful

-- the priority of the best waiter of a list; 0 if none waits (`prvGetDisinheritPriorityAfterTimeout`)
abbrev pub best_priority : State → WaitList → ℕ
best_priority s list = unwrap_or (option_map (λ (e : Entry). e.key.priority) (first (waiters s list))) 0

-- A holder of this mutex alone has its base priority again, or the best waiter's if that is greater.
abbrev pub fall_back : ℕ → ℕ → State → State
fall_back object holder s =
    if mutexes_held s holder == 1
    then set_priority holder (max (task_at s holder).base_priority (best_priority s (ToReceive object))) s
    else s

-- The task's call fails: if its last wait has inherited, the present holder of the mutex falls back
-- (`vTaskPriorityDisinheritAfterTimeout`).
unfoldable pub after_timeout : ℕ → ℕ → State → State
after_timeout task object s =
    if (call_at s task).inherited then for_one (fall_back object) (object_at s object).holder s else s

-- ---- a mutex is given back

-- A task that holds no mutex any more has its base priority again (`xTaskPriorityDisinherit`).
unfoldable pub disinherit : ℕ → State → State
disinherit task s = if mutexes_held s task == 0 then set_priority task (task_at s task).base_priority s else s

-- The holder gives the mutex back, and one task that waits for it is woken, whether it was the holder's last
-- or not.
unfoldable pub give_mutex : Application → ℕ → ℕ → State → State
give_mutex app task object s =
    let free = with_object object (record (object_at s object) { holder = None }) s in
    preempt (answer app task (Some 1) (wake_best (ToReceive object) (disinherit task free)))
