-- Tasks that wait at an object: how a wait begins, and how a task is woken.
use Rattle.std.specs.Prelude.{ℕ, ◌+◌, ◌==◌, Bool, true, false, List, ◌++◌, Option, Some, None, nat_le, if◌then◌else◌, option_map}
use Rattle.std.specs.Prelude.{option_and_then, unwrap_or}
use Rattle.model.specs.declared.call.CallProgress.{CallProgress}
use Rattle.model.specs.declared.call.Phase.{Phase}
use Rattle.model.specs.declared.call.WaitList.{WaitList}
use Rattle.model.specs.declared.call.WaitList.TheVariants.{ToReceive, ToSend}
use Rattle.model.specs.State.{State, Task, Status, Waiting, Awake, Wait, wait_if_waiting, wait_if_awake, task_at, status_at}
use Rattle.model.specs.State.{take_ticket, with_status, call_at, with_call, for_one, for_each}
use Rattle.model.specs.Order.{Key, Entry, key, list_by, tasks_of, first, task_of}
use Rattle.model.specs.Switching.{make_ready, is_same}
use Rattle.model.specs.Time.{release}

-- ---- the lists of the waiting tasks

-- It is one and the same list.
abbrev pub same_list : WaitList → WaitList → Bool
same_list (ToReceive a) (ToReceive b) = a == b
same_list (ToSend a) (ToSend b) = a == b
same_list _ _ = false

-- In its own list a wait is placed by its priority, among equals by its ticket.
abbrev pub wait_key : WaitList → Wait → Option Key
wait_key list wait = if same_list wait.list list then Some (key wait.priority wait.ticket) else None

-- the tasks that wait in a list, the best waiter first
abbrev pub waiters : State → WaitList → List Entry
waiters s list = list_by (λ (t : Task). option_and_then (wait_key list) (wait_if_waiting t.status)) s.tasks

-- the tasks that waited in a list until the locked queue woke them
abbrev pub awakened : State → WaitList → List Entry
awakened s list = list_by (λ (t : Task). option_and_then (wait_key list) (wait_if_awake t.status)) s.tasks

-- ---- a wait begins

-- The task waits in the list, until the deadline of its call (`vTaskPlaceOnEventList`). A later change of its priority
-- does not move it (profile).
unfoldable pub wait_in : ℕ → WaitList → State → State
wait_in task list s =
    let call : CallProgress = call_at s task in
    let priority : ℕ = (task_at s task).priority in
    let status : ℕ → Status = λ ticket.
    Waiting (record { list = list; priority = priority; ticket = ticket; deadline = call.deadline }) in
    take_ticket task status (with_call task (record call { waits = true }) s)

-- The task's call may wait for this many ticks from now, or forever (`vTaskInternalSetTimeOutState`).
unfoldable pub set_deadline : ℕ → Option ℕ → State → State
set_deadline task ticks s =
    with_call task (record (call_at s task) { deadline = option_map (λ n. s.time + n) ticks }) s

-- The deadline of the task's call has come (`xTaskCheckForTimeOut`).
abbrev pub is_expired : State → ℕ → Bool
is_expired s task = unwrap_or (option_map (λ deadline. nat_le deadline s.time) (call_at s task).deadline) false

-- The task's call holds the scheduler no more, and goes on with this phase.
abbrev pub let_go : ℕ → Phase → State → State
let_go task phase s =
    with_call task (record (call_at s task) { phase = phase; waits = false }) (record s { call_hold = false })

-- That is done, and the ticks that came meanwhile are applied (`xTaskResumeAll`).
abbrev pub end_hold : ℕ → Phase → State → State
end_hold task phase s = release (let_go task phase s)

-- ---- a wait ends

-- a Waiting task's status once it is Awake
abbrev pub awake_status : Status → Status
awake_status (Waiting wait) = Awake wait
awake_status status = status

-- The task is Awake: it waits no more, and isn't Ready yet. FreeRTOS counts such wakes (`cTxLock`, `cRxLock`).
abbrev pub awaken : ℕ → State → State
awaken task s = with_status task (awake_status (status_at s task)) s

-- It is a list of the locked object.
abbrev pub is_locked : Option ℕ → WaitList → Bool
is_locked locked (ToReceive object) = is_same locked (Some object)
is_locked locked (ToSend object) = is_same locked (Some object)

-- A task that waits in the list is woken: it is Ready at once, or Awake if the list is the locked object's.
abbrev pub wake_one : ℕ → WaitList → State → State
wake_one task list s = if is_locked s.locked list then awaken task s else make_ready task s

-- The best waiter of the list is woken, if anyone waits there (`xTaskRemoveFromEventList`).
unfoldable pub wake_best : WaitList → State → State
wake_best list s = for_one (λ task. wake_one task list) (task_of (first (waiters s list))) s

-- The object is unlocked, and its Awake tasks are Ready: first those that waited to receive, then those that waited to
-- send.
abbrev pub unlock_object : ℕ → State → State
unlock_object object s =
    for_each make_ready (tasks_of (awakened s (ToReceive object)) ++ tasks_of (awakened s (ToSend object)))
    (record s { locked = None })

-- The locked object is unlocked (`prvUnlockQueue`).
unfoldable pub unlock : State → State
unlock s = for_one unlock_object s.locked s
