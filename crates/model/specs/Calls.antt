-- Calls on objects: one that waits, phase by phase; and one that does not.
use Rattle.std.specs.Prelude.{ℕ, ◌||◌, Option, Some, true, if◌then◌else◌}
use Rattle.model.specs.declared.call.Phase.{Phase}
use Rattle.model.specs.declared.call.Phase.TheVariants.{Start, Try, Decide, Place, Unlock, Leave}
use Rattle.model.specs.declared.op.Access.{Access}
use Rattle.model.specs.Application.{Application}
use Rattle.model.specs.State.{State, call_at, go_on}
use Rattle.model.specs.Switching.{choose, preempt}
use Rattle.model.specs.Waiting.{wait_in, set_deadline, is_expired, end_hold, unlock}
use Rattle.model.specs.Ops.{answer}
use Rattle.model.specs.Objects.{possible, answer_to, fulfil, attempt, list_for}
use Rattle.model.specs.Mutexes.{inherit, after_timeout}

-- A possible call is done. One whose deadline has come fails, and nothing switches. Any other decides next.
unfoldable pub try : Application → ℕ → ℕ → Access ℕ → State → State
try app task object access s =
    if possible s object access then preempt (answer app task (answer_to s object access) (fulfil (Some task) object access s))
    else if is_expired s task then answer app task (answer_to s object access) (after_timeout task object s)
    else go_on task Decide s

-- The scheduler is held and the object locked (`vTaskSuspendAll`, `prvLockQueue`); the task's call goes on with this
-- phase.
abbrev pub lock : ℕ → ℕ → Phase → State → State
lock task object phase s = go_on task phase (record s { call_hold = true; locked = Some object })

-- The object is locked, and the task waits, unless its call is possible by now or its deadline has come
-- (`prvIsQueueEmpty`, `prvIsQueueFull`, `xTaskCheckForTimeOut`).
unfoldable pub decide : ℕ → ℕ → Access ℕ → State → State
decide task object access s =
    if possible s object access || is_expired s task
    then lock task object Unlock s
    else lock task object Place (wait_in task (list_for object access) (inherit task object s))

-- The hold ends (`xTaskResumeAll`, `portYIELD_WITHIN_API`): after a wait has begun the choice runs, and a caller that
-- was woken in the meantime keeps its ticket; otherwise a higher task may run. The call will try again.
unfoldable pub leave_call : ℕ → State → State
leave_call task s =
    let free = end_hold task Try s in
    if (call_at s task).waits then choose free else preempt free

-- The phases of a call that may wait for this many ticks (`xQueueReceive` and the like). Its deadline is fixed at the first
-- try; at Place the code puts the task into its list (`vTaskPlaceOnEventList`), and nothing changes here.
abbrev pub await : Application → ℕ → ℕ → Access ℕ → Option ℕ → Phase → State → State
await app task object access ticks Start s = try app task object access (set_deadline task ticks s)
await app task object access ticks Try s = try app task object access s
await app task object access ticks Decide s = decide task object access s
await app task object access ticks Place s = go_on task Unlock s
await app task object access ticks Unlock s = go_on task Leave (unlock s)
await app task object access ticks _ s = leave_call task s

-- A call that does not wait is done if it is possible, and returns.
unfoldable pub do_now : Application → ℕ → ℕ → Access ℕ → State → State
do_now app task object access s = preempt (answer app task (answer_to s object access) (attempt (Some task) object access s))
