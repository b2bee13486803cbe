-- Task notifications: each task has a notification value, and a notification is pending or not.
use Rattle.std.specs.Prelude.{ℕ, ◌+◌, ◌-◌, ◌%◌, ◌||◌, Bool, true, false, not, List, Option, Some, None, nat_lt, nat_eq}
use Rattle.std.specs.Prelude.{bit_or, option_map, unwrap_or, if◌then◌else◌}
use Rattle.std.specs.Option.{option_eq}
use Rattle.model.specs.declared.call.Phase.{Phase}
use Rattle.model.specs.declared.call.Phase.TheVariants.{Start, Try, Leave}
use Rattle.model.specs.declared.notification.Notification.{Notification}
use Rattle.model.specs.declared.notification.NotifyAction.{NotifyAction}
use Rattle.model.specs.declared.notification.NotifyAction.TheVariants.{Nothing, SetBits, Increment, Overwrite, Keep}
use Rattle.model.specs.declared.notification.NotificationWait.{NotificationWait}
use Rattle.model.specs.declared.notification.NotificationWait.TheVariants.{Take, Wait}
use Rattle.model.specs.declared.notification.NotificationClear.{NotificationClear}
use Rattle.model.specs.declared.notification.NotificationClear.TheVariants.{Pending, Bits}
use Rattle.model.specs.declared.value.Value.{Value}
use Rattle.model.specs.Application.{Application}
use Rattle.model.specs.State.{State, WaitingForNotification, waits_for_notification, status_at, notification_at, with_notification}
use Rattle.model.specs.State.{take_ticket, call_at, go_on}
use Rattle.model.specs.Switching.{make_ready, choose, preempt}
use Rattle.model.specs.Values.{is_missing, number_of}
use Rattle.model.specs.Waiting.{set_deadline, end_hold}
use Rattle.model.specs.Ops.{answer, one_if}
use Rattle.model.specs.Groups.{bits_without}

-- ---- what a notify puts there

-- the value that it puts there, if it puts one
abbrev pub notify_value : {Item : Type 0} → NotifyAction Item → Option Item
notify_value (SetBits value) = Some value
notify_value (Overwrite value) = Some value
notify_value (Keep value) = Some value
notify_value _ = None

-- It would put the last answer there, and that is `none`.
abbrev pub lacks_notify_value : (answer : Option ℕ) → NotifyAction Value → Bool
lacks_notify_value answer action = unwrap_or (option_map (is_missing answer) (notify_value action)) false

-- the same with its value as a number
abbrev pub notify_with_number : (variables : List ℕ) → (answer : Option ℕ) → NotifyAction Value → NotifyAction ℕ
notify_with_number variables answer Nothing = Nothing
notify_with_number variables answer (SetBits value) = SetBits (number_of variables answer value)
notify_with_number variables answer Increment = Increment
notify_with_number variables answer (Overwrite value) = Overwrite (number_of variables answer value)
notify_with_number variables answer (Keep value) = Keep (number_of variables answer value)

-- ---- notify

-- what it makes of the notification value (`eNotifyAction`)
abbrev pub notified_value : NotifyAction ℕ → Notification → ℕ
notified_value Nothing n = n.value
notified_value (SetBits bits) n = bit_or n.value bits
notified_value Increment n = (n.value + 1) % 4294967296
notified_value (Overwrite value) n = value
notified_value (Keep value) n = if n.pending then n.value else value

-- what it makes of the notification: one is pending then
abbrev pub notified : NotifyAction ℕ → Notification → Notification
notified action n = record { value = notified_value action n; pending = true }

-- what it returns: 0 if it keeps the value of a pending one (`pdFAIL`), otherwise 1
abbrev pub notify_answer : NotifyAction ℕ → Notification → Option ℕ
notify_answer (Keep value) n = one_if (not n.pending)
notify_answer _ n = Some 1

-- A task that waits for a notification becomes Ready.
abbrev pub wake_notified : ℕ → State → State
wake_notified task s = if waits_for_notification (status_at s task) then make_ready task s else s

-- The task is notified (`xTaskNotify`, `xTaskNotifyFromISR`).
unfoldable pub notify : ℕ → NotifyAction ℕ → State → State
notify task action s = wake_notified task (with_notification task (notified action (notification_at s task)) s)

-- The task's call notifies this one, perhaps the task itself.
unfoldable pub call_notify : Application → ℕ → ℕ → NotifyAction ℕ → State → State
call_notify app task other action s =
    preempt (answer app task (notify_answer action (notification_at s other)) (notify other action s))

-- ---- take and wait

-- What the task waits for is there: a value that isn't 0 for `notify_take`, a pending notification for `notify_wait`.
abbrev pub is_there : NotificationWait → Notification → Bool
is_there (Take clears) n = nat_lt 0 n.value
is_there (Wait masks) n = n.pending

-- what the start of the call makes of the notification
abbrev pub entered : NotificationWait → Notification → Notification
entered (Take clears) n = n
entered (Wait masks) n = if n.pending then n else record n { value = bits_without n.value masks.entry }

-- what the call returns at its end
abbrev pub wait_answer : NotificationWait → Notification → Option ℕ
wait_answer (Take clears) n = Some n.value
wait_answer (Wait masks) n = if n.pending then Some n.value else None

-- the value that it leaves then
abbrev pub value_left : NotificationWait → Notification → ℕ
value_left (Take clears) n = if clears then 0 else n.value - 1
value_left (Wait masks) n = if n.pending then bits_without n.value masks.exit else n.value

-- what it leaves of the notification: none is pending
abbrev pub left_by_wait : NotificationWait → Notification → Notification
left_by_wait wait n = record { value = value_left wait n; pending = false }

-- The call is over: it returns, and none is pending any more.
unfoldable pub end_notification_wait : Application → ℕ → NotificationWait → State → State
end_notification_wait app task wait s =
    let n = notification_at s task in answer app task (wait_answer wait n) (with_notification task (left_by_wait wait n) s)

-- The task waits for a notification, until the deadline of its call: in no list of an object.
unfoldable pub wait_for_notification : ℕ → State → State
wait_for_notification task s =
    let deadline = (call_at s task).deadline in take_ticket task (λ ticket. WaitingForNotification ticket deadline) s

-- The scheduler is held, and the task waits.
unfoldable pub begin_notification_wait : ℕ → Option ℕ → State → State
begin_notification_wait task ticks s =
    go_on task Leave (wait_for_notification task (set_deadline task ticks (record s { call_hold = true })))

-- A call that finds what it waits for, or that has no ticks to wait, is over. Otherwise the task waits.
unfoldable pub check_notification : Application → ℕ → NotificationWait → Option ℕ → State → State
check_notification app task wait ticks s =
    if is_there wait (notification_at s task) || option_eq nat_eq ticks (Some 0)
    then end_notification_wait app task wait s
    else begin_notification_wait task ticks s

-- The phases of the call: Start, Leave, and Try, in which it is over (`ulTaskNotifyTake`, `xTaskNotifyWait`). At Leave a caller who
-- was notified keeps its ticket.
abbrev pub await_notification : Application → ℕ → NotificationWait → Option ℕ → Phase → State → State
await_notification app task wait ticks Start s =
    check_notification app task wait ticks (with_notification task (entered wait (notification_at s task)) s)
await_notification app task wait ticks Leave s = choose (end_hold task Try s)
await_notification app task wait ticks _ s = end_notification_wait app task wait s

-- ---- clear

-- what a call that clears returns: whether one was pending, or the value before
abbrev pub clear_answer : NotificationClear → Notification → Option ℕ
clear_answer Pending n = one_if n.pending
clear_answer (Bits bits) n = Some n.value

-- what it leaves of the notification
abbrev pub cleared : NotificationClear → Notification → Notification
cleared Pending n = record n { pending = false }
cleared (Bits bits) n = record n { value = bits_without n.value bits }

-- The task clears something of its own notification (`xTaskNotifyStateClear`, `ulTaskNotifyValueClear`).
unfoldable pub clear_notification : Application → ℕ → NotificationClear → State → State
clear_notification app task what s =
    let n = notification_at s task in answer app task (clear_answer what n) (with_notification task (cleared what n) s)
