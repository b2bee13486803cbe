-- Which ops take a notification, in plain terms.
use Rattle.std.specs.Prelude.{◌≡◌, ◌||◌, ℕ, Bool, true, false, Option, Some, nat_eq}
use Rattle.std.specs.Option.{IfSome, option_eq}
use Rattle.model.specs.declared.call.Phase.{Phase}
use Rattle.model.specs.declared.call.Phase.TheVariants.{Start, Leave}
use Rattle.model.specs.declared.notification.Notification.{Notification}
use Rattle.model.specs.declared.notification.NotificationWait.{NotificationWait}
use Rattle.model.specs.declared.notification.NotificationClear.TheVariants.{Pending}
use Rattle.model.specs.declared.op.Op.{Op}
use Rattle.model.specs.declared.op.Op.TheVariants.{AwaitNotification, ClearNotification}
use Rattle.model.specs.Application.{Application, op_at}
use Rattle.model.specs.Notifications.{entered, is_there}
use Rattle.model.specs.State.{State, call_at, notification_at, progress_at}

-- The wait ends in this phase, which finds this notification.
abbrev pub is_last_phase : NotificationWait → Option ℕ → Phase → Notification → Bool
is_last_phase wait ticks Start n = is_there wait (entered wait n) || option_eq nat_eq ticks (Some 0)
is_last_phase wait ticks Leave n = false
is_last_phase wait ticks _ n = true

-- The task's op takes its notification: its wait is over, or it clears a pending one.
abbrev pub takes_notification : State → ℕ → Op → Bool
takes_notification s task (AwaitNotification wait ticks) =
    is_last_phase wait ticks (call_at s task).phase (notification_at s task)
takes_notification s task (ClearNotification Pending) = true
takes_notification s task _ = false

-- In this state another task or idle runs, or the task's op doesn't take its notification.
abbrev pub TakesNone : Application → ℕ → State → Type 0
TakesNone app task s =
    s.current ≡ Some task → IfSome (op_at app task (progress_at s task).op_index) (λ op. takes_notification s task op ≡ false)
