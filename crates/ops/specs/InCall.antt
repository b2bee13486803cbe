-- A call that waits: what it is whatever its item, and the phases in which it reports nothing.
use Rattle.std.specs.Prelude.{◌≡◌, ◌||◌, ℕ, false, Option, Some, nat_eq}
use Rattle.std.specs.Option.{option_eq}
use Rattle.model.specs.declared.call.Condition.{Condition}
use Rattle.model.specs.declared.call.Phase.{Phase}
use Rattle.model.specs.declared.call.Phase.TheVariants.{Decide, Place, Unlock, Leave}
use Rattle.model.specs.declared.notification.NotificationWait.{NotificationWait}
use Rattle.model.specs.declared.op.Access.{Access}
use Rattle.model.specs.declared.op.Access.TheVariants.{Send, SendFront, Overwrite, Receive, Peek, Take, Give, Lock}
use Rattle.model.specs.declared.value.Value.{Value}
use Rattle.model.specs.Groups.{is_met}
use Rattle.model.specs.Notifications.{entered, is_there}
use Rattle.model.specs.State.{State, bits_at, notification_at, with_notification}
use Rattle.machine.specs.declared.machine.Machine.{Machine}
use Rattle.machine.specs.Can.{Agrees}
use Rattle.machine.specs.StandsFor.{StandsFor, progress_in}

-- The call with 0 for its item: what doesn't depend on the item is that of the call.
abbrev pub without_item : Access Value → Access ℕ
without_item (Send value) = Send 0
without_item (SendFront value) = SendFront 0
without_item (Overwrite value) = Overwrite 0
without_item Receive = Receive
without_item Peek = Peek
without_item Take = Take
without_item Give = Give
without_item Lock = Lock

-- In these phases a call reports nothing, and holds the scheduler after each.
abbrev pub IsSilent : Phase → Type 0
IsSilent Decide = Unit {0}
IsSilent Place = Unit {0}
IsSilent Unlock = Unit {0}
IsSilent _ = ⊥

-- Such a phase leaves it as it is who runs, and at which op the task is.
pub record Remains (old new : Machine) (task : ℕ) : Type 0 where
  pub current : new.sched.current ≡ old.sched.current
  pub op_index : (progress_in new.progress task).op_index ≡ (progress_in old.progress task).op_index
  pub suspensions : new.sched.suspensions ≡ old.sched.suspensions

-- The running task's call on an event group, or for a notification, has taken hold of the scheduler, and lets go of it next.
pub record TakesHold (old new : Machine) (task : ℕ) : Type 0 where
  pub agrees : Agrees old
  pub remains : Remains old new task
  pub held : new.sched.depth ≡ 1
  pub reached : (progress_in new.progress task).call.phase ≡ Leave

-- The bits of a group don't meet a condition, and there are ticks to wait for them.
abbrev pub IsUnmet : Machine → ℕ → Condition → Option ℕ → Type 0
IsUnmet k group condition ticks =
    (s : State) → StandsFor k s → is_met (bits_at s group) condition || option_eq nat_eq ticks (Some 0) ≡ false

-- The state in which a call that waits for a notification looks for it: its start may have cleared bits of the value.
abbrev pub when_entered : ℕ → NotificationWait → State → State
when_entered task wait s = with_notification task (entered wait (notification_at s task)) s

-- What the task waits for isn't there then, and there are ticks to wait for it.
abbrev pub IsUnnotified : Machine → ℕ → NotificationWait → Option ℕ → Type 0
IsUnnotified k task wait ticks =
    (s : State) → StandsFor k s
    → is_there wait (notification_at (when_entered task wait s) task) || option_eq nat_eq ticks (Some 0) ≡ false
