-- The steps in which a call on an event group, or a wait for a notification, lets go of the scheduler.
use Rattle.std.specs.Prelude.{◌≡◌, ℕ, Bool, true, false, Option, Some}
use Rattle.model.specs.declared.call.Condition.{Condition}
use Rattle.model.specs.declared.op.Op.{Op}
use Rattle.model.specs.declared.notification.NotificationWait.{NotificationWait}
use Rattle.model.specs.declared.op.Op.TheVariants.{SetBits, WaitBits, AwaitNotification, Obey}
use Rattle.model.specs.declared.call.Phase.TheVariants.{Start, Leave}
use Rattle.model.specs.Application.{Application, op_at}
use Rattle.machine.specs.declared.machine.Machine.{Machine}
use Rattle.machine.specs.StandsFor.{progress_in}
use Rattle.ops.specs.InCall.{IsUnmet, IsUnnotified, TakesHold}

-- an op that sets bits, or waits for them or for a notification, or does the daemon's command
abbrev pub is_for_event : Op → Bool
is_for_event (SetBits group mask) = true
is_for_event (WaitBits group condition ticks) = true
is_for_event (AwaitNotification wait ticks) = true
is_for_event Obey = true
is_for_event _ = false

-- The running task's op is such a one, and lets go of the scheduler next; no `suspend_all` is in force.
pub record IsLettingGo (app : Application) (k : Machine) (task : ℕ) (op : Op) : Type 0 where
  pub current : k.sched.current ≡ Some task
  pub at : op_at app task (progress_in k.progress task).op_index ≡ Some op
  pub event : is_for_event op ≡ true
  pub reached : (progress_in k.progress task).call.phase ≡ Leave
  pub awake : k.sched.suspensions ≡ 0

-- An op whose call begins so: it sets bits, or waits for some that aren't there, or for a notification that isn't.
pub data Begins (k : Machine) (task : ℕ) (op : Op) : Type 0 where
  Sets : (group mask : ℕ) → op ≡ SetBits group mask → Begins k task op
  Waits : (group : ℕ) → (condition : Condition) → (ticks : Option ℕ) → op ≡ WaitBits group condition ticks
      → IsUnmet k group condition ticks → Begins k task op
  Notices : (wait : NotificationWait) → (ticks : Option ℕ) → op ≡ AwaitNotification wait ticks
      → IsUnnotified k task wait ticks → Begins k task op

-- The running task's op is such a one, and its call has taken hold of the scheduler.
pub record HasTakenHold (old new : Machine) (task : ℕ) (op : Op) : Type 0 where
  pub begins : Begins old task op
  pub start : (progress_in old.progress task).call.phase ≡ Start
  pub takes : TakesHold old new task
