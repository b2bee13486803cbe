-- Where a call on an event group, or a wait for a notification, lets go of the scheduler.
use Rattle.model.specs.declared.op.Op.TheVariants as op
use Rattle.model.specs.declared.op.Op.TheVariants.{Value}
use Rattle.std.proofs.Common.{◌≡◌, ◌≢◌, ℕ, true, Option, refl, subst, arith}
use Rattle.std.specs.Option.{unwrap_or}
use Rattle.model.specs.declared.op.Command.{Command}
use Rattle.model.specs.Daemon.{command_of, end_set_by_daemon}
use Rattle.model.specs.declared.op.Op.{Op}
use Rattle.model.specs.declared.op.Op.TheVariants.{Work, Delay, DelayUntil, Yield, Time, Mark, Expect, Repeat, End, If, Else, EndIf}
use Rattle.model.specs.declared.op.Op.TheVariants.{Break, Stamp, Since, Await, Do, GiveMutex, MessagesWaiting, SpacesAvailable}
use Rattle.model.specs.declared.op.Op.TheVariants.{SetBits, ClearBits, GetBits, WaitBits, Notify, AwaitNotification}
use Rattle.model.specs.declared.op.Op.TheVariants.{ClearNotification, Suspend, Resume, SuspendAll, ResumeAll}
use Rattle.model.specs.declared.op.Op.TheVariants.{EnterCritical, ExitCritical, NextCommand, Obey}
use Rattle.model.specs.declared.call.Condition.{Condition}
use Rattle.model.specs.declared.notification.NotificationWait.{NotificationWait}
use Rattle.model.specs.declared.call.Phase.TheVariants.{Start, Leave, Try}
use Rattle.model.specs.Application.{Application, Limits}
use Rattle.model.specs.State.{call_at}
use Rattle.model.specs.Switching.{choose, preempt}
use Rattle.model.specs.Waiting.{end_hold}
use Rattle.model.specs.Ops.{answer}
use Rattle.model.specs.Step.{act_current}
use Rattle.machine.specs.declared.machine.Machine.{Machine}
use Rattle.machine.specs.Logged.{Logged}
use Rattle.machine.specs.StandsFor.{Does, DoesAny, progress_in}
use Rattle.machine.proofs.Either.{does_any, does_more}
use Rattle.ops.specs.Can.{CanLeave, CanSetBits, CanAwaitEvent}
use Rattle.machine.specs.Can.{Runs}
use Rattle.ops.proofs.EventBits.{set_in_phase, wait_in_phase}
use Rattle.ops.proofs.Commanding.{obey_in_phase}
use Rattle.ops.proofs.Notifying.{notice_in_phase}
use Rattle.kernel.specs.Bits.{IsLettingGo, is_for_event}
use Rattle.kernel.specs.Can.{CanOp}
use Rattle.kernel.proofs.Acted.{any_by_form, two_within}
use Rattle.kernel.proofs.Running.{acts}

module _ (app : Application) (k : Machine) (task : ℕ) (op : Op) (l : IsLettingGo app k task op) (can : CanOp app k task op) where
  module _ (group mask : ℕ) (is : op ≡ SetBits group mask) where
    pub can_end_set : Runs k task × CanLeave k task
    can_end_set = subst (CanSetBits k task) l.reached (subst (CanOp app k task) is can)

    pub ends_set : (limits : Limits) (new : Machine) (old_log new_log : Logged)
        → Does 2 k old_log new new_log (λ s. preempt (answer app task (call_at s task).kept (end_hold task Start s)))
        → DoesAny 337 k old_log new new_log (λ s. act_current app limits s.current s)
    ends_set limits new old_log new_log does =
        acts app limits k task l.current op l.at new old_log new_log
        (any_by_form app k new old_log new_log task op (SetBits group mask) is l.awake (λ s. refl) refl 2 two_within
        (set_in_phase app k new old_log new_log task group mask Leave l.reached
        (does_any 2 k new old_log new_log _ can_end_set.1.call.agrees does)))

  module _ (group : ℕ) (condition : Condition) (ticks : Option ℕ) (is : op ≡ WaitBits group condition ticks) where
    pub can_leave_wait : CanLeave k task
    can_leave_wait = subst (CanAwaitEvent k task ticks) l.reached (subst (CanOp app k task) is can)

    pub leaves_wait : (limits : Limits) (new : Machine) (old_log new_log : Logged)
        → Does 1 k old_log new new_log (λ s. choose (end_hold task Try s))
        → DoesAny 337 k old_log new new_log (λ s. act_current app limits s.current s)
    leaves_wait limits new old_log new_log does =
        acts app limits k task l.current op l.at new old_log new_log
        (any_by_form app k new old_log new_log task op (WaitBits group condition ticks) is l.awake (λ s. refl) refl 2 two_within
        (wait_in_phase app k new old_log new_log task group condition ticks Leave l.reached
        (does_more 1 2 k new old_log new_log _ (omega arith) (does_any 1 k new old_log new_log _ can_leave_wait.call.agrees does))))

  module _ (wait : NotificationWait) (ticks : Option ℕ) (is : op ≡ AwaitNotification wait ticks) where
    pub can_leave_notice : CanLeave k task
    can_leave_notice = subst (CanAwaitEvent k task ticks) l.reached (subst (CanOp app k task) is can)

    pub leaves_notice : (limits : Limits) (new : Machine) (old_log new_log : Logged)
        → Does 1 k old_log new new_log (λ s. choose (end_hold task Try s))
        → DoesAny 337 k old_log new new_log (λ s. act_current app limits s.current s)
    leaves_notice limits new old_log new_log does =
        acts app limits k task l.current op l.at new old_log new_log
        (any_by_form app k new old_log new_log task op (AwaitNotification wait ticks) is l.awake (λ s. refl) refl 2 two_within
        (notice_in_phase app k new old_log new_log task wait ticks Leave l.reached
        (does_more 1 2 k new old_log new_log _ (omega arith)
        (does_any 1 k new old_log new_log _ can_leave_notice.call.agrees does))))

  module _ (is : op ≡ Obey) where
    pub can_end_command : Runs k task × CanLeave k task
    can_end_command = subst (CanSetBits k task) l.reached (subst (CanOp app k task) is can)

    pub ends_command : (limits : Limits) (new : Machine) (old_log new_log : Logged) (c : Command)
        → c ≡ command_of (unwrap_or (progress_in k.progress task).answer 0)
        → Does 2 k old_log new new_log (end_set_by_daemon app task c.group)
        → DoesAny 337 k old_log new new_log (λ s. act_current app limits s.current s)
    ends_command limits new old_log new_log c same does =
        acts app limits k task l.current op l.at new old_log new_log
        (any_by_form app k new old_log new_log task op Obey is l.awake (λ s. refl) refl 2 two_within
        (obey_in_phase app k new old_log new_log task c Leave l.reached same
        (does_any 2 k new old_log new_log _ can_end_command.1.call.agrees does)))

-- No other op is for an event.
pub no_other : (op : Op) → is_for_event op ≡ true → ((group mask : ℕ) → op ≢ SetBits group mask)
    → ((group : ℕ) (condition : Condition) (ticks : Option ℕ) → op ≢ WaitBits group condition ticks)
    → ((wait : NotificationWait) (ticks : Option ℕ) → op ≢ AwaitNotification wait ticks) → (op ≢ Obey) → ⊥
no_other (Work n) e sets waits notices obeys = absurd (cc)
no_other (Delay n) e sets waits notices obeys = absurd (cc)
no_other (DelayUntil n) e sets waits notices obeys = absurd (cc)
no_other Yield e sets waits notices obeys = absurd (cc)
no_other Time e sets waits notices obeys = absurd (cc)
no_other (Mark n) e sets waits notices obeys = absurd (cc)
no_other (Expect a) e sets waits notices obeys = absurd (cc)
no_other (Repeat n) e sets waits notices obeys = absurd (cc)
no_other End e sets waits notices obeys = absurd (cc)
no_other (If c) e sets waits notices obeys = absurd (cc)
no_other Else e sets waits notices obeys = absurd (cc)
no_other EndIf e sets waits notices obeys = absurd (cc)
no_other Break e sets waits notices obeys = absurd (cc)
no_other Stamp e sets waits notices obeys = absurd (cc)
no_other Since e sets waits notices obeys = absurd (cc)
no_other (Value op) e sets waits notices obeys = absurd (cc)
no_other (op.Source j what) e sets waits notices obeys = absurd (cc)
no_other (Await o a w) e sets waits notices obeys = absurd (cc)
no_other (Do o a) e sets waits notices obeys = absurd (cc)
no_other (GiveMutex o) e sets waits notices obeys = absurd (cc)
no_other (MessagesWaiting o) e sets waits notices obeys = absurd (cc)
no_other (SpacesAvailable o) e sets waits notices obeys = absurd (cc)
no_other (ClearBits g m) e sets waits notices obeys = absurd (cc)
no_other (GetBits g) e sets waits notices obeys = absurd (cc)
no_other (Notify j a) e sets waits notices obeys = absurd (cc)
no_other (ClearNotification x) e sets waits notices obeys = absurd (cc)
no_other (Suspend j) e sets waits notices obeys = absurd (cc)
no_other (Resume j) e sets waits notices obeys = absurd (cc)
no_other SuspendAll e sets waits notices obeys = absurd (cc)
no_other ResumeAll e sets waits notices obeys = absurd (cc)
no_other EnterCritical e sets waits notices obeys = absurd (cc)
no_other ExitCritical e sets waits notices obeys = absurd (cc)
no_other (NextCommand o) e sets waits notices obeys = absurd (cc)
no_other Obey e sets waits notices obeys = obeys refl
no_other (AwaitNotification wait ticks) e sets waits notices obeys = notices wait ticks refl
no_other (SetBits group mask) e sets waits notices obeys = sets group mask refl
no_other (WaitBits group condition ticks) e sets waits notices obeys = waits group condition ticks refl
