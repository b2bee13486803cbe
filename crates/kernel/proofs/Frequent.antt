-- An op that is none of the frequent ones.
use Rattle.std.proofs.Common.{◌≡◌, ◌≢◌, ℕ, false, Option, refl}
use Rattle.model.specs.declared.call.Condition.{Condition}
use Rattle.model.specs.declared.answer.AnswerCondition.{AnswerCondition}
use Rattle.model.specs.declared.notification.NotificationWait.{NotificationWait}
use Rattle.model.specs.declared.notification.NotifyAction.{NotifyAction}
use Rattle.model.specs.declared.op.Access.{Access}
use Rattle.model.specs.declared.op.Op.{Op}
use Rattle.model.specs.declared.op.Op.TheVariants.{Work, Delay, DelayUntil, Yield, Time, Mark, Expect, Repeat, End as EndLoop, If}
use Rattle.model.specs.declared.op.Op.TheVariants.{Else, EndIf, Break, Stamp, Since, Await, Do, GiveMutex, MessagesWaiting}
use Rattle.model.specs.declared.op.Op.TheVariants.{SpacesAvailable, SetBits, ClearBits, GetBits, WaitBits, Notify}
use Rattle.model.specs.declared.op.Op.TheVariants.{AwaitNotification, ClearNotification, Suspend, Resume, SuspendAll}
use Rattle.model.specs.declared.op.Op.TheVariants.{ResumeAll, EnterCritical, ExitCritical, NextCommand, Obey, Source}
use Rattle.model.specs.declared.op.Op.TheVariants.{Value as Calculate}
use Rattle.model.specs.declared.value.Value.{Value}
use Rattle.model.specs.declared.value.ValueOp.{ValueOp}
use Rattle.kernel.specs.Frequent.{is_frequent}

pub seldom : (op : Op)
    → ((ticks : ℕ) → op ≢ Work ticks)
    → ((ticks : ℕ) → op ≢ Delay ticks)
    → (op ≢ Yield)
    → (op ≢ Time)
    → ((object : ℕ) (access : Access Value) (ticks : Option ℕ) → op ≢ Await object access ticks)
    → ((object : ℕ) (access : Access Value) → op ≢ Do object access)
    → ((group : ℕ) (mask : ℕ) → op ≢ SetBits group mask)
    → ((group : ℕ) (condition : Condition) (ticks : Option ℕ) → op ≢ WaitBits group condition ticks)
    → ((other : ℕ) (action : NotifyAction Value) → op ≢ Notify other action)
    → ((wait : NotificationWait) (ticks : Option ℕ) → op ≢ AwaitNotification wait ticks)
    → (op ≢ EndLoop)
    → ((condition : AnswerCondition) → op ≢ If condition)
    → ((turns : Option ℕ) → op ≢ Repeat turns)
    → ((o : ValueOp) → op ≢ Calculate o)
    → is_frequent op ≡ false
seldom (DelayUntil ticks) works delays yields times awaits does sets waits notifies notices ends asks repeats values = refl
seldom (Mark value) works delays yields times awaits does sets waits notifies notices ends asks repeats values = refl
seldom (Expect condition) works delays yields times awaits does sets waits notifies notices ends asks repeats values = refl
seldom Else works delays yields times awaits does sets waits notifies notices ends asks repeats values = refl
seldom EndIf works delays yields times awaits does sets waits notifies notices ends asks repeats values = refl
seldom Break works delays yields times awaits does sets waits notifies notices ends asks repeats values = refl
seldom Stamp works delays yields times awaits does sets waits notifies notices ends asks repeats values = refl
seldom Since works delays yields times awaits does sets waits notifies notices ends asks repeats values = refl
seldom (GiveMutex object) works delays yields times awaits does sets waits notifies notices ends asks repeats values = refl
seldom (MessagesWaiting object) works delays yields times awaits does sets waits notifies notices ends asks repeats values = refl
seldom (SpacesAvailable object) works delays yields times awaits does sets waits notifies notices ends asks repeats values = refl
seldom (ClearBits group mask) works delays yields times awaits does sets waits notifies notices ends asks repeats values = refl
seldom (GetBits group) works delays yields times awaits does sets waits notifies notices ends asks repeats values = refl
seldom (ClearNotification what) works delays yields times awaits does sets waits notifies notices ends asks repeats values = refl
seldom (Suspend other) works delays yields times awaits does sets waits notifies notices ends asks repeats values = refl
seldom (Resume other) works delays yields times awaits does sets waits notifies notices ends asks repeats values = refl
seldom SuspendAll works delays yields times awaits does sets waits notifies notices ends asks repeats values = refl
seldom ResumeAll works delays yields times awaits does sets waits notifies notices ends asks repeats values = refl
seldom EnterCritical works delays yields times awaits does sets waits notifies notices ends asks repeats values = refl
seldom ExitCritical works delays yields times awaits does sets waits notifies notices ends asks repeats values = refl
seldom (Source handler what) works delays yields times awaits does sets waits notifies notices ends asks repeats values = refl
seldom (NextCommand queue) works delays yields times awaits does sets waits notifies notices ends asks repeats values = refl
seldom Obey works delays yields times awaits does sets waits notifies notices ends asks repeats values = refl
seldom (Work ticks) works delays yields times awaits does sets waits notifies notices ends asks repeats values =
    absurd (works ticks refl)
seldom (Delay ticks) works delays yields times awaits does sets waits notifies notices ends asks repeats values =
    absurd (delays ticks refl)
seldom Yield works delays yields times awaits does sets waits notifies notices ends asks repeats values = absurd (yields refl)
seldom Time works delays yields times awaits does sets waits notifies notices ends asks repeats values = absurd (times refl)
seldom (Await object access ticks) works delays yields times awaits does sets waits notifies notices ends asks repeats values =
    absurd (awaits object access ticks refl)
seldom (Do object access) works delays yields times awaits does sets waits notifies notices ends asks repeats values =
    absurd (does object access refl)
seldom (SetBits group mask) works delays yields times awaits does sets waits notifies notices ends asks repeats values =
    absurd (sets group mask refl)
seldom (WaitBits group condition ticks) works delays yields times awaits does sets waits notifies notices ends asks repeats values =
    absurd (waits group condition ticks refl)
seldom (Notify other action) works delays yields times awaits does sets waits notifies notices ends asks repeats values =
    absurd (notifies other action refl)
seldom (AwaitNotification wait ticks) works delays yields times awaits does sets waits notifies notices ends asks repeats values =
    absurd (notices wait ticks refl)
seldom EndLoop works delays yields times awaits does sets waits notifies notices ends asks repeats values = absurd (ends refl)
seldom (If condition) works delays yields times awaits does sets waits notifies notices ends asks repeats values =
    absurd (asks condition refl)
seldom (Repeat turns) works delays yields times awaits does sets waits notifies notices ends asks repeats values =
    absurd (repeats turns refl)
seldom (Calculate op) works delays yields times awaits does sets waits notifies notices ends asks repeats values =
    absurd (values op refl)
