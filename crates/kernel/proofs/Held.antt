-- While a task holds the scheduler: what a tick that is held, the end of a script and a misuse make of the states that the kernel
-- represents.
use Rattle.model.specs.declared.op.Op.TheVariants.{Source}
use Rattle.model.specs.declared.source.SourceOp.{SourceOp}
use Rattle.model.specs.declared.value.Value as value
use Rattle.model.specs.declared.op.Op.TheVariants.{Value}
use Rattle.model.specs.declared.value.ValueOp.{ValueOp}
use Rattle.std.proofs.Common.{◌≡◌, ◌≢◌, ◌<◌, ◌≤◌, ℕ, zero, suc, true, false, List, Option, Some, None, refl, ◌∙◌}
use Rattle.std.proofs.Common.{arith, ◌&&◌}
use Rattle.std.proofs.lemmas.Bool.{lt-ltb}
use Rattle.std.specs.Prelude.{Bool}
use Rattle.model.specs.declared.event.Event.{Event}
use Rattle.model.specs.declared.answer.AnswerCondition.{AnswerCondition}
use Rattle.model.specs.declared.event.End.TheVariants as ending
use Rattle.model.specs.declared.event.Misuse.{Misuse}
use Rattle.model.specs.declared.event.Misuse.TheVariants.{NotSuspended, WhileCritical, NotCritical}
use Rattle.model.specs.declared.notification.NotificationClear.{NotificationClear}
use Rattle.model.specs.declared.op.Op.{Op}
use Rattle.model.specs.declared.op.Op.TheVariants.{Work, Delay, DelayUntil, Yield, Time, Mark, Expect, Repeat, End as EndLoop, If}
use Rattle.model.specs.declared.op.Op.TheVariants.{Else, EndIf, Break, Stamp, Since, Await, Do, GiveMutex, MessagesWaiting}
use Rattle.model.specs.declared.op.Op.TheVariants.{SpacesAvailable, SetBits, ClearBits, GetBits, WaitBits, Notify}
use Rattle.model.specs.declared.op.Op.TheVariants.{AwaitNotification, ClearNotification, Suspend, Resume}
use Rattle.model.specs.declared.op.Op.TheVariants.{SuspendAll, ResumeAll, EnterCritical, ExitCritical, NextCommand, Obey}
use Rattle.model.specs.Application.{Application}
use Rattle.model.specs.State.{State, status_at, progress_at}
use Rattle.model.specs.Switching.{is_critical, is_held, is_held_by_task, is_scheduler_suspended, holds_ticks}
use Rattle.model.specs.Step.{act_by_value, act_unless, end_misuse, is_barred, is_ended, own_misuse, judge, may_switch, misuse}
use Rattle.model.specs.Step.{misused}
use Rattle.soundness.proofs.Settled.{neither, ticks_held_by_task}
use Rattle.soundness.proofs.Judging.{misuse_calm, switches_not, takes_hold}
use Rattle.sched.specs.StandsFor as sched
use Rattle.machine.specs.declared.machine.Machine.{Machine}
use Rattle.machine.specs.Logged.{Logged}
use Rattle.machine.specs.Can.{Agrees}
use Rattle.machine.specs.StandsFor.{At, Does, Moves, Stands}
use Rattle.machine.specs.StandsFor.Stands.{Placed}
use Rattle.machine.proofs.Acting.{stopped_at}
use Rattle.machine.proofs.Either.{sections_are, suspensions_are}
use Rattle.kernel.proofs.Holds.{holds_by_some}

-- Tasks hold the scheduler more often than by critical sections, so a `suspend_all` is in force, and ticks are held.
pub suspended_by : (k : Machine) (s : State) → Stands k s → k.sections < k.sched.suspensions → holds_ticks s ≡ true
suspended_by k s h some =
    let all = suspensions_are k s h in
    let open_ = sections_are k s h in
    ticks_held_by_task s (lt-ltb 0 s.suspensions (omega arith))

-- ---- who came to its end

module _ (k : Machine) (log : List Event) (s : State) (h : At k log s) (i op_index : ℕ) where
  pub judged : (kind : Misuse) → is_ended (status_at s i) ≡ true → end_misuse s ≡ Some kind
      → At (record k { stopped = Some (ending.Misuse i op_index kind) }) log (judge i op_index s)
  unfolding judge
  judged kind t e = rw (t, e) (stopped_at k log s h (ending.Misuse i op_index kind) (ending.Misuse i op_index kind) refl)

  pub passed : is_ended (status_at s i) ≡ false → At k log (judge i op_index s)
  unfolding judge
  passed t = rw t h

  pub passed_free : is_ended (status_at s i) ≡ true → end_misuse s ≡ None → At k log (judge i op_index s)
  unfolding judge
  passed_free t e = rw (t, e) h

-- ---- an op while a task holds the scheduler

-- what is no misuse then may not switch
pub never_switches : (k : Machine) (i : ℕ) (op : Op) → Agrees k → 0 < k.sched.suspensions
    → ((s : State) → Stands k s → misuse s i op ≡ None) → may_switch op ≡ false
never_switches k i op a some fine =
    switches_not a.0 i op (holds_by_some a.0 (let all = a.1.sched.suspensions in omega arith)) (fine a.0 (Placed a.1))

-- ---- which misuse an op is

module _ (s : State) (i : ℕ) (op : Op) (fine : is_scheduler_suspended s && may_switch op ≡ false) where
  pub misuse_own : (kind : Misuse) → own_misuse s i op ≡ Some kind → Some kind ≡ misuse s i op
  misuse_own kind own = rw (fine, own) refl

  pub misuse_barred : own_misuse s i op ≡ None → is_critical s ≡ true → is_barred op ≡ true → Some WhileCritical ≡ misuse s i op
  misuse_barred own open_ barred = rw (fine, own, open_, barred) refl

  pub misuse_fine : own_misuse s i op ≡ None → is_critical s && is_barred op ≡ false → misuse s i op ≡ None
  misuse_fine own free = rw (fine, own, free) refl

pub no_barred : (a : Bool) {b : Bool} → b ≡ false → a && b ≡ false
no_barred true e = e
no_barred false e = refl

-- every other op may switch
pub no_other : {X : Type 0} (op : Op) → may_switch op ≡ false → ((n : ℕ) → op ≢ Work n) → (op ≢ Time)
    → ((n : value.Value) → op ≢ Mark n) → ((c : AnswerCondition) → op ≢ Expect c) → ((n : Option ℕ) → op ≢ Repeat n)
    → (op ≢ EndLoop)
    → ((c : AnswerCondition) → op ≢ If c) → (op ≢ Else) → (op ≢ EndIf) → (op ≢ Break) → (op ≢ Stamp) → (op ≢ Since)
    → ((o : ℕ) → op ≢ MessagesWaiting o) → ((o : ℕ) → op ≢ SpacesAvailable o) → ((group mask : ℕ) → op ≢ ClearBits group mask)
    → ((group : ℕ) → op ≢ GetBits group) → (op ≢ SuspendAll) → (op ≢ ResumeAll) → (op ≢ EnterCritical) → (op ≢ ExitCritical)
    → ((values : ValueOp) → op ≢ Value values) → ((what : NotificationClear) → op ≢ ClearNotification what)
    → ((handler : ℕ) (what : SourceOp) → op ≢ Source handler what) → X
no_other (Work n) t work time mark expect repeat end_ if_ else_ end_if break_ stamp_ since_ messages spaces clear get suspend_
    resume_ enter exit value_ clear_notice source_ =
    absurd (work n refl)
no_other (Delay n) t work time mark expect repeat end_ if_ else_ end_if break_ stamp_ since_ messages spaces clear get suspend_
    resume_ enter exit value_ clear_notice source_ =
    absurd (cc)
no_other (DelayUntil n) t work time mark expect repeat end_ if_ else_ end_if break_ stamp_ since_ messages spaces clear get suspend_
    resume_ enter exit value_ clear_notice source_ =
    absurd (cc)
no_other Yield t work time mark expect repeat end_ if_ else_ end_if break_ stamp_ since_ messages spaces clear get suspend_ resume_
    enter exit value_ clear_notice source_ =
    absurd (cc)
no_other Time t work time mark expect repeat end_ if_ else_ end_if break_ stamp_ since_ messages spaces clear get suspend_ resume_
    enter exit value_ clear_notice source_ =
    absurd (time refl)
no_other (Mark n) t work time mark expect repeat end_ if_ else_ end_if break_ stamp_ since_ messages spaces clear get suspend_
    resume_ enter exit value_ clear_notice source_ =
    absurd (mark n refl)
no_other (Expect a) t work time mark expect repeat end_ if_ else_ end_if break_ stamp_ since_ messages spaces clear get suspend_
    resume_ enter exit value_ clear_notice source_ =
    absurd (expect a refl)
no_other (Repeat n) t work time mark expect repeat end_ if_ else_ end_if break_ stamp_ since_ messages spaces clear get suspend_
    resume_ enter exit value_ clear_notice source_ =
    absurd (repeat n refl)
no_other EndLoop t work time mark expect repeat end_ if_ else_ end_if break_ stamp_ since_ messages spaces clear get suspend_
    resume_ enter exit value_ clear_notice source_ =
    absurd (end_ refl)
no_other (If c) t work time mark expect repeat end_ if_ else_ end_if break_ stamp_ since_ messages spaces clear get suspend_ resume_
    enter exit value_ clear_notice source_ =
    absurd (if_ c refl)
no_other Else t work time mark expect repeat end_ if_ else_ end_if break_ stamp_ since_ messages spaces clear get suspend_ resume_
    enter exit value_ clear_notice source_ =
    absurd (else_ refl)
no_other EndIf t work time mark expect repeat end_ if_ else_ end_if break_ stamp_ since_ messages spaces clear get suspend_ resume_
    enter exit value_ clear_notice source_ =
    absurd (end_if refl)
no_other Break t work time mark expect repeat end_ if_ else_ end_if break_ stamp_ since_ messages spaces clear get suspend_ resume_
    enter exit value_ clear_notice source_ =
    absurd (break_ refl)
no_other Stamp t work time mark expect repeat end_ if_ else_ end_if break_ stamp_ since_ messages spaces clear get suspend_ resume_
    enter exit value_ clear_notice source_ =
    absurd (stamp_ refl)
no_other Since t work time mark expect repeat end_ if_ else_ end_if break_ stamp_ since_ messages spaces clear get suspend_ resume_
    enter exit value_ clear_notice source_ =
    absurd (since_ refl)
no_other (Value values) t work time mark expect repeat end_ if_ else_ end_if break_ stamp_ since_ messages spaces clear get suspend_
    resume_ enter exit value_ clear_notice source_ =
    absurd (value_ values refl)
no_other (Source j what) t work time mark expect repeat end_ if_ else_ end_if break_ stamp_ since_ messages spaces clear get
    suspend_ resume_ enter exit value_ clear_notice source_ =
    absurd (source_ j what refl)
no_other (Await o a w) t work time mark expect repeat end_ if_ else_ end_if break_ stamp_ since_ messages spaces clear get suspend_
    resume_ enter exit value_ clear_notice source_ =
    absurd (cc)
no_other (Do o a) t work time mark expect repeat end_ if_ else_ end_if break_ stamp_ since_ messages spaces clear get suspend_
    resume_ enter exit value_ clear_notice source_ =
    absurd (cc)
no_other (GiveMutex o) t work time mark expect repeat end_ if_ else_ end_if break_ stamp_ since_ messages spaces clear get suspend_
    resume_ enter exit value_ clear_notice source_ =
    absurd (cc)
no_other (MessagesWaiting o) t work time mark expect repeat end_ if_ else_ end_if break_ stamp_ since_ messages spaces clear get
    suspend_ resume_ enter exit value_ clear_notice source_ =
    absurd (messages o refl)
no_other (SpacesAvailable o) t work time mark expect repeat end_ if_ else_ end_if break_ stamp_ since_ messages spaces clear get
    suspend_ resume_ enter exit value_ clear_notice source_ =
    absurd (spaces o refl)
no_other (SetBits g m) t work time mark expect repeat end_ if_ else_ end_if break_ stamp_ since_ messages spaces clear get suspend_
    resume_ enter exit value_ clear_notice source_ =
    absurd (cc)
no_other (ClearBits g m) t work time mark expect repeat end_ if_ else_ end_if break_ stamp_ since_ messages spaces clear get
    suspend_ resume_ enter exit value_ clear_notice source_ =
    absurd (clear g m refl)
no_other (GetBits g) t work time mark expect repeat end_ if_ else_ end_if break_ stamp_ since_ messages spaces clear get suspend_
    resume_ enter exit value_ clear_notice source_ =
    absurd (get g refl)
no_other (WaitBits g c w) t work time mark expect repeat end_ if_ else_ end_if break_ stamp_ since_ messages spaces clear
    get suspend_ resume_ enter exit value_ clear_notice source_ =
    absurd (cc)
no_other (Notify j a) t work time mark expect repeat end_ if_ else_ end_if break_ stamp_ since_ messages spaces clear get suspend_
    resume_ enter exit value_ clear_notice source_ =
    absurd (cc)
no_other (AwaitNotification w ticks) t work time mark expect repeat end_ if_ else_ end_if break_ stamp_ since_ messages spaces clear
    get suspend_ resume_ enter exit value_ clear_notice source_ =
    absurd (cc)
no_other (ClearNotification x) t work time mark expect repeat end_ if_ else_ end_if break_ stamp_ since_ messages spaces clear
    get suspend_ resume_ enter exit value_ clear_notice source_ =
    absurd (clear_notice x refl)
no_other (Suspend j) t work time mark expect repeat end_ if_ else_ end_if break_ stamp_ since_ messages spaces clear get suspend_
    resume_ enter exit value_ clear_notice source_ =
    absurd (cc)
no_other (Resume j) t work time mark expect repeat end_ if_ else_ end_if break_ stamp_ since_ messages spaces clear get suspend_
    resume_ enter exit value_ clear_notice source_ =
    absurd (cc)
no_other SuspendAll t work time mark expect repeat end_ if_ else_ end_if break_ stamp_ since_ messages spaces clear get suspend_
    resume_ enter exit value_ clear_notice source_ =
    absurd (suspend_ refl)
no_other ResumeAll t work time mark expect repeat end_ if_ else_ end_if break_ stamp_ since_ messages spaces clear get suspend_
    resume_ enter exit value_ clear_notice source_ =
    absurd (resume_ refl)
no_other EnterCritical t work time mark expect repeat end_ if_ else_ end_if break_ stamp_ since_ messages spaces clear get suspend_
    resume_ enter exit value_ clear_notice source_ =
    absurd (enter refl)
no_other ExitCritical t work time mark expect repeat end_ if_ else_ end_if break_ stamp_ since_ messages spaces clear get suspend_
    resume_ enter exit value_ clear_notice source_ =
    absurd (exit refl)
no_other (NextCommand o) t work time mark expect repeat end_ if_ else_ end_if break_ stamp_ since_ messages spaces clear get
    suspend_ resume_ enter exit value_ clear_notice source_ =
    absurd (cc)
no_other Obey t work time mark expect repeat end_ if_ else_ end_if break_ stamp_ since_ messages spaces clear get suspend_ resume_
    enter exit value_ clear_notice source_ =
    absurd (cc)

-- ---- ops that begin or end a hold, where no task holds the scheduler

pub no_misuse : (s : State) (i : ℕ) (op : Op) → is_held_by_task s ≡ false → takes_hold op ≡ true → misuse s i op ≡ None
no_misuse s i SuspendAll free t = misuse_calm s i SuspendAll free
no_misuse s i EnterCritical free t = misuse_calm s i EnterCritical free
no_misuse s i op free t = absurd (cc)

pub not_suspended : (s : State) (i : ℕ) → is_held_by_task s ≡ false → misuse s i ResumeAll ≡ Some NotSuspended
not_suspended s i free = misuse_calm s i ResumeAll free ∙ rw (neither s free).0 refl

pub not_critical : (s : State) (i : ℕ) → is_held_by_task s ≡ false → misuse s i ExitCritical ≡ Some NotCritical
not_critical s i free = misuse_calm s i ExitCritical free ∙ rw (neither s free).1 refl

module _ (app : Application) (new : Machine) (log : List Event) (s : State) (i : ℕ) (op : Op) where
  pub misused_at : (kind : Misuse) → misuse s i op ≡ Some kind
      → At new log (misused i (progress_at s i).op_index kind s) → At new log (act_unless app i (misuse s i op) op s)
  misused_at kind e h = rw e h

  pub acted_at : misuse s i op ≡ None → At new log (judge i (progress_at s i).op_index (act_by_value app i op s))
      → At new log (act_unless app i (misuse s i op) op s)
  acted_at e h = rw e h

-- ---- fewer events than may be reported

pub does_up : (count more : ℕ) (old new : Machine) (old_log new_log : Logged) (deed : State → State)
    → count ≤ more → Does count old old_log new new_log deed → Does more old old_log new new_log deed
does_up count more old new old_log new_log deed l d = record { at = d.at; few = let f = d.few in omega arith; before = d.before }

pub moves_up : (count : ℕ) (old new : Machine) (log : Logged) (deed : State → State)
    → Moves old new deed → Does count old log new log deed
moves_up count old new log deed d = record { at = λ s h. d log.told s h; few = omega arith; before = refl }

-- None is in force where that follows if one is.
pub none_in_force : (suspensions : ℕ) → (0 < suspensions → suspensions ≡ 0) → suspensions ≡ 0
none_in_force zero none = refl
none_in_force (suc n) none = none (omega arith)
