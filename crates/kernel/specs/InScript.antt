-- Which op the running task is at, and behind which ops it may be at another one while nothing else changed.
use Rattle.std.specs.Prelude.{◌≡◌, ℕ, Bool, true, false, Some, None}
use Rattle.model.specs.declared.op.Op.{Op}
use Rattle.model.specs.declared.op.Op.TheVariants.{Time, Mark, Expect, Repeat, End, If, Else, EndIf, Break, Stamp, Since}
use Rattle.model.specs.declared.op.Op.TheVariants.{MessagesWaiting, SpacesAvailable, GetBits, WaitBits, Value}
use Rattle.model.specs.Application.{Application, op_at}
use Rattle.machine.specs.declared.machine.Machine.{Machine}
use Rattle.machine.specs.StandsFor.{progress_in}
use Rattle.kernel.specs.declared.dispatch.Following.{Following}
use Rattle.kernel.specs.declared.dispatch.Following.TheVariants.{NextOp, Answered}

-- an op that may change nothing but where its task is in its script, and what the task keeps: one of the script alone, or a call
-- that answers and wakes nobody, or one on values
abbrev pub may_stay_amid : Op → Bool
may_stay_amid Time = true
may_stay_amid (Mark number) = true
may_stay_amid (Expect condition) = true
may_stay_amid (Repeat turns) = true
may_stay_amid End = true
may_stay_amid (If condition) = true
may_stay_amid Else = true
may_stay_amid EndIf = true
may_stay_amid Break = true
may_stay_amid Stamp = true
may_stay_amid Since = true
may_stay_amid (MessagesWaiting object) = true
may_stay_amid (SpacesAvailable object) = true
may_stay_amid (GetBits group) = true
may_stay_amid (Value op) = true
may_stay_amid (WaitBits group condition ticks) = true
may_stay_amid _ = false

-- What may follow is the op to which the task has come: nothing else changed but what was reported.
abbrev pub is_amid : Following → Bool
is_amid NextOp = true
is_amid Answered = true
is_amid _ = false

-- The task runs, is at this op, and no `suspend_all` is in force.
pub record IsAt (app : Application) (k : Machine) (task : ℕ) (op : Op) : Type 0 where
  pub current : k.sched.current ≡ Some task
  pub at : op_at app task (progress_in k.progress task).op_index ≡ Some op
  pub awake : k.sched.suspensions ≡ 0

-- No task is, while no `suspend_all` is in force.
abbrev pub IsAtNone : Application → Machine → Type 0
IsAtNone app k =
    (task : ℕ) → k.sched.current ≡ Some task → k.sched.suspensions ≡ 0
    → op_at app task (progress_in k.progress task).op_index ≡ None
