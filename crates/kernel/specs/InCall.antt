-- A call that waits, from where it decides to where it lets go of the scheduler.
use Rattle.std.specs.Prelude.{◌≡◌, ℕ, List, Option, Some, None}
use Rattle.model.specs.declared.op.Access.{Access}
use Rattle.model.specs.declared.op.Access.TheVariants.{Receive}
use Rattle.model.specs.declared.op.Op.{Op}
use Rattle.model.specs.declared.op.Op.TheVariants.{Await, NextCommand}
use Rattle.model.specs.declared.call.Phase.{Phase}
use Rattle.model.specs.declared.call.Phase.TheVariants.{Leave}
use Rattle.model.specs.declared.value.Value as value
use Rattle.model.specs.Values.{with_number}
use Rattle.model.specs.Application.{Application, op_at}
use Rattle.machine.specs.declared.machine.Machine.{Machine}
use Rattle.machine.specs.StandsFor.{progress_in}

-- The op is a call on this object that waits for this many ticks, or forever: that of a task, or the daemon's receive. The item of
-- a task's call, which it tries again later, may be any number.
pub data IsCallOn (op : Op) (object : ℕ) (access : Access ℕ) (ticks : Option ℕ) : Type 0 where
  Awaits : (call : Access value.Value) → (variables : List ℕ) → (answer : Option ℕ)
      → op ≡ Await object call ticks → access ≡ with_number variables answer call → IsCallOn op object access ticks
  Receives : op ≡ NextCommand object → access ≡ Receive → ticks ≡ None → IsCallOn op object access ticks

-- The running task is in this phase of a call on this object, and no `suspend_all` is in force.
pub record IsInPhase (app : Application) (k : Machine) (task object : ℕ) (access : Access ℕ) (phase : Phase) : Type 0 where
  pub current : k.sched.current ≡ Some task
  pub ticks : Option ℕ
  pub op : Op
  pub at : op_at app task (progress_in k.progress task).op_index ≡ Some op
  pub on : IsCallOn op object access ticks
  pub reached : (progress_in k.progress task).call.phase ≡ phase
  pub awake : k.sched.suspensions ≡ 0

-- The running task's call lets go of the scheduler next.
abbrev pub IsLeaving : Application → Machine → ℕ → Type 0
IsLeaving app k task = (object : ℕ) × (access : Access ℕ) × IsInPhase app k task object access Leave
