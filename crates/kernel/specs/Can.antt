-- What a step asks of the kernel: that the running task can do its op, and idle let a tick pass.
use Rattle.std.specs.Prelude.{◌≡◌, ◌<◌, ◌≤◌, ◌+◌, ◌^◌, ℕ, false, List, Option, Some, None, if◌then◌else◌}
use Rattle.model.specs.declared.op.Op.{Op}
use Rattle.model.specs.declared.op.Access.TheVariants.{Receive}
use Rattle.model.specs.declared.op.Op.TheVariants.{Await, AwaitNotification, SetBits, WaitBits, NextCommand, Obey}
use Rattle.model.specs.declared.ids.TaskId.{TaskId}
use Rattle.model.specs.Application.{Application, Limits, op_at}
use Rattle.model.specs.Scripts.{AreLimits}
use Rattle.model.specs.State.{State}
use Rattle.model.specs.Values.{with_number}
use Rattle.model.specs.Handlers.{is_tick}
use Rattle.model.specs.Run.{end_of}
use Rattle.model.specs.Switching.{is_critical}
use Rattle.model.specs.Invariant.{IsState}
use Rattle.machine.specs.declared.machine.Machine.{Machine}
use Rattle.machine.specs.StandsFor.{Stands, progress_in}
use Rattle.ops.specs.Can.{CanTick, Can, CanGoOn, CanSetBits, CanAwaitEvent, CanHold}

-- The running task can do what its op is to do next.
abbrev pub CanOp : Application → Machine → ℕ → Op → Type 0
CanOp app k task (Await object access ticks) =
    (variables : List ℕ) (answer : Option ℕ)
    → CanGoOn k task object (with_number variables answer access) ticks (progress_in k.progress task).call.phase
CanOp app k task (SetBits group mask) = CanSetBits k task (progress_in k.progress task).call.phase
CanOp app k task (WaitBits group condition ticks) = CanAwaitEvent k task ticks (progress_in k.progress task).call.phase
CanOp app k task (AwaitNotification wait ticks) = CanAwaitEvent k task ticks (progress_in k.progress task).call.phase
CanOp app k task (NextCommand queue) = CanGoOn k task queue Receive None (progress_in k.progress task).call.phase
CanOp app k task Obey = CanSetBits k task (progress_in k.progress task).call.phase
CanOp app k task op = Can app k task op

-- Idle can let ticks pass, all up to the limit if need be.
pub record CanIdle (app : Application) (limits : Limits) (k : Machine) : Type 0 where
  pub tick : CanTick app k
  pub early : k.clock.age + k.clock.held < 2 ^ 61
  pub limit : limits.ticks < 2 ^ 61

-- The running task can do its op, and idle can let ticks pass.
pub record CanAct (app : Application) (limits : Limits) (k : Machine) : Type 0 where
  pub idle : k.sched.current ≡ None → CanIdle app limits k
  pub op : (task : TaskId) (op : Op) → k.sched.current ≡ Some task → op_at app task (progress_in k.progress task).op_index ≡ Some op
      → (k.sched.suspensions ≡ 0 → CanOp app k task op) × (0 < k.sched.suspensions → CanHold app k task op)

-- no more ticks than this have come before an op: the most that the limit may be, and those that are injected
abbrev pub most_elapsed : ℕ
most_elapsed = 281474976710676

-- how many events an interrupt that comes reports at most: a handler one for each of its ops, and the tick those of the handlers of
-- four base interrupts; and each one for a switch
abbrev pub room_for : Application → ℕ → ℕ
room_for app source = if is_tick app source then 337 else 17

-- The kernel represents a sound state, whichever interrupts have led to it, which isn't at an end under these limits.
pub record CanStep (app : Application) (limits : Limits) (k : Machine) : Type 0 where
  pub state : State
  pub stands : Stands k state
  pub sound : IsState app state
  -- in each step a task has come to hold the scheduler once more at most
  pub suspended : state.suspensions + state.sections ≤ state.steps
  pub are : AreLimits limits.ticks limits.steps
  pub goes_on : end_of app limits state ≡ None

-- Interrupts can come, of which this many may be ticks: the kernel represents a sound state in which no critical section is open.
pub record CanCome (app : Application) (ticks : ℕ) (k : Machine) : Type 0 where
  pub state : State
  pub stands : Stands k state
  pub sound : IsState app state
  pub closed : is_critical state ≡ false
  pub early : state.elapsed + ticks ≤ most_elapsed

-- So it is under some limits.
abbrev pub CanStepUnderSome : Application → Machine → Type 0
CanStepUnderSome app k = (limits : Limits) × CanStep app limits k
