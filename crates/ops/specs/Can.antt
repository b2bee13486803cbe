-- What a deed of the kernel asks of it: that the numbers of the code suffice, and that the parts agree.
use Rattle.std.specs.Prelude.{◌≡◌, ◌<◌, ◌≤◌, ℕ, ◌+◌, ◌^◌, true, List, Option, Some, None, IfSome, length}
use Rattle.model.specs.declared.op.Access.{Access}
use Rattle.model.specs.declared.op.Access.TheVariants.{Send}
use Rattle.model.specs.declared.op.IsrOp.{IsrOp}
use Rattle.model.specs.declared.op.IsrOp.TheVariants as isr
use Rattle.model.specs.declared.op.Op.{Op}
use Rattle.model.specs.declared.op.Op.TheVariants.{Repeat, Do}
use Rattle.model.specs.declared.call.Phase.{Phase}
use Rattle.model.specs.declared.call.Phase.TheVariants.{Start, Try, Decide, Place, Unlock, Leave}
use Rattle.model.specs.declared.call.WaitList.{WaitList}
use Rattle.model.specs.Application.{Application, commands_of}
use Rattle.model.specs.Daemon.{item_of}
use Rattle.model.specs.Scripts.{fits_object}
use Rattle.model.specs.State.{State}
use Rattle.model.specs.Values.{with_number}
use Rattle.model.specs.Invariant.{IsUsedBy}
use Rattle.sched.specs.Schedule.{is_ready}
use Rattle.machine.specs.declared.machine.Machine.{Machine}
use Rattle.machine.specs.StandsFor.{StandsBefore, progress_in}
use Rattle.machine.specs.Can.{Agrees, Runs, HasRoom, CanAdvance, IsInCall, IsAhead}

-- The call is a handler's (none), or the running task's.
abbrev pub IsCaller : Machine → Option ℕ → Type 0
IsCaller k caller = IfSome caller (λ task. k.sched.current ≡ Some task)

-- There is room for one more loop.
abbrev pub HasLoopRoom : Op → ℕ → Type 0
HasLoopRoom (Repeat n) nesting = nesting < 4
HasLoopRoom _ nesting = Unit {0}

-- The op speaks of such an object, if of any, whatever its value is.
abbrev pub HasObject : Machine → Op → Type 0
HasObject k (Do object access) =
    (variables : List ℕ) (answer : Option ℕ) → HasRoom k object (with_number variables answer access)
HasObject k _ = Unit {0}

-- the same of an op of a handler; the bits of a command are the 24 of an event group
abbrev pub HasIsrObject : Application → Machine → IsrOp → Type 0
HasIsrObject app k (isr.Do object access) =
    (variables : List ℕ) (answer : Option ℕ) → HasRoom k object (with_number variables answer access)
HasIsrObject app k (isr.Command c) = HasRoom k (commands_of app) (Send (item_of c)) × (c.mask < 16777216)
HasIsrObject app k _ = Unit {0}

-- Each object on which the application may make a call has such room.
abbrev pub HasObjects : Application → Machine → Type 0
HasObjects app k = (object : ℕ) (access : Access ℕ) → fits_object app object access ≡ true → HasRoom k object access

-- The held ticks can be applied.
pub record CanApply (k : Machine) : Type 0 where
  pub agrees : Agrees k
  pub free : k.objects.lock ≡ None
  pub age : k.clock.age + k.clock.held < 2 ^ 62
  pub depth : k.sched.depth ≡ 0

-- A tick interrupt can come.
pub record CanTick (app : Application) (k : Machine) : Type 0 where
  pub advance : CanAdvance k
  pub depth : k.sched.depth ≡ 0
  pub objects : HasObjects app k

-- The task runs and can do this op, which is none that waits.
pub record Can (app : Application) (k : Machine) (task : ℕ) (op : Op) : Type 0 where
  pub runs : Runs k task
  pub tick : CanTick app k
  pub used : IsUsedBy (progress_in k.progress task).used (Some op)
  pub nesting : HasLoopRoom op (length (progress_in k.progress task).loops)
  pub object : HasObject k op
  pub previous_wake : (progress_in k.progress task).previous_wake ≤ k.clock.now
  pub stamp : (progress_in k.progress task).stamp ≤ k.clock.now
  pub time : k.clock.now + 2 ^ 32 < 2 ^ 63

-- ---- a call that waits

-- The task runs, and can try its call.
pub record CanTry (k : Machine) (task object : ℕ) (access : Access ℕ) : Type 0 where
  pub runs : Runs k task
  pub agrees : Agrees k
  pub free : k.objects.lock ≡ None
  pub depth : k.sched.depth ≡ 0
  pub room : HasRoom k object access

-- Its call may wait for less than 2^32 ticks, or forever.
abbrev pub IsShort : Option ℕ → Type 0
IsShort ticks = IfSome ticks (λ n. n < 2 ^ 32)

-- It can decide: nothing is held.
pub record CanDecide (k : Machine) (task : ℕ) : Type 0 where
  pub runs : Runs k task
  pub agrees : Agrees k
  pub free : k.objects.lock ≡ None
  pub depth : k.sched.depth ≡ 0

-- It can be placed.
pub record CanPlace (k : Machine) (task : ℕ) : Type 0 where
  pub state : State
  pub list : WaitList
  pub stands : StandsBefore task list k state
  pub deadline : IsAhead k.clock.now (progress_in k.progress task).call.deadline

-- The hold can end.
pub record CanLeave (k : Machine) (task : ℕ) : Type 0 where
  pub call : IsInCall k task
  pub held : k.sched.depth ≡ 1
  pub awake : k.sched.suspensions ≡ 0
  -- and the ticks that came meanwhile can be applied
  pub free : k.objects.lock ≡ None
  pub age : k.clock.age + k.clock.held < 2 ^ 62

-- What the call can do next in this phase.
abbrev pub CanGoOn : Machine → ℕ → ℕ → Access ℕ → Option ℕ → Phase → Type 0
CanGoOn k task object access ticks Start = CanTry k task object access × IsShort ticks × (k.clock.now + 2 ^ 32 < 2 ^ 63)
CanGoOn k task object access ticks Try = CanTry k task object access
CanGoOn k task object access ticks Decide = CanDecide k task
CanGoOn k task object access ticks Place = CanPlace k task
CanGoOn k task object access ticks Unlock = IsInCall k task
CanGoOn k task object access ticks Leave = CanLeave k task

-- What a set of bits can do next in this phase.
abbrev pub CanSetBits : Machine → ℕ → Phase → Type 0
CanSetBits k task Start = CanDecide k task
CanSetBits k task _ = Runs k task × CanLeave k task

-- What a wait for bits or for a notification can do next in this phase.
abbrev pub CanAwaitEvent : Machine → ℕ → Option ℕ → Phase → Type 0
CanAwaitEvent k task ticks Start = CanDecide k task × IsShort ticks × (k.clock.now + 2 ^ 32 < 2 ^ 63)
CanAwaitEvent k task ticks Leave = CanLeave k task
CanAwaitEvent k task ticks _ = CanDecide k task

-- While a task holds the scheduler, by `suspend_all` or in a critical section, and no call does: the task runs and can do this
-- op, and one more of each of these and of the held ticks can be counted.
pub record CanHold (app : Application) (k : Machine) (task : ℕ) (op : Op) : Type 0 where
  pub runs : Runs k task
  pub agrees : Agrees k
  pub free : k.objects.lock ≡ None
  pub age : k.clock.age + k.clock.held < 2 ^ 62
  pub held : k.clock.held < 2 ^ 62
  pub suspensions : k.sched.suspensions < 4294967295
  pub depth : k.sched.depth ≡ k.sched.suspensions
  -- the critical sections that are open are among what holds it
  pub sections : k.sections ≤ k.sched.suspensions
  pub objects : HasObjects app k
  pub used : IsUsedBy (progress_in k.progress task).used (Some op)
  pub nesting : HasLoopRoom op (length (progress_in k.progress task).loops)
  pub stamp : (progress_in k.progress task).stamp ≤ k.clock.now

-- What another priority of a task leaves as it is: all but priorities, and the order in the ready lists.
pub record Reranks (old new : Machine) : Type 0 where
  pub depth : new.sched.depth ≡ old.sched.depth
  pub current : new.sched.current ≡ old.sched.current
  pub ready : (task : ℕ) → is_ready new.sched task ≡ is_ready old.sched task
  pub op_index : (task : ℕ) → (progress_in new.progress task).op_index ≡ (progress_in old.progress task).op_index
  pub clock : new.clock ≡ old.clock
  pub objects : new.objects ≡ old.objects
