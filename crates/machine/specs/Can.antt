-- What a deed of the kernel asks of it: that the numbers of the code suffice, and that the parts agree.
use Rattle.std.specs.Prelude.{◌≡◌, ◌≢◌, ◌<◌, ◌≤◌, ℕ, ◌+◌, ◌^◌, true, false, List, [], ◌∷◌, Option, Some, None, IfSome, length}
use Rattle.std.specs.List.{AllByRecursion}
use Rattle.model.specs.declared.op.Access.{Access}
use Rattle.model.specs.declared.plan.Injection.{Injection}
use Rattle.model.specs.Application.{Application, Limits}
use Rattle.model.specs.State.{State, status_at}
use Rattle.model.specs.Suspension.{can_resume}
use Rattle.model.specs.Run.{end_of, state_after}
use Rattle.lists.specs.Lists.{Each}
use Rattle.sched.specs.Schedule.{Schedule, is_ready}
use Rattle.objects.specs.Objects as objects
use Rattle.machine.specs.declared.machine.Machine.{Machine}
use Rattle.machine.specs.Sources.{is_pending}
use Rattle.machine.specs.StandsFor.{StandsFor, Stands, progress_in}

-- The parts of the kernel agree: it represents some state, in which each task is in its lists.
abbrev pub Agrees : Machine → Type 0
Agrees k = (s : State) × StandsFor k s

-- It represents some state, in which a task may be still to be placed.
abbrev pub StandsForSome : Machine → Type 0
StandsForSome k = (s : State) × Stands k s

-- The task is the running one, and Ready; it is at one of 256 ops at most.
pub record Runs (k : Machine) (task : ℕ) : Type 0 where
  pub current : k.sched.current ≡ Some task
  pub ready : is_ready k.sched task ≡ true
  pub op_index : (progress_in k.progress task).op_index < 256

-- The object is there, and has room for what the call puts in, if nothing is in it.
abbrev pub HasRoom : Machine → ℕ → Access ℕ → Type 0
HasRoom k object access = objects.HasRoom k.objects object access

-- The time can rise by a tick.
pub record CanAdvance (k : Machine) : Type 0 where
  pub agrees : Agrees k
  pub free : k.objects.lock ≡ None
  pub age : k.clock.age < 2 ^ 62
  pub depth : k.sched.depth ≡ 0

-- It can rise by this many at once: before the last of them nobody's wake time comes.
pub record CanJump (ticks : ℕ) (k : Machine) : Type 0 where
  pub advance : CanAdvance k
  pub soon : Each (λ e. k.clock.now + ticks ≤ e.1) k.clock.delayed_list

-- No interrupt is pending.
abbrev pub NonePends : Machine → Type 0
NonePends k = (source : ℕ) → is_pending k.sources source ≡ false

-- The task is the running one, and each task is in its lists.
pub record IsInCall (k : Machine) (task : ℕ) : Type 0 where
  pub current : k.sched.current ≡ Some task
  pub agrees : Agrees k

-- A deadline, if there is one, is in the future, less than 2^32 ticks away.
abbrev pub IsAhead : ℕ → Option ℕ → Type 0
IsAhead now deadline = IfSome deadline (λ time. (now < time) × (time < now + 2 ^ 32))

-- A run with this many steps done is under way: the kernel represents the state after them, and none of them came after
-- the end.
pub record IsUnderWay (app : Application) (plan : List Injection) (limits : Limits) (k : Machine) : Type 0 where
  pub stands : Stands k (state_after app limits plan k.steps)
  pub goes_on : (n : ℕ) → n < k.steps → end_of app limits (state_after app limits plan n) ≡ None

-- What a call leaves as it is: how often the scheduler is held, and which objects have room for what a call puts in.
pub record Leaves (old new : Machine) : Type 0 where
  pub depth : new.sched.depth ≡ old.sched.depth
  pub objects : (object : ℕ) (access : Access ℕ) → HasRoom old object access → HasRoom new object access

-- These tasks are there, and none is suspended.
abbrev pub AreThere : State → List ℕ → Type 0
AreThere s tasks = AllByRecursion (λ task. (task < length s.tasks) × (can_resume (status_at s task) ≡ false)) tasks

-- These tasks can become Ready: none is so already, and none comes twice.
abbrev pub AreToWake : Schedule → List ℕ → Type 0
AreToWake v [] = Unit {0}
AreToWake v (task ∷ tasks) = (is_ready v task ≡ false) × AllByRecursion (λ other. other ≢ task) tasks × AreToWake v tasks
