-- What a schedule represents: a state of the definitions, whose tickets it does not have.
use Rattle.std.specs.Prelude.{◌≡◌, ℕ, ◌+◌, true, false, if◌then◌else◌}
use Rattle.model.specs.State.{State, status_at, task_at}
use Rattle.model.specs.Switching.{is_held, ready_list}
use Rattle.model.specs.Suspension.{can_resume}
use Rattle.model.specs.Invariant.{IsTable}
use Rattle.lists.specs.Lists.{has_node, without}
use Rattle.task_lists.specs.Priorities.{with_priorities}
use Rattle.sched.specs.Schedule.{Schedule, is_suspended, lined_up, priority_in}

-- how often tasks hold the scheduler in a state: by `suspend_all`, and by critical sections, which are alike for a schedule
abbrev pub task_holds_of : State → ℕ
task_holds_of s = s.suspensions + s.sections

-- how often it is held: by tasks, and by a call
abbrev pub depth_of : State → ℕ
depth_of s = task_holds_of s + (if s.call_hold then 1 else 0)

-- The schedule's Ready tasks, once the pending ones are lined up, are those of the ready list in order. The same
-- task runs, the priorities and the base priorities are the tasks', the same tasks are suspended, and the scheduler
-- is held as often, and as often by tasks.
pub record StandsFor (v : Schedule) (s : State) : Type 0 where
  pub ready : lined_up v ≡ with_priorities (ready_list s)
  pub current : v.current ≡ s.current
  pub priorities : (task : ℕ) → priority_in v.priorities task ≡ (task_at s task).priority
  pub base_priorities : (task : ℕ) → priority_in v.base_priorities task ≡ (task_at s task).base_priority
  pub depth : v.depth ≡ depth_of s
  pub suspensions : v.suspensions ≡ task_holds_of s
  pub suspended : (task : ℕ) → is_suspended v task ≡ can_resume (status_at s task)
  pub table : IsTable s

-- The same, but that this task, which waits already, has still to leave its ready list.
pub record StandsBefore (task : ℕ) (v : Schedule) (s : State) : Type 0 where
  pub ready : without task (lined_up v) ≡ with_priorities (ready_list s)
  pub still : has_node task v.ready ≡ true
  pub current : v.current ≡ s.current
  pub priorities : (other : ℕ) → priority_in v.priorities other ≡ (task_at s other).priority
  pub base_priorities : (other : ℕ) → priority_in v.base_priorities other ≡ (task_at s other).base_priority
  pub depth : v.depth ≡ depth_of s
  pub suspensions : v.suspensions ≡ task_holds_of s
  pub suspended : (other : ℕ) → is_suspended v other ≡ can_resume (status_at s other)
  pub table : IsTable s

-- For every state that the old schedule represents, and in which the scheduler isn't held, the new one represents what the
-- deed makes of it.
abbrev pub DoesFree : Schedule → Schedule → (State → State) → Type 0
DoesFree old new deed = (s : State) → StandsFor old s → is_held s ≡ false → StandsFor new (deed s)
