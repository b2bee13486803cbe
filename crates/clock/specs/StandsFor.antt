-- What a clock's timeline represents: the time and the sleepers of a state of the definitions, whose tickets it does not
-- have.
use Rattle.std.specs.Prelude.{◌≡◌, ℕ, ◌+◌, ◌-◌, ◌==◌, false, List, [], ◌∷◌, ◌++◌, Option, Some, None, filter}
use Rattle.model.specs.State.{State}
use Rattle.model.specs.Order.{tasks_of}
use Rattle.model.specs.Time.{due}
use Rattle.model.specs.Invariant.{IsTable}
use Rattle.lists.specs.Lists.{EachOnce, IsSorted}
use Rattle.clock.specs.Timeline.{Timeline, is_asleep}
use Rattle.task_lists.specs.Tasks.{tasks_in}

-- the tasks that sleep until this time, in order
abbrev pub tasks_at : ℕ → List (ℕ × ℕ) → List ℕ
tasks_at time delayed_list = tasks_in (filter (λ e. e.1 == time) delayed_list)

-- the state at another time
abbrev pub at_time : State → ℕ → State
at_time s time = record s { time = time }

-- the state when this many ticks have come that aren't held, before anyone wakes
abbrev pub at_jump : ℕ → State → State
at_jump ticks s = record s { time = s.time + ticks; elapsed = s.elapsed + ticks }

-- the state when one has
abbrev pub at_next_tick : State → State
at_next_tick s = at_jump 1 s

-- the state before the last of the held ticks came
abbrev pub before_held : State → State
before_held s = record s { elapsed = s.elapsed - 1; held_ticks = s.held_ticks - 1 }

-- Who sleeps until some time are those that are due when it comes, in the order in which they began.
pub record StandsFor (t : Timeline) (s : State) : Type 0 where
  pub now : t.now ≡ s.time
  pub age : t.age + t.held ≡ s.elapsed
  pub held : t.held ≡ s.held_ticks
  pub sorted : IsSorted t.delayed_list
  pub once : EachOnce t.delayed_list
  pub delayed : (time : ℕ) → tasks_at time t.delayed_list ≡ tasks_of (due (at_time s time))
  pub table : IsTable s

-- ---- a task that waits, and has still to be placed

-- a task with the time until which it waits, if there is one
abbrev pub with_deadline : ℕ → Option ℕ → List (ℕ × ℕ)
with_deadline task None = []
with_deadline task (Some time) = (task, time) ∷ []

-- The same, but that this task, which waits until this time already, is to be put among the sleepers: it began last.
pub record StandsBefore (task : ℕ) (deadline : Option ℕ) (t : Timeline) (s : State) : Type 0 where
  pub now : t.now ≡ s.time
  pub age : t.age + t.held ≡ s.elapsed
  pub held : t.held ≡ s.held_ticks
  pub sorted : IsSorted t.delayed_list
  pub once : EachOnce t.delayed_list
  pub delayed : (time : ℕ)
      → tasks_at time t.delayed_list ++ tasks_at time (with_deadline task deadline) ≡ tasks_of (due (at_time s time))
  pub awake : is_asleep t task ≡ false
  pub table : IsTable s
