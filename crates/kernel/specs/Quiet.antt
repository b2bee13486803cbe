-- Steps in which nothing happens but that a tick passes.
use Rattle.std.specs.Prelude.{◌≡◌, ◌≢◌, ◌⊎◌, ◌<◌, ◌≤◌, ℕ, ◌+◌, ◌^◌, ◌%◌, true, false, List, [], Option, Some, None, slice_set}
use Rattle.model.specs.declared.op.Op.TheVariants.{Work}
use Rattle.std.specs.List.{list_any}
use Rattle.model.specs.Application.{Application, Definition, Limits, interrupts_at, is_any_awaited, op_at}
use Rattle.model.specs.State.{Progress}
use Rattle.lists.specs.Lists.{Each}
use Rattle.sched.specs.Schedule.{is_ready, is_steady}
use Rattle.clock.specs.Timeline.{Advances}
use Rattle.machine.specs.declared.machine.Machine.{Machine}
use Rattle.machine.specs.Arrivals.{arrival_in, soonest}
use Rattle.machine.specs.StandsFor.{progress_in}
use Rattle.machine.specs.Can.{NonePends}
use Rattle.kernel.specs.Blocked.{IsSomebodyBlocked}
use Rattle.kernel.specs.Left.{IsAnyLeft}

-- Idle goes on: somebody sleeps; or a handler is raised, and some task waits or is suspended.
abbrev pub IdleGoesOn : Machine → Type 0
IdleGoesOn k = (k.clock.delayed_list ≢ []) ⊎ ((soonest k.sources.arrivals ≢ None) × IsSomebodyBlocked k)

-- The running task has more than this much of a `work` before it; or idle goes on, and lets one tick pass in a step.
abbrev pub WorksOn : Application → ℕ → Machine → Option ℕ → Type 0
WorksOn app count k None = IdleGoesOn k × (app.tickless ≡ false)
WorksOn app count k (Some task) =
    (is_ready k.sched task ≡ true) × ((progress_in k.progress task).used + count < 2 ^ 32)
    × (ticks : ℕ) × (op_at app task (progress_in k.progress task).op_index ≡ Some (Work ticks))
    × ((progress_in k.progress task).used + count < ticks)

-- This many steps only let a tick pass, each before the end under these limits: nobody's sleep ends, the tick that is shown
-- doesn't become 0, no base interrupt and no raised handler comes, and nothing switches.
pub record IsQuiet (app : Application) (limits : Limits) (count : ℕ) (k : Machine) : Type 0 where
  pub stopped : k.stopped ≡ None
  pub none : NonePends k
  pub depth : k.sched.depth ≡ 0
  pub pending : k.sched.pending ≡ []
  pub steady : is_steady k.sched ≡ true
  pub asleep : Each (λ e. k.clock.now + count < e.1) k.clock.delayed_list
  pub turn : k.clock.now % 2 ^ 32 + count < 2 ^ 32
  pub interrupts : (tick : ℕ) → k.clock.age + k.clock.held < tick
      → tick ≤ k.clock.age + k.clock.held + count → interrupts_at app tick ≡ []
  pub raised : (source tick : ℕ) → k.clock.age + k.clock.held < tick
      → tick ≤ k.clock.age + k.clock.held + count → (arrival_in k.sources.arrivals source).raised ≢ Some tick
  pub ticks : k.clock.age + k.clock.held + count ≤ limits.ticks
  pub steps : k.steps + count ≤ limits.steps
  pub works : WorksOn app count k k.sched.current
  -- and it isn't over
  pub left : list_any (λ (d : Definition). d.endless) app.tasks ≡ true → is_any_awaited app ≡ true → IsAnyLeft app k

-- one more of its `work` is used up by the running task, if there is one
abbrev pub used_by : Option ℕ → List Progress → List Progress
used_by None ps = ps
used_by (Some task) ps = slice_set ps task (record (progress_in ps task) { used = (progress_in ps task).used + 1 })

-- One such step is done.
pub record Passes (old new : Machine) : Type 0 where
  pub clock : Advances old.clock new.clock []
  pub same : new ≡ record old { clock = new.clock; steps = old.steps + 1; progress = used_by old.sched.current old.progress }
