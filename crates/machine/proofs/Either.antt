-- What holds of a kernel whether or not a task is still to be placed.
use Rattle.std.proofs.Common.{false, ◌+◌, ◌≡◌, ◌∙◌, ◌≤◌, ℕ, List, refl, ap, sym, arith}
use Rattle.model.specs.declared.call.WaitList.{WaitList}
use Rattle.model.specs.declared.event.Event.{Event}
use Rattle.model.specs.State.{State, Progress, progress_at}
use Rattle.model.specs.Switching.{is_held_by_task}
use Rattle.machine.specs.declared.machine.Machine.{Machine}
use Rattle.sched.specs.StandsFor.{task_holds_of}
use Rattle.sched.proofs.Standing as on_sched
use Rattle.sched.proofs.Standing.{none_suspends}
use Rattle.machine.specs.StandsFor.{AreNotifications, AreSources, StandsBefore, Stands, At, AtAny, Does, DoesAny, Moves}
use Rattle.machine.specs.StandsFor.{progress_in, released_ticks}
use Rattle.machine.specs.Logged.{Logged}
use Rattle.machine.specs.Can.{Agrees}
use Rattle.machine.specs.StandsFor.Stands.{Placed, Placing}

-- Even if each task is in its lists, the weaker form holds, in which one may not be placed yet.
pub any : (k : Machine) (log : List Event) (s : State) → At k log s → AtAny k log s
any k log s h = record { stands = Placed h.stands; log = h.log }

-- A task is still to be placed, or none is.
pub either : {Q : Type 0} → (k : Machine) (log : List Event) (s : State) → AtAny k log s
    → (At k log s → Q) → ((task : ℕ) (list : WaitList) → StandsBefore task list k s → Q) → Q
either {Q} k log s h placed placing = by_stands h.stands where
  by_stands : Stands k s → Q
  by_stands (Placed p) = placed (record { stands = p; log = h.log })
  by_stands (Placing task list b) = placing task list b

module _ (k : Machine) (s : State) where
  pub steps_are : Stands k s → k.steps ≡ s.steps
  steps_are (Placed h) = h.rest.steps
  steps_are (Placing task list b) = b.steps

  pub stopped_is : Stands k s → k.stopped ≡ s.stopped
  stopped_is (Placed h) = h.rest.stopped
  stopped_is (Placing task list b) = b.stopped

  pub held_is : Stands k s → k.clock.held ≡ s.held_ticks
  held_is (Placed h) = h.rest.clock.held
  held_is (Placing task list b) = b.clock.held

  pub elapsed_is : Stands k s → k.clock.age + k.clock.held ≡ s.elapsed
  elapsed_is (Placed h) = h.rest.clock.age
  elapsed_is (Placing task list b) = b.clock.age

  pub suspensions_are : Stands k s → k.sched.suspensions ≡ task_holds_of s
  suspensions_are (Placed h) = h.sched.suspensions
  suspensions_are (Placing task list b) = b.sched.suspensions

  -- If no task holds the scheduler, no `suspend_all` is active.
  pub none_in_force : Stands k s → k.sched.suspensions ≡ 0 → s.suspensions ≡ 0
  none_in_force h none = none_suspends s (sym (suspensions_are h) ∙ none)

  -- and no critical section is open
  pub none_open : Stands k s → k.sched.suspensions ≡ 0 → s.sections ≡ 0
  none_open h none = on_sched.none_open s (sym (suspensions_are h) ∙ none)

  -- so none holds it in the state
  pub not_by_task : Stands k s → k.sched.suspensions ≡ 0 → is_held_by_task s ≡ false
  not_by_task h none = rw (none_in_force h none, none_open h none) refl

  pub sections_are : Stands k s → k.sections ≡ s.sections
  sections_are (Placed h) = h.rest.sections
  sections_are (Placing task list b) = b.sections

  pub variables_are : Stands k s → k.variables ≡ s.variables
  variables_are (Placed h) = h.rest.variables
  variables_are (Placing task list b) = b.variables

  pub notifications_are : Stands k s → AreNotifications k.notifications s.notifications
  notifications_are (Placed h) = h.rest.notifications
  notifications_are (Placing task list b) = b.notifications

  pub released_is : Stands k s → k.clock.age ≡ released_ticks s
  released_is (Placed h) = let age = h.rest.clock.age in let held = h.rest.clock.held in omega (arith, age, held)
  released_is (Placing task list b) = let age = b.clock.age in let held = b.clock.held in omega (arith, age, held)

  pub sources_are : Stands k s → AreSources (released_ticks s) k.sources s.sources
  sources_are (Placed h) = h.rest.sources
  sources_are (Placing task list b) = b.sources

  pub now_is : Stands k s → k.clock.now ≡ s.time
  now_is (Placed h) = h.rest.clock.now
  now_is (Placing task list b) = b.clock.now

  pub current_is : Stands k s → k.sched.current ≡ s.current
  current_is (Placed h) = h.sched.current
  current_is (Placing task list b) = b.sched.current

  pub progress_is : Stands k s → (task : ℕ) → progress_in k.progress task ≡ progress_at s task
  progress_is (Placed h) = h.rest.progress
  progress_is (Placing task list b) = b.progress

-- If the parts agree, each task is placed.
pub all_placed : (k : Machine) → Agrees k → (log : List Event) (s : State) → AtAny k log s → At k log s
all_placed k a log s h =
    either k log s h (λ p. p)
    (λ task list b. absurd (a.1.rest.placed task (ap (λ (p : Progress). p.call.phase) (b.progress task) ∙ b.phase)))

-- A deed that leaves each task in its lists
pub does_any : (count : ℕ) (old new : Machine) (old_log new_log : Logged) (deed : State → State)
    → Agrees old → Does count old old_log new new_log deed → DoesAny count old old_log new new_log deed
does_any count old new old_log new_log deed a d = record {
  at = λ s h. any new new_log.told (deed s) (d.at s (all_placed old a old_log.told s h));
  few = d.few;
  before = d.before;
}

-- or reports fewer events than it may
pub does_more : (count more : ℕ) (old new : Machine) (old_log new_log : Logged) (deed : State → State)
    → count ≤ more → DoesAny count old old_log new new_log deed → DoesAny more old old_log new new_log deed
does_more count more old new old_log new_log deed l d = record { at = d.at; few = let f = d.few in omega arith; before = d.before }

pub moves_any : (count : ℕ) (old new : Machine) (log : Logged) (deed : State → State)
    → Agrees old → Moves old new deed → DoesAny count old log new log deed
moves_any count old new log deed a d = record {
  at = λ s h. any new log.told (deed s) (d log.told s (all_placed old a log.told s h));
  few = omega arith;
  before = refl;
}
