-- What a kernel is while the end state of a run is looked up in it.
use Rattle.std.specs.Prelude.{◌≡◌, ℕ, false, ◌++◌, None, length}
use Rattle.model.specs.Application.{Application}
use Rattle.model.specs.State.{State, progress_at, status_at}
use Rattle.task_lists.specs.Tasks.{is_among}
use Rattle.sched.specs.StandsFor as sched
use Rattle.clock.specs.StandsFor as clock
use Rattle.groups.specs.StandsFor as groups
use Rattle.objects.specs.declared.waiting_lists.Unlocked.{Unlocked}
use Rattle.objects.specs.Objects.{Objects}
use Rattle.objects.specs.Objects as objects
use Rattle.objects.specs.WaitersStand.{is_awake}
use Rattle.machine.specs.declared.machine.Machine.{Machine}
use Rattle.machine.specs.StandsFor.{StandsFor, progress_in}
use Rattle.model.specs.EndStates.{end_state_of}

-- The kernel represents a state of the application, in which each task is in its lists, and what is reported of it is what is
-- reported of this one.
pub record Settles (app : Application) (k : Machine) (s : State) : Type 0 where
  pub state : State
  pub stands : StandsFor k state
  pub tasks : length state.tasks ≡ length app.tasks
  pub objects : length state.objects ≡ length app.objects
  pub same : end_state_of state ≡ end_state_of s

-- The Awake tasks are these, and the objects represent a state in which each of the others is doing what it did.
pub record IsOpened (v : Objects) (awake : Unlocked) (s : State) : Type 0 where
  pub woken : (task : ℕ) → is_among task (awake.to_receive.items ++ awake.to_send.items) ≡ is_awake s task
  pub opened : State
  pub stands : objects.StandsFor v None opened
  pub others : (task : ℕ) → is_awake s task ≡ false → status_at opened task ≡ status_at s task

-- The kernel represents the state, except that these, the Awake tasks, were taken out of the waiting lists.
pub record StandsOpened (k : Machine) (awake : Unlocked) (s : State) : Type 0 where
  pub sched : sched.StandsFor k.sched s
  pub clock : clock.StandsFor k.clock s
  pub groups : groups.StandsFor k.groups s
  pub objects : IsOpened k.objects awake s
  pub progress : (task : ℕ) → progress_in k.progress task ≡ progress_at s task
