-- What a kernel represents: a state of the definitions, whose tickets it doesn't have.
use Rattle.std.specs.Prelude.{◌≡◌, ◌≢◌, ℕ, ◌+◌, ◌-◌, ◌≤◌, true, List, [], ◌∷◌, Option, Some, None, length, slice_index_or}
use Rattle.std.specs.Prelude.{slice_set}
use Rattle.std.specs.Prelude.{if◌then◌else◌}
use Rattle.model.specs.declared.call.Phase.TheVariants.{Place}
use Rattle.model.specs.declared.call.WaitList.{WaitList}
use Rattle.model.specs.declared.event.Event.{Event}
use Rattle.model.specs.declared.event.What.TheVariants as what
use Rattle.model.specs.declared.notification.Notification.{Notification}
use Rattle.model.specs.State.{State, Progress, Source, no_progress, no_source, no_notification, task_at, progress_at, call_at}
use Rattle.model.specs.State.{printed}
use Rattle.model.specs.Switching.{is_same}
use Rattle.sched.specs.StandsFor as sched
use Rattle.clock.specs.StandsFor as clock
use Rattle.objects.specs.WaitersStand.{Decider, AtLocked}
use Rattle.objects.specs.Objects as objects
use Rattle.groups.specs.StandsFor as groups
use Rattle.machine.specs.declared.machine.Machine.{Machine}
use Rattle.machine.specs.Logged.{Logged}
use Rattle.machine.specs.Sources.{Sources, source_from, source_in}

-- the progress that the kernel keeps of this task
abbrev pub progress_in : List Progress → ℕ → Progress
progress_in ps task = slice_index_or ps task no_progress

-- that of no task from this one on is more than at reset
abbrev pub AreBlankFrom : ℕ → List Progress → Type 0
AreBlankFrom tasks ps = (task : ℕ) → tasks ≤ task → progress_in ps task ≡ no_progress

-- the notification that the kernel keeps of this task
abbrev pub notification_in : List Notification → ℕ → Notification
notification_in ns task = slice_index_or ns task no_notification

-- Those of the tasks are these.
pub record AreNotifications (kept : List Notification) (notifications : ℕ → Notification) : Type 0 where
  pub same : (task : ℕ) → notification_in kept task ≡ notifications task
  pub full : length kept ≡ 32

-- how many of the elapsed ticks aren't held
abbrev pub released_ticks : State → ℕ
released_ticks s = s.elapsed - s.held_ticks

-- It keeps these sources after so many ticks, in 17 places. Since when a source can come doesn't matter.
pub record AreSources (elapsed : ℕ) (kept : Sources) (sources : List Source) : Type 0 where
  pub number : kept.number ≡ length sources
  pub same : (source : ℕ) → source_from elapsed (source_in kept source)
      ≡ source_from elapsed (slice_index_or sources source no_source)
  pub full : (length kept.pending ≡ 17) × (length kept.arrivals ≡ 17)
  pub few : length sources ≤ 17

-- all but the scheduler, if no task has begun to wait without being in its lists yet
pub record RestStandsFor (k : Machine) (s : State) : Type 0 where
  pub progress : (task : ℕ) → progress_in k.progress task ≡ progress_at s task
  pub full : length k.progress ≡ 32
  pub clock : clock.StandsFor k.clock s
  pub objects : objects.StandsFor k.objects None s
  pub groups : groups.StandsFor k.groups s
  pub awake : AtLocked None s
  pub notifications : AreNotifications k.notifications s.notifications
  pub variables : k.variables ≡ s.variables
  pub sources : AreSources (released_ticks s) k.sources s.sources
  pub sections : k.sections ≡ s.sections
  pub steps : k.steps ≡ s.steps
  pub stopped : k.stopped ≡ s.stopped
  pub placed : (task : ℕ) → (progress_in k.progress task).call.phase ≢ Place

-- Each task's place in its script is kept as it is. The scheduler represents which tasks are Ready, which one runs and what holds
-- it, and the clock the time and which task wakes when. The objects represent what they hold, which tasks wait at them, and which
-- one is locked, and the groups their bits, and which tasks wait for them or for a notification. Beside them the notifications,
-- the variables and the interrupt sources are kept, and how many critical sections are open.
pub record StandsFor (k : Machine) (s : State) : Type 0 where
  pub sched : sched.StandsFor k.sched s
  pub rest : RestStandsFor k s

-- what the objects have still to place: the task, with the priority that it has
abbrev pub decider : ℕ → WaitList → State → Decider
decider task list s = record { task = task; list = list; priority = (task_at s task).priority }

-- The same, except that the running task has begun to wait in this list, and is not placed yet. It is still among
-- the scheduler's Ready tasks, and neither in its waiting list nor among the tasks that wake by themselves.
pub record StandsBefore (task : ℕ) (list : WaitList) (k : Machine) (s : State) : Type 0 where
  pub sched : sched.StandsBefore task k.sched s
  pub clock : clock.StandsBefore task (call_at s task).deadline k.clock s
  pub objects : objects.StandsFor k.objects (Some (decider task list s)) s
  pub groups : groups.StandsFor k.groups s
  pub awake : AtLocked (Some (decider task list s)) s
  pub progress : (other : ℕ) → progress_in k.progress other ≡ progress_at s other
  pub full : length k.progress ≡ 32
  pub notifications : AreNotifications k.notifications s.notifications
  pub variables : k.variables ≡ s.variables
  pub sources : AreSources (released_ticks s) k.sources s.sources
  pub sections : k.sections ≡ s.sections
  pub steps : k.steps ≡ s.steps
  pub stopped : k.stopped ≡ s.stopped
  pub current : s.current ≡ Some task
  pub held : s.call_hold ≡ true
  pub phase : (call_at s task).phase ≡ Place
  pub wait_list : k.wait_list ≡ list
  pub placed : (other : ℕ) → other ≢ task → (progress_in k.progress other).call.phase ≢ Place

-- The kernel represents the state, in which each task is in its lists, or one is still to be placed there.
pub data Stands (k : Machine) (s : State) : Type 0 where
  Placed : StandsFor k s → Stands k s
  Placing : (task : ℕ) → (list : WaitList) → StandsBefore task list k s → Stands k s

-- It represents the state, and the step has reported these events so far.
pub record At (k : Machine) (told : List Event) (s : State) : Type 0 where
  pub stands : StandsFor k s
  pub log : told ≡ s.log

-- the same, but a task may not be placed yet
pub record AtAny (k : Machine) (told : List Event) (s : State) : Type 0 where
  pub stands : Stands k s
  pub log : told ≡ s.log

-- The deed is done: for every state that the old kernel represents, the new one represents what the deed makes of it. At
-- most this many events are reported, and each takes room of the log. The events before this step stay.
pub record Does (count : ℕ) (old : Machine) (old_log : Logged)
    (new : Machine) (new_log : Logged) (deed : State → State) : Type 0 where
  pub at : (s : State) → At old old_log.told s → At new new_log.told (deed s)
  pub few : old_log.room ≤ new_log.room + count
  pub before : new_log.before ≡ old_log.before

-- the same, but a task may not be placed yet, before the deed or after it
pub record DoesAny (count : ℕ) (old : Machine) (old_log : Logged)
    (new : Machine) (new_log : Logged) (deed : State → State) : Type 0 where
  pub at : (s : State) → AtAny old old_log.told s → AtAny new new_log.told (deed s)
  pub few : old_log.room ≤ new_log.room + count
  pub before : new_log.before ≡ old_log.before

-- the same of a deed that reports nothing
abbrev pub Moves : Machine → Machine → (State → State) → Type 0
Moves old new deed = (log : List Event) (s : State) → At old log s → At new log (deed s)

abbrev pub MovesAny : Machine → Machine → (State → State) → Type 0
MovesAny old new deed = (log : List Event) (s : State) → AtAny old log s → AtAny new log (deed s)

-- the event that says which task runs now, if that is a change
abbrev pub change : ℕ → ℕ → Option ℕ → Option ℕ → List Event
change step time before now =
    if is_same now before then [] else record { step = step; tick = printed time; what = what.Run now } ∷ []

-- The kernel keeps this as the task's progress.
abbrev pub with_progress : ℕ → Progress → Machine → Machine
with_progress task p k = record k { progress = slice_set k.progress task p }

-- Another progress of the task is kept, and all else is as it was.
abbrev pub IsPlaced : Machine → Machine → ℕ → Type 0
IsPlaced old new task = (p : Progress) × (new ≡ with_progress task p old)
