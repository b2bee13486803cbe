-- What is true of every state that a run reaches, by the definitions alone.
use Rattle.std.specs.Prelude.{◌≡◌, ◌<◌, ◌≤◌, ℕ, ◌+◌, Bool, true, false, List, [], ◌∷◌, Option, Some, None, ◌⊎◌, length, drop}
use Rattle.std.specs.Prelude.{slice_get, IfSome}
use Rattle.std.specs.List.{AllByRecursion}
use Rattle.model.specs.declared.object.ObjectKind.{ObjectKind}
use Rattle.model.specs.declared.object.ObjectKind.TheVariants.{Queue, Semaphore}
use Rattle.model.specs.declared.block.Block.{Block}
use Rattle.model.specs.declared.block.Edge.{Edge}
use Rattle.model.specs.declared.op.Access.TheVariants.{Receive}
use Rattle.model.specs.declared.op.Op.{Op}
use Rattle.model.specs.declared.op.Op.TheVariants.{Work, Await, SetBits, WaitBits, AwaitNotification, NextCommand, Obey}
use Rattle.model.specs.declared.call.Phase.{Phase}
use Rattle.model.specs.declared.call.Phase.TheVariants.{Start, Try, Decide, Place, Unlock, Leave}
use Rattle.model.specs.declared.call.WaitList.{WaitList}
use Rattle.model.specs.declared.loops.Loop.{Loop}
use Rattle.model.specs.Application.{Application, script_of, op_at}
use Rattle.model.specs.Blocks.{Nests, edges_of, loops_in}
use Rattle.model.specs.Scripts.{priorities}
use Rattle.model.specs.State.{State, Task, Source, Progress, Object, Status, Wait, Waiting, Awake, Asleep, Suspended, Ended}
use Rattle.model.specs.State.{wait_if_awake}
use Rattle.model.specs.State.{ticket_of, task_at, status_at, progress_at, call_at, object_at}
use Rattle.model.specs.Switching.{is_ready, is_held, is_held_by_task, holds_ticks}
use Rattle.model.specs.Waiting.{is_locked}
use Rattle.model.specs.Objects.{list_for}

-- the wait of a task that is Waiting or Awake
abbrev pub wait_of : Status → Option Wait
wait_of (Waiting wait) = Some wait
wait_of (Awake wait) = Some wait
wait_of _ = None

-- The task's ticket, if it has one, is below the next.
abbrev pub HasTicketBelow : ℕ → Status → Type 0
HasTicketBelow next_ticket status = IfSome (ticket_of status) (λ ticket. ticket < next_ticket)

-- Every ticket that was taken is below the next one.
abbrev pub AllTicketsBelow : ℕ → List Task → Type 0
AllTicketsBelow next_ticket tasks = AllByRecursion (λ (t : Task). HasTicketBelow next_ticket t.status) tasks

-- The table is in order: what every deed keeps.
pub record IsTable (s : State) : Type 0 where
  pub tickets : AllTicketsBelow s.next_ticket s.tasks
  pub few : length s.tasks ≤ 32
  pub current : IfSome s.current (λ task. task < length s.tasks)
  -- a task holds a mutex, if any does
  pub holders : (object : ℕ) → IfSome (object_at s object).holder (λ holder. holder < length s.tasks)

-- Less of a `work` is used up than there is.
abbrev pub IsUsedBy : ℕ → Option Op → Type 0
IsUsedBy used (Some (Work n)) = used < n
IsUsedBy used _ = Unit {0}

-- This many loops are open before these ops.
pub record AreOpen (loops : ℕ) (edges : List Edge) : Type 0 where
  -- the blocks that are open there, which the ops end
  pub blocks : List Block
  pub count : loops_in blocks ≡ loops
  pub nests : Nests blocks edges

-- At this op of a script this many loops are open.
abbrev pub AreOpenAt : List Op → (op_index loops : ℕ) → Type 0
AreOpenAt script op_index loops = AreOpen loops (drop op_index (edges_of script))

-- Each open loop is open at its first op, with those around it.
abbrev pub LoopsNest : List Op → List Loop → Type 0
LoopsNest script [] = Unit {0}
LoopsNest script (l ∷ ls) = AreOpenAt script l.start (length (l ∷ ls)) × LoopsNest script ls

-- The time from which a task's `delay_until` counts is not after now, and that of a sleeper not after the end of its sleep; a
-- Suspended task will count anew.
abbrev pub IsReckoned : ℕ → ℕ → Status → Type 0
IsReckoned now previous_wake (Asleep wake_time ticket) = previous_wake ≤ wake_time
IsReckoned now previous_wake Suspended = Unit {0}
IsReckoned now previous_wake Ended = Unit {0}
IsReckoned now previous_wake _ = previous_wake ≤ now

-- A task is somewhere in its script, at a time.
pub record IsAt (now : ℕ) (script : List Op) (p : Progress) (status : Status) : Type 0 where
  pub nests : AreOpenAt script p.op_index (length p.loops)
  pub loops : LoopsNest script p.loops
  pub used : IsUsedBy p.used (slice_get script p.op_index)
  pub reckoned : IsReckoned now p.previous_wake status
  -- its stamp is not after now
  pub stamped : p.stamp ≤ now

-- ---- calls

-- whether a call holds the scheduler, and which object it has locked
pub record Hold : Type 0 where
  pub held : Bool
  pub locked : Option ℕ

-- that of a state
abbrev pub hold_of : State → Hold
hold_of s = record { held = s.call_hold; locked = s.locked }

-- how an op goes: in one phase, or in those of a call that may wait on an object, or of one that waits until it is woken, for bits
-- or for a notification, or in those of a set of bits
pub data Course : Type 0 where
  InOne : Course
  OnObject : (object : ℕ) → Course
  UntilWoken : Course
  ToSetBits : Course

-- that of an op, if there is one
abbrev pub course : Option Op → Course
course (Some (Await object access ticks)) = OnObject object
course (Some (WaitBits group condition ticks)) = UntilWoken
course (Some (AwaitNotification wait ticks)) = UntilWoken
course (Some (SetBits group mask)) = ToSetBits
course (Some (NextCommand object)) = OnObject object
course (Some Obey) = ToSetBits
course _ = InOne

-- A task whose op goes so may be in this phase: in Place and Unlock the object is locked, and in Leave none is.
abbrev pub IsPhaseOf : Hold → Course → Phase → Type 0
IsPhaseOf hold way Start = Unit {0}
IsPhaseOf hold (OnObject object) Try = Unit {0}
IsPhaseOf hold (OnObject object) Decide = Unit {0}
IsPhaseOf hold (OnObject object) Place = (hold.held ≡ true) × (hold.locked ≡ Some object)
IsPhaseOf hold (OnObject object) Unlock = (hold.held ≡ true) × (hold.locked ≡ Some object)
IsPhaseOf hold (OnObject object) Leave = (hold.held ≡ true) × (hold.locked ≡ None)
IsPhaseOf hold UntilWoken Leave = (hold.held ≡ true) × (hold.locked ≡ None)
IsPhaseOf hold UntilWoken Try = Unit {0}
IsPhaseOf hold ToSetBits Leave = (hold.held ≡ true) × (hold.locked ≡ None)
IsPhaseOf hold _ _ = ⊥

-- the list in which a task waits in this op
abbrev pub list_of_op : Option Op → Option WaitList
list_of_op (Some (Await object access ticks)) = Some (list_for object access)
list_of_op (Some (NextCommand object)) = Some (list_for {Item = ℕ} object Receive)
list_of_op _ = None

-- A wait is that of this op, and of the call that has this deadline.
pub record IsWaitOf (op : Option Op) (until : Option ℕ) (wait : Wait) : Type 0 where
  pub list : list_of_op op ≡ Some wait.list
  pub deadline : wait.deadline ≡ until

-- A task's status, its call and its op fit, at a time.
pub record IsCall (hold : Hold) (now : ℕ) (op : Option Op) (t : Task) : Type 0 where
  pub phase : IsPhaseOf hold (course op) t.progress.call.phase
  pub wait : IfSome (wait_of t.status) (λ w. IsWaitOf op t.progress.call.deadline w)
  -- it was woken through the locked object
  pub awake : IfSome (wait_if_awake t.status) (λ w. is_locked hold.locked w.list ≡ true)
  -- a deadline is less than 2^32 ticks away
  pub near : IfSome t.progress.call.deadline (λ deadline. deadline < now + 4294967296)

-- ---- the whole

-- An object is of its kind, and holds no more than it has room for.
abbrev pub IsObject : Option ObjectKind → Object → Type 0
IsObject (Some (Queue size)) o = (o.size ≡ size) × (length o.items ≤ o.size)
IsObject (Some (Semaphore max_count initial_count)) o = (o.max_count ≡ max_count) × (o.count ≤ o.max_count)
IsObject _ o = Unit {0}

-- A task's priority is at least that of the file, and one of those that there are, as is that of its wait.
abbrev pub HasPriority : Task → Type 0
HasPriority t =
    (t.base_priority ≤ t.priority) × (t.priority < priorities) × IfSome (wait_of t.status) (λ w. w.priority < priorities)

-- what every deed keeps, while this is held and locked
pub record IsSound (app : Application) (hold : Hold) (s : State) : Type 0 where
  pub table : IsTable s
  pub tasks : length s.tasks ≡ length app.tasks
  pub objects : length s.objects ≡ length app.objects
  -- there is a source for each handler, and one for the tick
  pub sources : length s.sources ≡ length app.handlers + 1
  pub progress : (task : ℕ) → IsAt s.time (script_of app task) (progress_at s task) (status_at s task)
  pub calls : (task : ℕ) → IsCall hold s.time (op_at app task (progress_at s task).op_index) (task_at s task)
  pub contents : (object : ℕ) → IsObject (slice_get app.objects object) (object_at s object)
  pub priorities : (task : ℕ) → HasPriority (task_at s task)
  -- the time is none before the start; with the held ticks it is the start and the elapsed ticks
  pub time : (app.start ≤ s.time) × (s.time + s.held_ticks ≡ app.start + s.elapsed)

-- how many `suspend_all` are active, how many ticks are held, and how many critical sections are open
pub record Suspension : Type 0 where
  pub suspensions : ℕ
  pub held_ticks : ℕ
  pub sections : ℕ

-- those of a state
abbrev pub suspension_of : State → Suspension
suspension_of s = record { suspensions = s.suspensions; held_ticks = s.held_ticks; sections = s.sections }

-- In these phases a call holds the scheduler.
abbrev pub holds : Phase → Bool
holds Place = true
holds Unlock = true
holds Leave = true
holds _ = false

-- A task that isn't placed yet has begun to wait, with the priority that it has, and its deadline is in the future. A
-- handler may have woken it already.
abbrev pub IsPlacing : ℕ → Task → Option Wait → Type 0
IsPlacing now t None = ⊥
IsPlacing now t (Some w) = (w.priority ≡ t.priority) × IfSome w.deadline (λ deadline. now < deadline)

-- The task has reached the end of its script while a task holds the scheduler, so it runs on.
abbrev pub IsStranded : Application → State → ℕ → Type 0
IsStranded app s task = (is_held_by_task s ≡ true) × (op_at app task (progress_at s task).op_index ≡ None)

-- A task runs: it holds the scheduler if a call does, and otherwise it is Ready, or stranded. In a set of bits it stays Ready.
pub record IsRunning (app : Application) (s : State) (task : ℕ) : Type 0 where
  pub holding : holds (call_at s task).phase ≡ s.call_hold
  pub ready : s.call_hold ≡ false → (is_ready s task ≡ true) ⊎ IsStranded app s task
  pub setting : s.call_hold ≡ true → course (op_at app task (progress_at s task).op_index) ≡ ToSetBits → is_ready s task ≡ true
  pub placing : (call_at s task).phase ≡ Place → IsPlacing s.time (task_at s task) (wait_of (status_at s task))

-- Who runs, and what is held, fit: idle holds nothing.
abbrev pub RunsIn : Application → State → Option ℕ → Type 0
RunsIn app s None = is_held s ≡ false
RunsIn app s (Some task) = IsRunning app s task

-- what every state of a run is
pub record IsState (app : Application) (s : State) : Type 0 where
  pub sound : IsSound app (hold_of s) s
  pub runs : RunsIn app s s.current
  -- nobody else is in a phase that holds the scheduler
  pub alone : (task : ℕ) → holds (call_at s task).phase ≡ true → s.current ≡ Some task
  -- what is locked is locked by a call that holds the scheduler
  pub locked : s.call_hold ≡ false → s.locked ≡ None
  -- while a task holds the scheduler no call does
  pub apart : is_held_by_task s ≡ true → s.call_hold ≡ false
  -- ticks are held only while a call or a `suspend_all` holds the scheduler
  pub held : holds_ticks s ≡ false → s.held_ticks ≡ 0

-- No handler is raised.
abbrev pub IsNoneRaised : State → Type 0
IsNoneRaised s = AllByRecursion (λ (x : Source). x.raised ≡ None) s.sources

-- No source is pending.
abbrev pub IsNonePending : State → Type 0
IsNonePending s = AllByRecursion (λ (x : Source). x.pending ≡ false) s.sources
