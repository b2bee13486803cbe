-- The kernel's state.
--
-- Every entry to the ready list and every beginning of a sleep or a wait takes the next ticket. Tickets say who came
-- first; the code has none.
use Rattle.std.specs.Prelude.{ℕ, ◌+◌, ◌%◌, ◌==◌, if◌then◌else◌, Bool, true, false, List, Option, Some, None, [], slice_index_or}
use Rattle.std.specs.Prelude.{slice_set, fold}
use Rattle.model.specs.declared.call.CallProgress.{CallProgress}
use Rattle.model.specs.declared.call.Phase.{Phase}
use Rattle.model.specs.declared.call.Phase.TheVariants.{Start}
use Rattle.model.specs.declared.call.WaitList.{WaitList}
use Rattle.model.specs.declared.loops.Loop.{Loop}
use Rattle.model.specs.declared.notification.Notification.{Notification}
use Rattle.model.specs.declared.event.Event.{Event}
use Rattle.model.specs.declared.event.End.{End}

-- ---- a task's status

-- a wait at an object: in which list, what orders the task there, and until when at most
pub record Wait : Type 0 where
  pub list : WaitList
  -- the task's priority when the wait began
  pub priority : ℕ
  pub ticket : ℕ
  pub deadline : Option ℕ

-- what a task is doing
pub data Status : Type 0 where
  Ready : (ticket : ℕ) → Status
  -- woken through the locked queue, and Ready as soon as that is unlocked
  Awake : (wait : Wait) → Status
  Waiting : (wait : Wait) → Status
  -- waiting for bits of an event group, until a deadline at most
  WaitingForBits : (group ticket : ℕ) (deadline : Option ℕ) → Status
  -- waiting for a notification, until a deadline at most
  WaitingForNotification : (ticket : ℕ) (deadline : Option ℕ) → Status
  Asleep : (wake_time ticket : ℕ) → Status
  Suspended : Status
  Ended : Status

-- the ticket of a Ready task
abbrev pub ticket_if_ready : Status → Option ℕ
ticket_if_ready (Ready ticket) = Some ticket
ticket_if_ready _ = None

-- the wait of a Waiting task
abbrev pub wait_if_waiting : Status → Option Wait
wait_if_waiting (Waiting wait) = Some wait
wait_if_waiting _ = None

-- the wait that was an Awake task's
abbrev pub wait_if_awake : Status → Option Wait
wait_if_awake (Awake wait) = Some wait
wait_if_awake _ = None

-- the ticket of a task that waits for bits of this group
abbrev pub ticket_if_for_bits : ℕ → Status → Option ℕ
ticket_if_for_bits group (WaitingForBits other ticket deadline) = if other == group then Some ticket else None
ticket_if_for_bits group _ = None

-- The task waits for a notification.
abbrev pub waits_for_notification : Status → Bool
waits_for_notification (WaitingForNotification ticket deadline) = true
waits_for_notification _ = false

-- the ticket that a task has
abbrev pub ticket_of : Status → Option ℕ
ticket_of (Ready ticket) = Some ticket
ticket_of (Awake wait) = Some wait.ticket
ticket_of (Waiting wait) = Some wait.ticket
ticket_of (WaitingForBits group ticket deadline) = Some ticket
ticket_of (WaitingForNotification ticket deadline) = Some ticket
ticket_of (Asleep wake_time ticket) = Some ticket
ticket_of _ = None

-- the time at which a task wakes by itself, if there is one
abbrev pub wake_time_of : Status → Option ℕ
wake_time_of (Asleep wake_time ticket) = Some wake_time
wake_time_of (Waiting wait) = wait.deadline
wake_time_of (Awake wait) = wait.deadline
wake_time_of (WaitingForBits group ticket deadline) = deadline
wake_time_of (WaitingForNotification ticket deadline) = deadline
wake_time_of _ = None

-- ---- tasks, objects, and the whole

-- a task's place in its script
pub record Progress : Type 0 where
  -- the index of its op
  pub op_index : ℕ
  -- how much of a `work` is used up
  pub used : ℕ
  -- the open loops, the innermost first
  pub loops : List Loop
  -- the last answer; at first `none`
  pub answer : Option ℕ
  -- the time from which `delay_until` counts (`pxPreviousWakeTime`); at first the time at reset
  pub previous_wake : ℕ
  -- the time of its last `stamp`; at first the time at reset
  pub stamp : ℕ
  pub call : CallProgress

-- what the kernel keeps of a task
pub record Task : Type 0 where
  -- the priority that the file gives it (`uxBasePriority`)
  pub base_priority : ℕ
  -- its priority now (`uxPriority`), which may be inherited
  pub priority : ℕ
  pub progress : Progress
  pub status : Status

-- what the kernel keeps of a queue, a semaphore or a mutex
pub record Object : Type 0 where
  -- how many items a queue holds at most (`uxLength`)
  pub size : ℕ
  -- the items of a queue, the first to leave first
  pub items : List ℕ
  -- the greatest count of a semaphore (`uxMaxCount`)
  pub max_count : ℕ
  -- the count of a semaphore
  pub count : ℕ
  -- who holds a mutex (`xMutexHolder`)
  pub holder : Option ℕ

-- what is kept of an interrupt source: a handler, or the tick
pub record Source : Type 0 where
  -- It was injected while a critical section was open, and hasn't come yet (the pending bit of an interrupt controller).
  pub pending : Bool
  -- It can come if it is injected (the enable bit).
  pub armed : Bool
  -- the elapsed tick from which on it can come again
  pub free_from : ℕ
  -- the elapsed tick at which it comes by itself, if it is raised
  pub raised : Option ℕ

-- the whole of the kernel, between two steps
pub record State : Type 0 where
  pub tasks : List Task
  pub objects : List Object
  -- the bits that are set of each event group
  pub group_bits : ℕ → ℕ
  -- the notification of each task
  pub notifications : ℕ → Notification
  -- what each variable is
  pub variables : List ℕ
  -- the time, without bound (`xTickCount`)
  pub time : ℕ
  -- the ticks since reset, held ones too
  pub elapsed : ℕ
  -- the running task, or idle (`pxCurrentTCB`)
  pub current : Option ℕ
  pub next_ticket : ℕ
  -- the object that a call has locked
  pub locked : Option ℕ
  -- whether a call holds the scheduler (`uxSchedulerSuspended` counts this and the next)
  pub call_hold : Bool
  -- how many `suspend_all` are active
  pub suspensions : ℕ
  -- the ticks that came meanwhile, which are still to be applied (`xPendedTicks`)
  pub held_ticks : ℕ
  -- how many critical sections are open (`uxCriticalNesting`)
  pub sections : ℕ
  -- the interrupt sources: the handlers in the order of the file, and then the tick
  pub sources : List Source
  -- the steps done
  pub steps : ℕ
  -- the end that a step has brought about by itself: a failed `expect`, or a misuse
  pub stopped : Option End
  -- the events of the last step
  pub log : List Event

-- ---- reading and writing it; a deed takes a state, its last argument, to the next

-- a call that has not begun
abbrev pub no_call : CallProgress
no_call = record { phase = Start; deadline = None; waits = false; inherited = false; wants = None; kept = None }

-- at the first op, with nothing of it done
abbrev pub no_progress : Progress
no_progress = record { op_index = 0; used = 0; loops = []; answer = None; previous_wake = 0; stamp = 0; call = no_call }

-- what is kept if there is no task
abbrev pub no_task : Task
no_task = record { base_priority = 0; priority = 0; progress = no_progress; status = Ended }

-- what the kernel keeps of this task
abbrev pub task_at : State → ℕ → Task
task_at s task = slice_index_or s.tasks task no_task

-- what this task is doing
abbrev pub status_at : State → ℕ → Status
status_at s task = (task_at s task).status

-- this task's place in its script
abbrev pub progress_at : State → ℕ → Progress
progress_at s task = (task_at s task).progress

-- how far this task's call has come
abbrev pub call_at : State → ℕ → CallProgress
call_at s task = (progress_at s task).call

-- The task is now as given.
abbrev pub with_task : ℕ → Task → State → State
with_task task t s = record s { tasks = slice_set s.tasks task t }

-- The task's status is now this.
abbrev pub with_status : ℕ → Status → State → State
with_status task status s = with_task task (record (task_at s task) { status = status }) s

-- The task is now here in its script.
abbrev pub with_progress : ℕ → Progress → State → State
with_progress task p s = with_task task (record (task_at s task) { progress = p }) s

-- The task's call is now so far.
abbrev pub with_call : ℕ → CallProgress → State → State
with_call task call s = with_progress task (record (progress_at s task) { call = call }) s

-- The task's call goes on with this phase.
abbrev pub go_on : ℕ → Phase → State → State
go_on task phase s = with_call task (record (call_at s task) { phase = phase }) s

-- The task takes the next ticket, and gets the status that this makes of it.
abbrev pub take_ticket : ℕ → (ℕ → Status) → State → State
take_ticket task status s =
    record (with_status task (status s.next_ticket) s) { next_ticket = s.next_ticket + 1 }

-- what is kept if there is no object
abbrev pub no_object : Object
no_object = record { size = 0; items = []; max_count = 0; count = 0; holder = None }

-- what the kernel keeps of this object
abbrev pub object_at : State → ℕ → Object
object_at s object = slice_index_or s.objects object no_object

-- The object is now as given.
abbrev pub with_object : ℕ → Object → State → State
with_object object o s = record s { objects = slice_set s.objects object o }

-- what is kept if there is no source, and of the tick
abbrev pub no_source : Source
no_source = record { pending = false; armed = true; free_from = 0; raised = None }

-- what is kept of this source
abbrev pub source_at : State → ℕ → Source
source_at s source = slice_index_or s.sources source no_source

-- The source is now as given.
abbrev pub with_source : ℕ → Source → State → State
with_source source x s = record s { sources = slice_set s.sources source x }

-- the bits of this event group
abbrev pub bits_at : State → ℕ → ℕ
bits_at s group = s.group_bits group

-- The event group's bits are now these, and those of the others are as they were.
abbrev pub with_bits : ℕ → ℕ → State → State
with_bits group bits s = record s { group_bits = λ other. if other == group then bits else bits_at s other }

-- what is kept of a notification at reset
abbrev pub no_notification : Notification
no_notification = record { value = 0; pending = false }

-- the notification of this task
abbrev pub notification_at : State → ℕ → Notification
notification_at s task = s.notifications task

-- The task's notification is now as given, and those of the others are as they were.
abbrev pub with_notification : ℕ → Notification → State → State
with_notification task n s = record s { notifications = λ other. if other == task then n else notification_at s other }

-- A deed is done with this one, if there is one.
abbrev pub for_one : {A : Type 0} → (A → State → State) → Option A → State → State
for_one deed None s = s
for_one deed (Some one) s = deed one s

-- A deed is done with each of these, one after another.
abbrev pub for_each : {A : Type 0} → (A → State → State) → List A → State → State
for_each deed ones s = fold (λ t one. deed one t) s ones

-- the time as it is printed, in 32 bits (`xTaskGetTickCount`)
abbrev pub printed : ℕ → ℕ
printed time = time % 4294967296
