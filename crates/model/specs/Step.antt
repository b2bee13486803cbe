-- One step of the kernel: what the running task's op does, or idle, after the handlers that are injected.
use Rattle.std.specs.Prelude.{ℕ, ◌+◌, ◌-◌, ◌&&◌, ◌==◌, Bool, true, false, List, [], ◌∷◌, Option, Some, None, if◌then◌else◌, map}
use Rattle.std.specs.Prelude.{length, ◌++◌, is_none}
use Rattle.std.specs.Option.{option_or}
use Rattle.model.specs.declared.object.ObjectKind.{ObjectKind}
use Rattle.model.specs.declared.object.ObjectKind.TheVariants.{Queue, Semaphore, Mutex}
use Rattle.model.specs.declared.op.Op.{Op}
use Rattle.model.specs.declared.op.Op.TheVariants.{Work, Delay, DelayUntil, Yield, Time, Mark, Expect, Repeat, End, If, Else, EndIf}
use Rattle.model.specs.declared.op.Op.TheVariants.{Break, Stamp, Since, Await, Do, GiveMutex, MessagesWaiting, SpacesAvailable}
use Rattle.model.specs.declared.op.Op.TheVariants.{SetBits, ClearBits, GetBits, WaitBits, Suspend, Resume, SuspendAll, ResumeAll}
use Rattle.model.specs.declared.op.Op.TheVariants.{EnterCritical, ExitCritical, Value, Notify, AwaitNotification, ClearNotification}
use Rattle.model.specs.declared.op.Op.TheVariants.{NextCommand, Obey}
use Rattle.model.specs.declared.op.Op.TheVariants as op
use Rattle.model.specs.declared.op.Access.{Access}
use Rattle.model.specs.declared.value.Value as value
use Rattle.model.specs.declared.notification.NotifyAction.{NotifyAction}
use Rattle.model.specs.declared.call.Phase.{Phase}
use Rattle.model.specs.declared.call.Phase.TheVariants.{Start}
use Rattle.model.specs.Values.{answer_of, is_missing, lacks_item, number_of, with_number}
use Rattle.model.specs.declared.event.What.TheVariants as what
use Rattle.model.specs.declared.event.End.TheVariants as end
use Rattle.model.specs.declared.event.Misuse.{Misuse}
use Rattle.model.specs.declared.event.Misuse.TheVariants.{WhileSuspended, NotSuspended, NotHolder, EndedSuspended, WhileCritical}
use Rattle.model.specs.declared.event.Misuse.TheVariants.{NotCritical, EndedCritical}
use Rattle.model.specs.Application.{Application, Definition, Handler, Limits, op_at}
use Rattle.model.specs.State.{State, Source, Task, Object, Status, Ended, no_progress, no_object, no_source, no_notification}
use Rattle.model.specs.State.{status_at}
use Rattle.model.specs.State.{progress_at}
use Rattle.model.specs.State.{call_at}
use Rattle.model.specs.State.{object_at, bits_at, for_one, for_each, printed}
use Rattle.model.specs.Switching.{write, is_same, make_ready, choice, yield_now, settle, is_scheduler_suspended, is_critical}
use Rattle.model.specs.Switching.{unless_held}
use Rattle.model.specs.Ops.{complete, answer, use_up, delay, delay_until, expect, open_loop, close_turn, branch, skip_branch}
use Rattle.model.specs.Ops.{leave_loop, stamp, since, enter_critical, exit_critical, calculate, fail, control}
use Rattle.model.specs.Calls.{await, do_now}
use Rattle.model.specs.Mutexes.{give_mutex}
use Rattle.model.specs.Groups.{set_bits, clear, wait_bits}
use Rattle.model.specs.Notifications.{lacks_notify_value, notify_with_number, call_notify, await_notification, clear_notification}
use Rattle.model.specs.Suspension.{call_suspend, call_resume, suspend_all, resume_all}
use Rattle.model.specs.Daemon.{next_command, obey, command_at}
use Rattle.model.specs.Handlers.{inject, pend, serve_pending, tick_interrupt, idle}

-- the call of this task with its value as a number
abbrev pub call_with_number : State → ℕ → Access value.Value → Access ℕ
call_with_number s task access = with_number s.variables (progress_at s task).answer access

-- the notify of this task with its value as a number
abbrev pub notify_by_number : State → ℕ → NotifyAction value.Value → NotifyAction ℕ
notify_by_number s task action = notify_with_number s.variables (progress_at s task).answer action

-- what each op does; that yield answers 0, and all of mark, is profile
abbrev pub act : Application → ℕ → Op → State → State
act app task (Work n) s = tick_interrupt app (use_up app task n s)
act app task (Delay n) s = delay app task n s
act app task (DelayUntil n) s = delay_until app task ((progress_at s task).previous_wake + n) s
act app task Yield s = yield_now (answer app task (Some 0) s)
act app task Time s = answer app task (Some (printed s.time)) s
act app task (Mark value) s =
    let p = progress_at s task in complete app task p (write (what.Mark task (number_of s.variables p.answer value)) s)
act app task (Expect condition) s = expect app task condition s
act app task (Repeat turns) s = open_loop app task turns s
act app task End s = close_turn app task s
act app task (If condition) s = branch app task condition s
act app task Else s = skip_branch app task s
act app task EndIf s = complete app task (progress_at s task) s
act app task Break s = leave_loop app task s
act app task Stamp s = stamp app task s
act app task Since s = since app task s
act app task (Await object access ticks) s =
    await app task object (call_with_number s task access) ticks (call_at s task).phase s
act app task (Do object access) s = do_now app task object (call_with_number s task access) s
act app task (GiveMutex object) s = give_mutex app task object s
act app task (MessagesWaiting object) s = answer app task (Some (length (object_at s object).items)) s
act app task (SpacesAvailable object) s =
    let queue = object_at s object in answer app task (Some (queue.size - length queue.items)) s
act app task (SetBits group mask) s = set_bits app task group mask (call_at s task).phase s
act app task (ClearBits group mask) s = clear app task group mask s
act app task (GetBits group) s = answer app task (Some (bits_at s group)) s
act app task (WaitBits group condition ticks) s = wait_bits app task group condition ticks (call_at s task).phase s
act app task (Notify other action) s = call_notify app task other (notify_by_number s task action) s
act app task (AwaitNotification wait ticks) s = await_notification app task wait ticks (call_at s task).phase s
act app task (ClearNotification what) s = clear_notification app task what s
act app task (Suspend other) s = call_suspend app task other s
act app task (Resume other) s = call_resume app task other s
act app task SuspendAll s = suspend_all app task s
act app task ResumeAll s = resume_all app task s
act app task EnterCritical s = enter_critical app task s
act app task ExitCritical s = exit_critical app task s
act app task (Value op) s = calculate app task op s
act app task (op.Source handler what) s = control app task handler what s
act app task (NextCommand object) s = next_command app task object (call_at s task).phase s
act app task Obey s = obey app task (command_at s task) (call_at s task).phase s

-- ---- misuse (profile)

-- The op may switch, or wait: not to be called while a `suspend_all` is in force.
abbrev pub may_switch : Op → Bool
may_switch (Delay n) = true
may_switch (DelayUntil n) = true
may_switch Yield = true
may_switch (Await object access ticks) = true
may_switch (Do object access) = true
may_switch (GiveMutex object) = true
may_switch (SetBits group mask) = true
may_switch (WaitBits group condition ticks) = true
may_switch (Notify other action) = true
may_switch (AwaitNotification wait ticks) = true
may_switch (Suspend other) = true
may_switch (Resume other) = true
may_switch (NextCommand object) = true
may_switch Obey = true
may_switch _ = false

-- It has no place in a critical section either, in which nothing may switch or wait, no tick comes, and no other
-- hold begins or ends.
abbrev pub is_barred : Op → Bool
is_barred (Work n) = true
is_barred SuspendAll = true
is_barred ResumeAll = true
is_barred op = may_switch op

-- what the op asks of the state by itself: `resume_all` that a `suspend_all` is in force, `unlock` that the task is the holder,
-- `exit_critical` that a critical section is open (profile: FreeRTOS asserts the first two)
abbrev pub own_misuse : State → ℕ → Op → Option Misuse
own_misuse s task ResumeAll = if is_scheduler_suspended s then None else Some NotSuspended
own_misuse s task (GiveMutex object) = if is_same (object_at s object).holder (Some task) then None else Some NotHolder
own_misuse s task ExitCritical = if is_critical s then None else Some NotCritical
own_misuse s task op = None

-- which misuse the task's op is, if it is one; the first that fits
abbrev pub misuse : State → ℕ → Op → Option Misuse
misuse s task op =
    if is_scheduler_suspended s && may_switch op
    then Some WhileSuspended
    else option_or (own_misuse s task op) (if is_critical s && is_barred op then Some WhileCritical else None)

-- The task's op of this index is such a misuse, which ends the run.
abbrev pub misused : ℕ → ℕ → Misuse → State → State
misused task op_index kind s = record s { stopped = Some (end.Misuse task op_index kind) }

-- The status is that of a task whose script is done.
abbrev pub is_ended : Status → Bool
is_ended Ended = true
is_ended _ = false

-- which misuse it is to come to the end of a script in this state, if it is one
abbrev pub end_misuse : State → Option Misuse
end_misuse s =
    if is_scheduler_suspended s then Some EndedSuspended else if is_critical s then Some EndedCritical else None

-- A task that came to the end of its script with this op must hold the scheduler no more.
unfoldable pub judge : ℕ → ℕ → State → State
judge task op_index s = if is_ended (status_at s task) then for_one (misused task op_index) (end_misuse s) s else s

-- ---- ops without a value (profile)

-- A call begins with this phase.
abbrev pub is_start : Phase → Bool
is_start Start = true
is_start _ = false

-- The op has no value to work with: the last answer is `none`, or it would divide by 0. Of a call that waits this is judged where
-- it begins.
abbrev pub lacks_value : State → ℕ → Op → Bool
lacks_value s task (Await object access ticks) =
    is_start (call_at s task).phase && lacks_item (progress_at s task).answer access
lacks_value s task (Do object access) = lacks_item (progress_at s task).answer access
lacks_value s task (Notify other action) = lacks_notify_value (progress_at s task).answer action
lacks_value s task (Mark value) = is_missing (progress_at s task).answer value
lacks_value s task (Value op) = is_none (answer_of s.variables (progress_at s task).answer op)
lacks_value s task op = false

-- The task does this op. One that has no value to work with isn't done, and is a failed check.
abbrev pub act_by_value : Application → ℕ → Op → State → State
act_by_value app task op s =
    if lacks_value s task op then fail (end.Check task (progress_at s task).op_index) s else act app task op s

-- The task does this op; but a misuse ends the run, and changes nothing else (profile).
abbrev pub act_unless : Application → ℕ → Option Misuse → Op → State → State
act_unless app task None op s = judge task (progress_at s task).op_index (act_by_value app task op s)
act_unless app task (Some kind) op s = misused task (progress_at s task).op_index kind s

-- ---- a step

-- The task does this op, if there is one.
abbrev pub act_if : Application → ℕ → Option Op → State → State
act_if app task None s = s
act_if app task (Some op) s = act_unless app task (misuse s task op) op s

-- The running task does its op; idle lets a tick pass, or several, but none past the limit.
abbrev pub act_current : Application → Limits → Option ℕ → State → State
act_current app limits None s = idle app limits s
act_current app limits (Some task) s = act_if app task (op_at app task (progress_at s task).op_index) s

-- These interrupts are injected, one after another. While a critical section is open they become pending. Otherwise those come that
-- are pending, and then these.
abbrev pub come_before : Application → List ℕ → State → State
come_before app sources s =
    if is_critical s then for_each (pend app) sources s else for_each (inject app) sources (serve_pending app s)

-- That is how a step begins, which has reported nothing yet.
unfoldable pub before_step : Application → List ℕ → State → State
before_step app handlers s = come_before app handlers (record s { log = [] })

-- A step. The injected interrupts come, and then the running task or idle acts. Where that leaves the running task not
-- Ready, the choice runs, unless the scheduler is held.
unfoldable pub step : Application → Limits → List ℕ → State → State
step app limits handlers s =
    let r = before_step app handlers s in
    let t = unless_held settle (act_current app limits r.current r) in
    record t { steps = s.steps + 1 }

-- ---- reset

-- a task that has not been Ready yet, at this time
abbrev pub task_at_reset : ℕ → Definition → Task
task_at_reset start d = record {
  base_priority = d.priority;
  priority = d.priority;
  progress = record no_progress { previous_wake = start; stamp = start };
  status = Ended;
}

-- an object at reset: a queue is empty, a mutex is free
abbrev pub object_at_reset : ObjectKind → Object
object_at_reset (Queue size) = record no_object { size = size }
object_at_reset (Semaphore max_count initial_count) = record no_object { max_count = max_count; count = initial_count }
object_at_reset Mutex = no_object

-- what is kept of a handler at reset
abbrev pub source_at_reset : Handler → Source
source_at_reset handler = record no_source { armed = handler.armed }

-- the kernel when no task has been Ready yet, and idle runs
unfoldable pub nobody_ready : Application → State
nobody_ready app = record {
  tasks = map (task_at_reset app.start) app.tasks;
  objects = map object_at_reset app.objects;
  group_bits = λ group. 0;
  notifications = λ task. no_notification;
  variables = app.variables;
  time = app.start;
  elapsed = 0;
  current = None;
  next_ticket = 0;
  locked = None;
  call_hold = false;
  suspensions = 0;
  held_ticks = 0;
  sections = 0;
  sources = map source_at_reset app.handlers ++ no_source ∷ [];
  steps = 0;
  stopped = None;
  log = [];
}

-- the tasks that have an op, in the order of the file; the first given is the task of this number
abbrev pub with_ops : ℕ → List Definition → List ℕ
with_ops i [] = []
with_ops i (d ∷ ds) = if length d.script == 0 then with_ops (i + 1) ds else i ∷ with_ops (i + 1) ds

-- All are Ready, in the order of the file (profile). A task with an empty script is Ended.
unfoldable pub ready_at_reset : Application → State
ready_at_reset app = for_each make_ready (with_ops 0 app.tasks) (nobody_ready app)

-- The choice runs (profile: FreeRTOS runs the task of highest priority that was created last), and that is no event
-- (`vTaskStartScheduler`).
unfoldable pub reset : Application → State
reset app = let s = ready_at_reset app in record s { current = choice s }
