-- Which scripts, handlers and applications are well formed.
use Rattle.std.specs.Prelude.{◌≡◌, ◌<◌, ◌≤◌, ℕ, ◌+◌, ◌&&◌, ◌==◌, nat_lt, nat_le, Bool, true, false, not, List, [], ◌∷◌, length}
use Rattle.std.specs.Prelude.{Option, Some, None, is_some, IfSome, slice_get, option_map, unwrap_or, if◌then◌else◌}
use Rattle.std.specs.List.{AllByRecursion}
use Rattle.model.specs.declared.object.ObjectKind.{ObjectKind}
use Rattle.model.specs.declared.object.ObjectKind.TheVariants.{Queue, Semaphore, Mutex}
use Rattle.model.specs.declared.op.Access.{Access}
use Rattle.model.specs.declared.op.Access.TheVariants.{Send, SendFront, Overwrite, Receive, Peek, Take, Give, Lock}
use Rattle.model.specs.declared.op.Op.{Op}
use Rattle.model.specs.declared.op.Op.TheVariants.{Work, DelayUntil, Repeat, Await, Do, GiveMutex, MessagesWaiting, SpacesAvailable}
use Rattle.model.specs.declared.op.Op.TheVariants.{SetBits, ClearBits, GetBits, WaitBits, Notify, AwaitNotification, Suspend}
use Rattle.model.specs.declared.op.Op.TheVariants.{Resume}
use Rattle.model.specs.declared.op.Op.TheVariants.{NextCommand, Obey}
use Rattle.model.specs.declared.op.Op.TheVariants as op
use Rattle.model.specs.declared.answer.AnswerCondition.{AnswerCondition}
use Rattle.model.specs.declared.answer.AnswerCondition.TheVariants.{Is, IsNot, Below, Above}
use Rattle.model.specs.declared.value.Value.{Value}
use Rattle.model.specs.declared.value.Value.TheVariants.{Number, Variable}
use Rattle.model.specs.declared.value.Arithmetic.TheVariants.{Div, Mod}
use Rattle.model.specs.declared.value.ValueOp.{ValueOp}
use Rattle.model.specs.declared.value.ValueOp.TheVariants.{Load, Store, Compute}
use Rattle.model.specs.declared.source.SourceOp.{SourceOp}
use Rattle.model.specs.declared.source.SourceOp.TheVariants.{Raise}
use Rattle.model.specs.declared.op.IsrOp.{IsrOp}
use Rattle.model.specs.declared.op.IsrOp.TheVariants as isr
use Rattle.model.specs.declared.plan.Injection.{Injection}
use Rattle.model.specs.declared.plan.PointEntry.{PointEntry}
use Rattle.model.specs.declared.plan.PointEntry.TheVariants.{One, Each}
use Rattle.model.specs.Points.{IsPoint}
use Rattle.model.specs.Blocks.{Nests, NestsSoFar, edges_of, isr_edges_of}
use Rattle.model.specs.Application.{Application, Handler, Interrupt, Definition, interrupts_at, of_file, commands_of, script_of}
use Rattle.model.specs.Application.{is_endless}

-- ---- how many there may be (profile)

-- of tasks of an application, whose number FreeRTOS leaves to memory
abbrev pub most_tasks : ℕ
most_tasks = 32

-- of bytes of a name
abbrev pub most_name_bytes : ℕ
most_name_bytes = 16

-- of priorities, as `configMAX_PRIORITIES` has them
abbrev pub priorities : ℕ
priorities = 32

-- of objects of an application, of all kinds together; the queue of the daemon is one more
abbrev pub most_objects : ℕ
most_objects = 32

-- of event groups of an application
abbrev pub most_groups : ℕ
most_groups = 16

-- of variables of an application
abbrev pub most_variables : ℕ
most_variables = 32

-- of items of a queue
abbrev pub most_items : ℕ
most_items = 256

-- of a semaphore's count
abbrev pub most_count : ℕ
most_count = 65535

-- of ops of a script
abbrev pub most_ops : ℕ
most_ops = 256

-- of handlers of an application
abbrev pub most_handlers : ℕ
most_handlers = 16

-- of ops of a handler
abbrev pub most_handler_ops : ℕ
most_handler_ops = 16

-- of elapsed ticks between two comings of a handler, and of ticks until a raised one comes
abbrev pub most_apart : ℕ
most_apart = 1000000

-- of base interrupts of an application
abbrev pub most_interrupts : ℕ
most_interrupts = 1024

-- of base interrupts at one elapsed tick
abbrev pub most_at_once : ℕ
most_at_once = 4

-- the last step before which a point of a file may be
abbrev pub last_point : ℕ
last_point = 1000000

-- the last elapsed tick at which a base interrupt may come
abbrev pub last_interrupt : ℕ
last_interrupt = 1000000

-- of elapsed ticks of a run; those of the limits of a file, without and with `tickless` (profile)
abbrev pub most_ticks : ℕ
most_ticks = 281474976710656

-- of steps of a run, and of its ticks if no step lets more than one pass
abbrev pub most_steps : ℕ
most_steps = 1000000

-- of entries of points of an application, and of the points that they mean
abbrev pub most_points : ℕ
most_points = 1000000

-- ---- numbers

-- a number from this least to this most
abbrev pub is_within : ℕ → ℕ → ℕ → Bool
is_within least most n = nat_le least n && nat_le n most

-- The longest wait that isn't forever is one tick less than `portMAX_DELAY`.
abbrev pub is_wait : Option ℕ → Bool
is_wait None = true
is_wait (Some ticks) = nat_lt ticks 4294967295

-- Some of the 24 bits of an event group.
abbrev pub is_mask : ℕ → Bool
is_mask mask = is_within 1 16777215 mask

-- The op on values divides by no number 0 of its text.
abbrev pub is_defined : ValueOp → Bool
is_defined (Compute Div (Number n)) = not (n == 0)
is_defined (Compute Mod (Number n)) = not (n == 0)
is_defined _ = true

-- A handler is raised for a tick that is 1 to 1,000,000 ticks away.
abbrev pub is_near : SourceOp → Bool
is_near (Raise ticks) = is_within 1 most_apart ticks
is_near _ = true

-- The numbers of an op are in their ranges (profile; of `delay_until` it is that of `xTaskDelayUntil`). A number that is
-- not named here is any of 32 bits.
abbrev pub is_in_range : Op → Bool
is_in_range (Work n) = is_within 1 1000000 n
is_in_range (DelayUntil n) = is_within 1 4294967295 n
is_in_range (Repeat (Some n)) = is_within 1 1000 n
is_in_range (Await object access ticks) = is_wait ticks
is_in_range (SetBits group mask) = is_mask mask
is_in_range (ClearBits group mask) = is_mask mask
is_in_range (WaitBits group condition ticks) = is_mask condition.mask && is_wait ticks
is_in_range (AwaitNotification wait ticks) = is_wait ticks
is_in_range (op.Value values) = is_defined values
is_in_range (op.Source handler what) = is_near what
is_in_range _ = true

-- the same as a fact
abbrev pub InRange : Op → Type 0
InRange op = is_in_range op ≡ true

-- These may be limits: 1 to 2^48 ticks, and 1 to 1,000,000 steps (profile).
abbrev pub AreLimits : ℕ → ℕ → Type 0
AreLimits ticks steps = (1 ≤ ticks) × (ticks ≤ most_ticks) × (1 ≤ steps) × (steps ≤ most_steps)

-- ---- scripts

-- a whole script (profile: its most ops)
pub record IsScript (ops : List Op) : Type 0 where
  pub ranges : AllByRecursion InRange ops
  pub nests : Nests [] (edges_of ops)
  pub few : length ops ≤ most_ops

-- the beginning of a script
pub record IsPrefix (ops : List Op) : Type 0 where
  pub ranges : AllByRecursion InRange ops
  pub nests : NestsSoFar [] (edges_of ops)
  pub few : length ops ≤ most_ops

-- ---- what an op speaks of

-- It is a call on a queue.
abbrev pub is_of_queue : {Item : Type 0} → Access Item → Bool
is_of_queue (Send item) = true
is_of_queue (SendFront item) = true
is_of_queue (Overwrite item) = true
is_of_queue Receive = true
is_of_queue Peek = true
is_of_queue _ = false

-- It is a call on a semaphore.
abbrev pub is_of_semaphore : {Item : Type 0} → Access Item → Bool
is_of_semaphore Take = true
is_of_semaphore Give = true
is_of_semaphore _ = false

-- It is a call on a mutex.
abbrev pub is_of_mutex : {Item : Type 0} → Access Item → Bool
is_of_mutex Lock = true
is_of_mutex _ = false

-- A call may be made on an object of this kind; `overwrite` is for queues of length 1 (in `xQueueOverwrite`).
abbrev pub fits : {Item : Type 0} → ObjectKind → Access Item → Bool
fits (Queue size) (Overwrite item) = size == 1
fits (Queue size) access = is_of_queue access
fits (Semaphore max_count initial_count) access = is_of_semaphore access
fits Mutex access = is_of_mutex access

-- The application has the object, and it fits.
abbrev pub fits_object : {Item : Type 0} → Application → ℕ → Access Item → Bool
fits_object app object access = unwrap_or (option_map (λ kind. fits kind access) (slice_get app.objects object)) false

-- It is a call that may wait.
abbrev pub may_wait : {Item : Type 0} → Access Item → Bool
may_wait (Overwrite item) = false
may_wait Give = false
may_wait _ = true

-- A handler may make the call: `take` and `lock` are for tasks (profile: FreeRTOS has `xSemaphoreTakeFromISR`).
abbrev pub may_interrupt : {Item : Type 0} → Access Item → Bool
may_interrupt Take = false
may_interrupt Lock = false
may_interrupt _ = true

-- The application has the event group.
abbrev pub has_group : Application → ℕ → Bool
has_group app group = nat_lt group app.group_count

-- The file has the task: nobody names the daemon.
abbrev pub has_task : Application → ℕ → Bool
has_task app task = nat_lt task (length (of_file app.daemon app.tasks))

-- The application has the variable.
abbrev pub has_variable : Application → ℕ → Bool
has_variable app x = nat_lt x (length app.variables)

-- It has the one that the value is, if that is one.
abbrev pub knows_value : Application → Value → Bool
knows_value app (Variable x) = has_variable app x.number
knows_value app _ = true

-- It has those that the op on values names.
abbrev pub knows_values : Application → ValueOp → Bool
knows_values app (Load x) = has_variable app x.number
knows_values app (Store x value) = has_variable app x.number && knows_value app value
knows_values app (Compute kind value) = knows_value app value

-- It has the one that the condition names, if it names one.
abbrev pub knows_condition : Application → AnswerCondition → Bool
knows_condition app (Is wanted) = unwrap_or (option_map (knows_value app) wanted) true
knows_condition app (IsNot other) = unwrap_or (option_map (knows_value app) other) true
knows_condition app (Below bound) = knows_value app bound
knows_condition app (Above bound) = knows_value app bound

-- The application has the handler.
abbrev pub has_handler : Application → ℕ → Bool
has_handler app handler = nat_lt handler (length app.handlers)

-- The application has what the op speaks of; the daemon's ops are in no file.
abbrev pub knows : Application → Op → Bool
knows app (Await object access ticks) = fits_object app object access && may_wait access
knows app (Do object access) = fits_object app object access && not (may_wait access)
knows app (GiveMutex object) = fits_object {Item = ℕ} app object Lock
knows app (MessagesWaiting object) = fits_object {Item = ℕ} app object Receive
knows app (SpacesAvailable object) = fits_object {Item = ℕ} app object Receive
knows app (SetBits group mask) = has_group app group
knows app (ClearBits group mask) = has_group app group
knows app (GetBits group) = has_group app group
knows app (WaitBits group condition ticks) = has_group app group
knows app (Notify other action) = has_task app other
knows app (NextCommand object) = false
knows app Obey = false
knows app (Suspend other) = has_task app other
knows app (Resume other) = has_task app other
knows app (op.Expect condition) = knows_condition app condition
knows app (op.If condition) = knows_condition app condition
knows app (op.Value values) = knows_values app values
knows app (op.Source handler what) = has_handler app handler
knows app _ = true

-- the same as a fact, of all ops of a task
abbrev pub KnowsAll : Application → Definition → Type 0
KnowsAll app task = AllByRecursion (λ op. knows app op ≡ true) task.script

-- the same of an op of a handler, in which no call waits
abbrev pub knows_isr : Application → IsrOp → Bool
knows_isr app (isr.Do object access) = fits_object app object access && may_interrupt access
knows_isr app (isr.Command c) = is_some app.daemon && (has_group app c.group && is_mask c.mask)
knows_isr app (isr.Resume task) = has_task app task
knows_isr app (isr.GetBits group) = has_group app group
knows_isr app (isr.Notify task action) = has_task app task
knows_isr app (isr.Expect condition) = knows_condition app condition
knows_isr app (isr.If condition) = knows_condition app condition
knows_isr app (isr.Value values) = knows_values app values && is_defined values
knows_isr app (isr.Source handler what) = has_handler app handler && is_near what
knows_isr app _ = true

-- ---- the application

-- an object that an application may have (profile: its limits)
abbrev pub IsObjectKind : ObjectKind → Type 0
IsObjectKind (Queue size) = (1 ≤ size) × (size ≤ most_items)
IsObjectKind (Semaphore max_count initial_count) = (1 ≤ max_count) × (max_count ≤ most_count) × (initial_count ≤ max_count)
IsObjectKind Mutex = Unit {0}

-- a handler that an application may have (profile: its limits)
pub record IsHandler (app : Application) (handler : Handler) : Type 0 where
  pub name : length handler.name ≤ most_name_bytes
  pub few : length handler.ops ≤ most_handler_ops
  pub near : handler.apart ≤ most_apart
  pub nests : Nests [] (isr_edges_of handler.ops)
  -- each op speaks of what there is
  pub known : AllByRecursion (λ op. knows_isr app op ≡ true) handler.ops

-- a base interrupt that an application may have (profile: its limits)
pub record IsInterrupt (app : Application) (interrupt : Interrupt) : Type 0 where
  pub first : 1 ≤ interrupt.tick
  pub last : interrupt.tick ≤ last_interrupt
  pub handler : interrupt.handler < length app.handlers

-- an entry of points that an application may have (profile: its limits): of its handlers, or of the tick, before steps up to the
-- last one; of a range the first step isn't after the last
abbrev pub IsPointEntry : Application → PointEntry → Type 0
IsPointEntry app (One point) =
    IsPoint point × AllByRecursion (λ (i : Injection). (i.step ≤ last_point) × (i.handler ≤ length app.handlers)) point
IsPointEntry app (Each range) =
    (range.handler ≤ length app.handlers) × (range.first ≤ range.last) × (range.last ≤ last_point)

-- a task that an application may have (profile: its limits)
pub record IsDefinition (task : Definition) : Type 0 where
  pub name : length task.name ≤ most_name_bytes
  pub priority : task.priority < priorities
  pub script : IsScript task.script

-- The daemon is the task after those of the file, which has at least one. It asks for a command and does it, again and again,
-- without an end; its queue is the last object (profile).
pub record IsDaemon (app : Application) (daemon : ℕ) : Type 0 where
  pub last : daemon + 1 ≡ length app.tasks
  pub some : 1 ≤ daemon
  pub endless : is_endless app daemon ≡ true
  pub script : script_of app daemon ≡ NextCommand (commands_of app) ∷ Obey ∷ []
  pub queue : fits_object {Item = ℕ} app (commands_of app) Receive ≡ true

-- an application that is not refused (profile: its limits)
pub record IsWellFormed (app : Application) : Type 0 where
  pub some : 1 ≤ length app.tasks
  pub few : length app.tasks ≤ most_tasks
  pub tasks : AllByRecursion IsDefinition app.tasks
  pub objects : AllByRecursion IsObjectKind app.objects
  pub few_objects : length app.objects ≤ most_objects + (if is_some app.daemon then 1 else 0)
  pub daemon : IfSome app.daemon (IsDaemon app)
  pub few_groups : app.group_count ≤ most_groups
  pub few_variables : length app.variables ≤ most_variables
  pub handlers : AllByRecursion (IsHandler app) app.handlers
  pub few_handlers : length app.handlers ≤ most_handlers
  pub interrupts : AllByRecursion (IsInterrupt app) app.interrupts
  pub few_interrupts : length app.interrupts ≤ most_interrupts
  pub few_at_once : (tick : ℕ) → length (interrupts_at app tick) ≤ most_at_once
  -- each op of the file speaks of what there is
  pub known : AllByRecursion (KnowsAll app) (of_file app.daemon app.tasks)
  pub points : AllByRecursion (IsPointEntry app) app.points
  pub few_points : length app.points ≤ most_points
  pub start : app.start < 4294967296
