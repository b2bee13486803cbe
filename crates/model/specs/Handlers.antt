-- Interrupts: handlers do their ops without waiting, before a step or at a tick, and the tick itself is one.
use Rattle.std.specs.Prelude.{ℕ, zero, suc, ◌+◌, ◌-◌, ◌==◌, Bool, true, false, not, max, min, List, [], ◌∷◌, ◌++◌, Option}
use Rattle.std.specs.Prelude.{Some, None, nat_lt}
use Rattle.std.specs.Prelude.{if◌then◌else◌, map, filter, fold, filter_map, option_map, length, is_none, nat_eq, nat_le, ◌&&◌}
use Rattle.std.specs.Prelude.{slice_get, unwrap_or}
use Rattle.std.specs.Option.{option_eq}
use Rattle.std.specs.List.{range_with_len}
use Rattle.model.specs.declared.op.IsrOp.{IsrOp}
use Rattle.model.specs.declared.op.IsrOp.TheVariants.{Do, Command, Resume, GetBits, Notify, Mark, Expect, If, Else, Value}
use Rattle.model.specs.declared.op.IsrOp.TheVariants as isr_op
use Rattle.model.specs.declared.event.End.TheVariants.{HandlerCheck}
use Rattle.model.specs.Values.{answer_of, is_missing, lacks_item, number_of, with_number}
use Rattle.model.specs.Answers.{holds}
use Rattle.model.specs.Blocks.{isr_edges_of, past_branch}
use Rattle.model.specs.declared.op.Access.TheVariants.{Send}
use Rattle.model.specs.declared.event.What.{What}
use Rattle.model.specs.declared.event.What.TheVariants.{Isr, IsrNone, IsrMark}
use Rattle.model.specs.Application.{Application, Handler, Interrupt, Limits, ops_of, commands_of, interrupts_at}
use Rattle.model.specs.State.{State, Task, Source, wake_time_of, status_at, bits_at, notification_at, source_at, with_source}
use Rattle.model.specs.State.{for_each}
use Rattle.model.specs.Switching.{write, preempt, slice, unless_held}
use Rattle.model.specs.Time.{increment_tick, jump}
use Rattle.model.specs.Ops.{fail, one_if, store, do_to_source}
use Rattle.model.specs.Objects.{answer_to, attempt}
use Rattle.model.specs.Suspension.{can_resume, resume}
use Rattle.model.specs.Notifications.{lacks_notify_value, notify_with_number, notify_answer, notify}
use Rattle.model.specs.Daemon.{item_of}

-- what an op of a handler reports: its answer, or that this is `none`
abbrev pub isr_told : ℕ → ℕ → Option ℕ → What
isr_told handler op_index (Some n) = Isr handler op_index n
isr_told handler op_index None = IsrNone handler op_index

-- the last answer in a handler behind this op, where it is this before it; `mark` and the ops of blocks leave it (profile)
abbrev pub isr_answer : Application → State → IsrOp → Option ℕ → Option ℕ
isr_answer app s (Do object access) answer = answer_to s object (with_number s.variables answer access)
isr_answer app s (Command c) answer = answer_to s (commands_of app) (Send (item_of c))
isr_answer app s (Resume task) answer = one_if (can_resume (status_at s task))
isr_answer app s (GetBits group) answer = Some (bits_at s group)
isr_answer app s (Notify task action) answer =
    notify_answer (notify_with_number s.variables answer action) (notification_at s task)
isr_answer app s (Value op) answer = answer_of s.variables answer op
isr_answer app s _ answer = answer

-- What the op, done in this state before, answers is reported, where this was the last answer.
abbrev pub tell : Application → (handler op_index : ℕ) → IsrOp → Option ℕ → (before : State) → State → State
tell app handler op_index op answer before s = write (isr_told handler op_index (isr_answer app before op answer)) s

-- what each op of a handler does, where this is the last answer, and its event: a call is done if it is possible
-- (`xQueueSendFromISR` and the like); the answer of resume, mark, and the ops on values are profile
abbrev pub isr : Application → ℕ → ℕ → IsrOp → Option ℕ → State → State
isr app handler op_index (Do object access) answer s =
    tell app handler op_index (Do object access) answer s (attempt None object (with_number s.variables answer access) s)
isr app handler op_index (Command c) answer s =
    tell app handler op_index (Command c) answer s (attempt None (commands_of app) (Send (item_of c)) s)
isr app handler op_index (Resume task) answer s = tell app handler op_index (Resume task) answer s (resume task s)
isr app handler op_index (GetBits group) answer s = tell app handler op_index (GetBits group) answer s s
isr app handler op_index (Notify task action) answer s =
    tell app handler op_index (Notify task action) answer s (notify task (notify_with_number s.variables answer action) s)
isr app handler op_index (Value op) answer s =
    tell app handler op_index (Value op) answer s (store op (answer_of s.variables answer op) s)
isr app handler op_index (isr_op.Source other op) answer s = do_to_source other op s
isr app handler op_index (Mark value) answer s = write (IsrMark handler (number_of s.variables answer value)) s
isr app handler op_index _ answer s = s

-- It is an `expect` that fails where this is the last answer, or it has no value to work with.
abbrev pub is_failed : State → IsrOp → Option ℕ → Bool
is_failed s (Expect condition) answer = not (holds s.variables condition answer)
is_failed s (Do object access) answer = lacks_item answer access
is_failed s (Notify task action) answer = lacks_notify_value answer action
is_failed s (Mark value) answer = is_missing answer value
is_failed s (Value op) answer = is_none (answer_of s.variables answer op)
is_failed s _ answer = false

-- over how many of the ops behind it an op jumps, where this is the last answer
abbrev pub isr_jump : State → IsrOp → Option ℕ → List IsrOp → ℕ
isr_jump s (If condition) answer ops = if holds s.variables condition answer then 0 else past_branch 0 (isr_edges_of ops)
isr_jump s Else answer ops = past_branch 0 (isr_edges_of ops)
isr_jump s _ answer ops = 0

-- Ops of a handler come one after another, the first of which is the one of this index, except that this many are jumped over; this
-- is the last answer. A failed `expect`, or an op without its value, ends the handler, and the run after this step (profile).
abbrev pub isr_each : Application → (handler op_index over : ℕ) → Option ℕ → List IsrOp → State → State
isr_each app handler op_index over answer [] s = s
isr_each app handler op_index (suc over) answer (op ∷ ops) s = isr_each app handler (op_index + 1) over answer ops s
isr_each app handler op_index zero answer (op ∷ ops) s =
    if is_failed s op answer
    then fail (HandlerCheck handler op_index) s
    else isr_each app handler (op_index + 1) (isr_jump s op answer ops)
    (isr_answer app s op answer) ops (isr app handler op_index op answer s)

-- The handler runs; at first its last answer is `none`.
unfoldable pub handle : Application → ℕ → State → State
handle app handler s = isr_each app handler 0 0 None (ops_of app handler) s

-- ---- when interrupts can come

-- An injected interrupt can come now: it is armed, and far enough from its last coming.
abbrev pub can_come : State → ℕ → Bool
can_come s source = (source_at s source).armed && nat_le (source_at s source).free_from s.elapsed

-- how many elapsed ticks an injected interrupt comes after the last of its handler at least
abbrev pub apart_of : Application → ℕ → ℕ
apart_of app handler = unwrap_or (option_map (λ (h : Handler). h.apart) (slice_get app.handlers handler)) 0

-- from which elapsed tick on it can come again, if its handler comes now; nothing is noted if it may come at any time
abbrev pub free_after : Application → ℕ → State → ℕ
free_after app handler s =
    if apart_of app handler == 0 then (source_at s handler).free_from else s.elapsed + apart_of app handler

-- The handler comes at this elapsed tick.
abbrev pub note_coming : Application → ℕ → State → State
note_coming app handler s =
    with_source handler (record (source_at s handler) { free_from = free_after app handler s }) s

-- A handler comes, and runs.
unfoldable pub come : Application → ℕ → State → State
come app handler s = handle app handler (note_coming app handler s)

-- ---- ticks

-- It is raised for this elapsed tick.
abbrev pub is_raised_for : ℕ → Source → Bool
is_raised_for tick x = option_eq nat_eq x.raised (Some tick)

-- the handlers that are raised for this tick, in the order of the file
abbrev pub raised_now : State → List ℕ
raised_now s = filter (λ source. is_raised_for s.elapsed (source_at s source)) (range_with_len 0 (length s.sources))

-- They are so no more.
abbrev pub none_raised_now : State → State
none_raised_now s =
    record s { sources = map (λ (x : Source). if is_raised_for s.elapsed x then record x { raised = None } else x) s.sources }

-- The base interrupts of this tick come, and then the handlers that are raised for it, each in the order of the file. Which these
-- are is decided before the first of them.
unfoldable pub interrupt : Application → State → State
interrupt app s = for_each (come app) (interrupts_at app s.elapsed ++ raised_now s) (none_raised_now s)

-- The tick interrupt: one tick comes, then its base interrupts, and then a switch if one is due (a port's
-- `xPortSysTickHandler`).
unfoldable pub tick_interrupt : Application → State → State
tick_interrupt app s = unless_held slice (interrupt app (increment_tick s))

-- ---- injected interrupts

-- The tick is an interrupt source too: its number comes after those of the handlers.
abbrev pub is_tick : Application → ℕ → Bool
is_tick app source = source == length app.handlers

-- An interrupt comes: the tick, or a handler, which runs, and after which a higher task may run (`portYIELD_FROM_ISR`).
unfoldable pub serve : Application → ℕ → State → State
serve app source s = if is_tick app source then tick_interrupt app s else unless_held preempt (come app source s)

-- An injected interrupt comes, if it can.
unfoldable pub inject : Application → ℕ → State → State
inject app source s = if can_come s source then serve app source s else s

-- ---- pending interrupts

-- The interrupt is pending, if it can come; that counts as its coming. One that is pending already stays so, once.
abbrev pub pend : Application → ℕ → State → State
pend app source s =
    if can_come s source
    then note_coming app source (with_source source (record (source_at s source) { pending = true }) s)
    else s

-- those that are pending: the handlers in the order of the file, and then the tick
abbrev pub pending_of : State → List ℕ
pending_of s = filter (λ source. (source_at s source).pending) (range_with_len 0 (length s.sources))

-- Nothing is pending any more.
abbrev pub none_pending : State → State
none_pending s = record s { sources = map (λ (x : Source). record x { pending = false }) s.sources }

-- All that are pending come, one after another.
unfoldable pub serve_pending : Application → State → State
serve_pending app s = for_each (serve app) (pending_of s) (none_pending s)

-- ---- idle

-- how many ticks it is until each task that wakes by itself does so
abbrev pub ticks_to_wake : State → List ℕ
ticks_to_wake s = filter_map (λ (t : Task). option_map (λ time. time - s.time) (wake_time_of t.status)) s.tasks

-- how many it is until each base interrupt that is still to come
abbrev pub ticks_to_interrupt : Application → State → List ℕ
ticks_to_interrupt app s =
    map (λ (i : Interrupt). i.tick - s.elapsed) (filter (λ (i : Interrupt). nat_lt s.elapsed i.tick) app.interrupts)

-- how many it is until each handler that is raised
abbrev pub ticks_to_raised : State → List ℕ
ticks_to_raised s = filter_map (λ (x : Source). option_map (λ tick. tick - s.elapsed) x.raised) s.sources

-- How many it is until the first of these, or until the limit is reached, if that is sooner. It is one at least: a tick that is
-- injected into this step may have reached the limit.
abbrev pub ticks_ahead : Application → Limits → State → ℕ
ticks_ahead app limits s =
    max 1 (fold min (limits.ticks - s.elapsed) (ticks_to_wake s ++ ticks_to_interrupt app s ++ ticks_to_raised s))

-- Idle lets a tick pass. In an application that is tickless it lets all pass up to the next thing to happen. With the last of
-- them its base interrupts come, and a switch if one is due.
unfoldable pub idle : Application → Limits → State → State
idle app limits s =
    if app.tickless
    then unless_held slice (interrupt app (jump (ticks_ahead app limits s) s))
    else tick_interrupt app s
