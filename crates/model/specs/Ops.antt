-- A task's place in its script: an op is complete, a call returns, loops turn.
use Rattle.std.specs.Prelude.{ℕ, ◌+◌, ◌-◌, ◌==◌, Bool, true, false, List, [], ◌∷◌, drop, min, Option, Some, None, nat_lt, nat_le}
use Rattle.std.specs.Prelude.{if◌then◌else◌}
use Rattle.model.specs.declared.answer.AnswerCondition.{AnswerCondition}
use Rattle.model.specs.declared.loops.Loop.{Loop}
use Rattle.model.specs.declared.event.What.{What}
use Rattle.model.specs.declared.event.What.TheVariants.{Call, CallNone}
use Rattle.std.specs.Option.{option_or}
use Rattle.model.specs.declared.event.End.{End}
use Rattle.model.specs.declared.event.End.TheVariants.{Check}
use Rattle.model.specs.declared.value.ValueOp.{ValueOp}
use Rattle.model.specs.declared.source.SourceOp.{SourceOp}
use Rattle.model.specs.declared.source.SourceOp.TheVariants.{Arm, Disarm, Raise, Cancel}
use Rattle.model.specs.Values.{answer_of, stored}
use Rattle.model.specs.Answers.{holds}
use Rattle.model.specs.Blocks.{jump_from}
use Rattle.model.specs.Application.{Application, op_count, script_of}
use Rattle.model.specs.State.{State, Progress, Task, Ended, no_call, task_at, progress_at, with_task, with_progress}
use Rattle.model.specs.State.{source_at, with_source}
use Rattle.model.specs.Switching.{write, yield_now}
use Rattle.model.specs.Time.{sleep, set_previous_wake}

-- ---- an op is complete

-- the task at this op, with nothing of it done; past the last op, whatever that was, it is Ended, and keeps its
-- mutexes (profile)
abbrev pub moved_to : ℕ → ℕ → Progress → Task → Task
moved_to count op_index p t = record t {
  progress = record p { op_index = op_index; used = 0; call = no_call };
  status = if op_index == count then Ended else t.status;
}

-- The task, whose progress is now as given, goes on at this op.
unfoldable pub go_to : Application → ℕ → ℕ → Progress → State → State
go_to app task op_index p s = with_task task (moved_to (op_count app task) op_index p (task_at s task)) s

-- The op of the task, whose progress is now as given, is complete.
abbrev pub complete : Application → ℕ → Progress → State → State
complete app task p s = go_to app task (p.op_index + 1) p s

-- what a complete call reports: its answer, or that this is `none`
abbrev pub called : ℕ → ℕ → Option ℕ → What
called task op_index (Some n) = Call task op_index n
called task op_index None = CallNone task op_index

-- The task's call is complete with this answer.
unfoldable pub answer : Application → ℕ → Option ℕ → State → State
answer app task a s =
    let p = progress_at s task in
    complete app task (record p { answer = a }) (write (called task p.op_index a) s)

-- the answer of a call that did something, or did nothing
abbrev pub one_if : Bool → Option ℕ
one_if did = Some (if did then 1 else 0)

-- ---- ops that let time pass

-- One more of a `work` is used up, the last or another (profile).
unfoldable pub use_up : Application → ℕ → ℕ → State → State
use_up app task n s =
    let p = progress_at s task in
    if p.used + 1 == n then complete app task p s else with_progress task (record p { used = p.used + 1 }) s

-- The task sleeps for this many ticks, or yields if that is none (`vTaskDelay`); it returns 0 (profile). If it sleeps,
-- the step's end makes the choice (`settle`).
unfoldable pub delay : Application → ℕ → ℕ → State → State
delay app task n s =
    let t = answer app task (Some 0) s in
    if n == 0 then yield_now t else sleep task (s.time + n) t

-- The task sleeps until this time if that is in the future, otherwise it goes on (profile: FreeRTOS yields then); the next
-- one counts from that time (`xTaskDelayUntil`).
unfoldable pub delay_until : Application → ℕ → ℕ → State → State
delay_until app task wake_time s =
    if nat_lt s.time wake_time
    then set_previous_wake task wake_time (sleep task wake_time (answer app task (Some 1) s))
    else set_previous_wake task wake_time (answer app task (Some 0) s)

-- The task notes the time.
unfoldable pub stamp : Application → ℕ → State → State
stamp app task s = complete app task (record (progress_at s task) { stamp = s.time }) s

-- It returns how many ticks have passed since then, in 32 bits at most.
unfoldable pub since : Application → ℕ → State → State
since app task s = answer app task (Some (min (s.time - (progress_at s task).stamp) 4294967295)) s

-- ---- values (profile)

-- What the op returns is stored, if it says so.
abbrev pub store : ValueOp → Option ℕ → State → State
store op a s = record s { variables = stored op a s.variables }

-- The op loads a variable, stores one, or calculates, and returns.
unfoldable pub calculate : Application → ℕ → ValueOp → State → State
calculate app task op s =
    let a = answer_of s.variables (progress_at s task).answer op in answer app task a (store op a s)

-- ---- interrupt sources (profile)

-- what an op does to an interrupt handler
abbrev pub do_to_source : ℕ → SourceOp → State → State
do_to_source handler Arm s = with_source handler (record (source_at s handler) { armed = true }) s
do_to_source handler Disarm s = with_source handler (record (source_at s handler) { armed = false }) s
do_to_source handler (Raise ticks) s =
    with_source handler (record (source_at s handler) { raised = Some (s.elapsed + ticks) }) s
do_to_source handler Cancel s = with_source handler (record (source_at s handler) { raised = None }) s

-- The task does so. It returns nothing.
unfoldable pub control : Application → (task handler : ℕ) → SourceOp → State → State
control app task handler op s = complete app task (progress_at s task) (do_to_source handler op s)

-- ---- critical sections

-- So many critical sections are open, and the op is complete.
unfoldable pub with_sections : Application → ℕ → ℕ → State → State
with_sections app task n s = complete app task (progress_at s task) (record s { sections = n })

-- One more is open (`taskENTER_CRITICAL`).
abbrev pub enter_critical : Application → ℕ → State → State
enter_critical app task s = with_sections app task (s.sections + 1) s

-- One fewer is open (`taskEXIT_CRITICAL`). If it was the last, the pending interrupts come before the next
-- step.
abbrev pub exit_critical : Application → ℕ → State → State
exit_critical app task s = with_sections app task (s.sections - 1) s

-- ---- ops of the script alone (profile)

-- A check fails, which ends the run after the step, unless one has failed in the step already.
abbrev pub fail : End → State → State
fail check s = record s { stopped = option_or s.stopped (Some check) }

-- The op is complete if the condition holds of the last answer; otherwise the run ends, and the task stays at its op.
unfoldable pub expect : Application → ℕ → AnswerCondition → State → State
expect app task condition s =
    let p = progress_at s task in
    if holds s.variables condition p.answer then complete app task p s else fail (Check task p.op_index) s

-- A loop of this many turns, or without end, begins at the next op.
unfoldable pub open_loop : Application → ℕ → Option ℕ → State → State
open_loop app task turns s =
    let p = progress_at s task in
    complete app task (record p { loops = record { start = p.op_index + 1; left = turns } ∷ p.loops }) s

-- The next turn of the innermost loop begins, with this many left, this one included; the last one leaves the loop.
abbrev pub next_turn : Application → ℕ → Progress → Loop → List Loop → Option ℕ → State → State
next_turn app task p l ls None s = go_to app task l.start p s
next_turn app task p l ls (Some left) s =
    if nat_le left 1
    then complete app task (record p { loops = ls }) s
    else go_to app task l.start (record p { loops = record l { left = Some (left - 1) } ∷ ls }) s

-- The innermost loop has one turn fewer. If none is open the op is complete.
abbrev pub turn : Application → ℕ → Progress → List Loop → State → State
turn app task p [] s = complete app task p s
turn app task p (l ∷ ls) s = next_turn app task p l ls l.left s

-- That is what the `end` of a loop does.
unfoldable pub close_turn : Application → ℕ → State → State
close_turn app task s = turn app task (progress_at s task) (progress_at s task).loops s

-- The task, whose progress is now as given, goes on at the op that its op jumps to.
abbrev pub jump : Application → ℕ → Progress → State → State
jump app task p s = go_to app task (jump_from (script_of app task) p.op_index) p s

-- An `if` goes on with its first branch if the condition holds of the last answer, and otherwise jumps over it.
unfoldable pub branch : Application → ℕ → AnswerCondition → State → State
branch app task condition s =
    let p = progress_at s task in if holds s.variables condition p.answer then complete app task p s else jump app task p s

-- An `else`, to which the first branch comes at its end, jumps over the other.
unfoldable pub skip_branch : Application → ℕ → State → State
skip_branch app task s = jump app task (progress_at s task) s

-- A `break` jumps out of the innermost loop.
unfoldable pub leave_loop : Application → ℕ → State → State
leave_loop app task s = let p = progress_at s task in jump app task (record p { loops = drop 1 p.loops }) s
