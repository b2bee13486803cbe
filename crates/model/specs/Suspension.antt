-- Tasks suspended and resumed, and the scheduler suspended and resumed.
use Rattle.std.specs.Prelude.{ℕ, ◌+◌, ◌-◌, ◌==◌, Bool, true, false, Some, min, if◌then◌else◌}
use Rattle.model.specs.declared.call.Phase.{Phase}
use Rattle.model.specs.declared.call.Phase.TheVariants.{Try, Decide}
use Rattle.model.specs.Application.{Application}
use Rattle.model.specs.State.{State, Progress, Status, Suspended, Ended, status_at, progress_at, with_status, with_progress}
use Rattle.model.specs.Switching.{make_ready, preempt, unless_held}
use Rattle.model.specs.Time.{release}
use Rattle.model.specs.Ops.{answer, one_if}

-- ---- tasks

-- A suspend of such a task does something.
abbrev pub can_suspend : Status → Bool
can_suspend Suspended = false
can_suspend Ended = false
can_suspend _ = true

-- A resume of such a task does something (`prvTaskIsTaskSuspended`).
abbrev pub can_resume : Status → Bool
can_resume Suspended = true
can_resume _ = false

-- The task is in no list any more (`vTaskSuspend`).
unfoldable pub suspend : ℕ → State → State
suspend task s = if can_suspend (status_at s task) then with_status task Suspended s else s

-- A call that was to decide tries again.
abbrev pub phase_resumed : Phase → Phase
phase_resumed Decide = Try
phase_resumed phase = phase

-- A sleep that was cut off is over: the task counts from now, if its wake time is in the future (profile).
abbrev pub resumed : ℕ → Progress → Progress
resumed now p = record p {
  previous_wake = min p.previous_wake now;
  call = record p.call { phase = phase_resumed p.call.phase };
}

-- One resume undoes any number of suspends (`vTaskResume`, `xTaskResumeFromISR`).
unfoldable pub resume : ℕ → State → State
resume task s =
    if can_resume (status_at s task)
    then make_ready task (with_progress task (resumed s.time (progress_at s task)) s)
    else s

-- The task's call suspends this one, perhaps the task itself; the answer is profile.
unfoldable pub call_suspend : Application → ℕ → ℕ → State → State
call_suspend app task other s = preempt (answer app task (one_if (can_suspend (status_at s other))) (suspend other s))

-- The task's call resumes this one; the answer is profile.
unfoldable pub call_resume : Application → ℕ → ℕ → State → State
call_resume app task other s = preempt (answer app task (one_if (can_resume (status_at s other))) (resume other s))

-- ---- the scheduler

-- One more `suspend_all` is active (`vTaskSuspendAll`); it returns 0 (profile).
unfoldable pub suspend_all : Application → ℕ → State → State
suspend_all app task s = answer app task (Some 0) (record s { suspensions = s.suspensions + 1 })

-- One `suspend_all` fewer is active; after the last the held ticks are applied, with no time slice (profile).
unfoldable pub resume_scheduler : State → State
resume_scheduler s =
    let t : State = record s { suspensions = s.suspensions - 1 } in
    if s.suspensions == 1 then release t else t

-- That is done, and after the last a higher task may run (`xTaskResumeAll`); it returns 0 (profile).
unfoldable pub resume_all : Application → ℕ → State → State
resume_all app task s = unless_held preempt (answer app task (Some 0) (resume_scheduler s))
