use Rattle.std.proofs.Common.{refl}
use Rattle.model.specs.Switching.{to_back, dispatch, choose, yield_now, preempt, slice, settle}
use Rattle.model.specs.Waiting.{wait_in, set_deadline, wake_best, unlock}
use Rattle.model.specs.Time.{wake_due, advance, increment_tick, sleep, set_previous_wake}
use Rattle.model.specs.Handlers.{come, handle, serve, inject, interrupt, tick_interrupt, idle, serve_pending}
use Rattle.model.specs.Ops.{go_to, answer, use_up, delay, delay_until, expect, open_loop, close_turn, branch, skip_branch}
use Rattle.model.specs.Ops.{leave_loop}
use Rattle.model.specs.Objects.{fulfil, attempt}
use Rattle.model.specs.Mutexes.{inherit, after_timeout}
use Rattle.model.specs.Calls.{try, decide, leave_call}
use Rattle.model.specs.Suspension.{suspend_all, resume_scheduler, resume_all}
use Rattle.model.specs.Step.{judge, before_step, step, nobody_ready, ready_at_reset, reset}
use Rattle.laws.specs.EndlessExamples.{serves_and_passes, serves_and_fails, nothing_to_serve, serves_alone}
use Rattle.laws.proofs.ExampleRuns.{is_run}
use Rattle.laws.proofs.examples.examples_with_endless_tasks_run.Goals as goal

pub returns : goal.returns
unfolding to_back dispatch choose yield_now preempt slice settle wait_in set_deadline wake_best unlock wake_due advance
    increment_tick come handle serve inject interrupt tick_interrupt idle sleep set_previous_wake go_to answer use_up delay
    delay_until expect open_loop close_turn branch skip_branch leave_loop fulfil attempt inherit after_timeout try
    decide leave_call suspend_all resume_scheduler resume_all judge serve_pending before_step step nobody_ready ready_at_reset reset
returns c = (
  is_run serves_and_passes.app serves_and_passes.plan serves_and_passes.app.limits serves_and_passes.run refl refl refl refl,
  (
    is_run serves_and_fails.app serves_and_fails.plan serves_and_fails.app.limits serves_and_fails.run refl refl refl refl,
    (
      is_run nothing_to_serve.app nothing_to_serve.plan nothing_to_serve.app.limits nothing_to_serve.run refl refl refl refl,
      (
        is_run serves_alone.app serves_alone.plan serves_alone.app.limits serves_alone.run refl refl refl refl,
        tt,
      ),
    ),
  ),
)
