use Rattle.std.proofs.Common.{refl}
use Rattle.model.specs.Switching.{to_back, dispatch, choose, yield_now, preempt, slice, settle}
use Rattle.model.specs.Waiting.{wait_in, set_deadline, wake_best, unlock}
use Rattle.model.specs.Time.{wake_due, advance, apply_one, increment_tick, jump, sleep, set_previous_wake}
use Rattle.model.specs.Handlers.{come, handle, serve, inject, interrupt, tick_interrupt, idle, serve_pending}
use Rattle.model.specs.Ops.{go_to, answer, use_up, delay, delay_until, expect, stamp, since, open_loop, close_turn, branch}
use Rattle.model.specs.Ops.{skip_branch, leave_loop}
use Rattle.model.specs.Objects.{fulfil, attempt}
use Rattle.model.specs.Mutexes.{inherit, after_timeout}
use Rattle.model.specs.Calls.{try, decide, leave_call}
use Rattle.model.specs.Suspension.{suspend_all, resume_scheduler, resume_all}
use Rattle.model.specs.Step.{judge, before_step, step, nobody_ready, ready_at_reset, reset}
use Rattle.laws.specs.StampExamples.{measures_its_time, measures_as_much_as_may_be, misses_its_deadline}
use Rattle.laws.proofs.ExampleRuns.{is_run}
use Rattle.laws.proofs.examples.examples_with_stamps_run.Goals as goal

pub returns : goal.returns
unfolding to_back dispatch choose yield_now preempt slice settle wait_in set_deadline wake_best unlock wake_due advance
    apply_one increment_tick jump come handle serve inject interrupt tick_interrupt idle sleep set_previous_wake go_to answer use_up
    delay
    delay_until expect stamp since open_loop close_turn branch skip_branch leave_loop fulfil attempt inherit after_timeout try
    decide leave_call suspend_all resume_scheduler resume_all judge serve_pending before_step step nobody_ready ready_at_reset reset
returns c = (
  is_run measures_its_time.app measures_its_time.plan measures_its_time.app.limits measures_its_time.run refl refl refl refl,
  (
    is_run measures_as_much_as_may_be.app measures_as_much_as_may_be.plan
        measures_as_much_as_may_be.app.limits measures_as_much_as_may_be.run refl refl refl refl,
    (
      is_run misses_its_deadline.app misses_its_deadline.plan
          misses_its_deadline.app.limits misses_its_deadline.run refl refl refl refl,
      tt,
    ),
  ),
)
