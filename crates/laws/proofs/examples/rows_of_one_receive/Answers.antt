use Rattle.std.proofs.Common.{[], refl}
use Rattle.model.specs.Switching.{to_back, dispatch, choose, yield_now, preempt, slice, settle}
use Rattle.model.specs.Waiting.{wait_in, set_deadline, wake_best, unlock}
use Rattle.model.specs.Time.{wake_due, advance, increment_tick, sleep, set_previous_wake}
use Rattle.model.specs.Handlers.{come, handle, serve, inject, interrupt, tick_interrupt, idle, serve_pending}
use Rattle.model.specs.Ops.{go_to, answer, use_up, delay, delay_until, expect, open_loop, close_turn}
use Rattle.model.specs.Objects.{fulfil, attempt}
use Rattle.model.specs.Mutexes.{inherit, after_timeout}
use Rattle.model.specs.Calls.{try, decide, leave_call}
use Rattle.model.specs.Step.{judge, before_step, step, nobody_ready, ready_at_reset, reset}
use Rattle.model.specs.Run.{IsRun}
use Rattle.laws.specs.HandlerExamples.{one_receive, before_the_wait, in_the_wait, beside_idle, at_the_last_step, past_the_end}
use Rattle.laws.proofs.ExampleRuns.{is_run}
use Rattle.laws.proofs.examples.rows_of_one_receive.Goals as goal

base_is_run : IsRun one_receive [] one_receive.limits past_the_end.row
unfolding to_back dispatch choose yield_now preempt slice settle wait_in set_deadline wake_best unlock
    wake_due advance increment_tick come handle serve inject interrupt tick_interrupt idle sleep set_previous_wake
    go_to answer use_up delay delay_until expect open_loop close_turn fulfil attempt inherit
    after_timeout try decide leave_call judge serve_pending before_step step nobody_ready ready_at_reset reset
base_is_run = is_run one_receive [] one_receive.limits past_the_end.row refl refl refl refl

pub returns : goal.returns
unfolding to_back dispatch choose yield_now preempt slice settle wait_in set_deadline wake_best unlock
    wake_due advance increment_tick come handle serve inject interrupt tick_interrupt idle sleep set_previous_wake
    go_to answer use_up delay delay_until expect open_loop close_turn fulfil attempt inherit
    after_timeout try decide leave_call judge serve_pending before_step step nobody_ready ready_at_reset reset
returns c = (
  (
    past_the_end.row,
    base_is_run,
    refl,
    is_run one_receive (before_the_wait 0).point one_receive.limits (before_the_wait 0).row refl refl refl refl,
  ),
  (
    (
      past_the_end.row,
      base_is_run,
      refl,
      is_run one_receive (before_the_wait 1).point one_receive.limits (before_the_wait 1).row refl refl refl refl,
    ),
    (
      (
        past_the_end.row,
        base_is_run,
        refl,
        is_run one_receive (in_the_wait 2).point one_receive.limits (in_the_wait 2).row refl refl refl refl,
      ),
      (
        (
          past_the_end.row,
          base_is_run,
          refl,
          is_run one_receive (in_the_wait 3).point one_receive.limits (in_the_wait 3).row refl refl refl refl,
        ),
        (
          (
            past_the_end.row,
            base_is_run,
            refl,
            is_run one_receive (in_the_wait 4).point one_receive.limits (in_the_wait 4).row refl refl refl refl,
          ),
          (
            (
              past_the_end.row,
              base_is_run,
              refl,
              is_run one_receive beside_idle.point one_receive.limits beside_idle.row refl refl refl refl,
            ),
            (
              (
                past_the_end.row,
                base_is_run,
                refl,
                is_run one_receive at_the_last_step.point one_receive.limits at_the_last_step.row refl refl refl refl,
              ),
              (
                (is_run one_receive [] one_receive.limits past_the_end.row refl refl refl refl, refl),
                tt,
              ),
            ),
          ),
        ),
      ),
    ),
  ),
)
