use Rattle.std.proofs.Common.{[], refl}
use Rattle.model.specs.Switching.{to_back, dispatch, choose, yield_now, preempt, slice, settle}
use Rattle.model.specs.Waiting.{wait_in, set_deadline, wake_best, unlock}
use Rattle.model.specs.Time.{wake_due, advance, increment_tick, sleep, set_previous_wake}
use Rattle.model.specs.Handlers.{interrupt, tick_interrupt, idle, serve_pending}
use Rattle.model.specs.Ops.{go_to, answer, use_up, delay, delay_until, expect, open_loop, close_turn}
use Rattle.model.specs.Objects.{fulfil}
use Rattle.model.specs.Mutexes.{inherit, after_timeout}
use Rattle.model.specs.Calls.{try, decide, leave_call}
use Rattle.model.specs.Step.{judge, before_step, step, nobody_ready, ready_at_reset, reset}
use Rattle.laws.specs.Examples.{round_robin, delay_zero, delay_one, across_the_wrap, periodic, two_turns, failed_expect, times_out}
use Rattle.laws.specs.Examples.{peek_passes_on, send_wakes, two_writers}
use Rattle.laws.proofs.ExampleRuns.{is_run}
use Rattle.laws.proofs.examples.examples_run.Goals as goal

pub returns : goal.returns
unfolding to_back dispatch choose yield_now preempt slice settle wait_in set_deadline wake_best unlock wake_due advance
    increment_tick interrupt tick_interrupt idle sleep set_previous_wake go_to answer use_up delay delay_until expect open_loop
    close_turn fulfil inherit after_timeout try decide leave_call judge serve_pending before_step step nobody_ready ready_at_reset
    reset
returns c = (
  is_run round_robin.app [] round_robin.app.limits round_robin.run refl refl refl refl,
  (
    is_run delay_zero.app [] delay_zero.app.limits delay_zero.run refl refl refl refl,
    (
      is_run delay_one.app [] delay_one.app.limits delay_one.run refl refl refl refl,
      (
        is_run across_the_wrap.app [] across_the_wrap.app.limits across_the_wrap.run refl refl refl refl,
        (
          is_run periodic.app [] periodic.app.limits periodic.run refl refl refl refl,
          (
            is_run two_turns.app [] two_turns.app.limits two_turns.run refl refl refl refl,
            (
              is_run failed_expect.app [] failed_expect.app.limits failed_expect.run refl refl refl refl,
              (
                is_run times_out.app [] times_out.app.limits times_out.run refl refl refl refl,
                (
                  is_run peek_passes_on.app [] peek_passes_on.app.limits peek_passes_on.run refl refl refl refl,
                  (
                    is_run send_wakes.app [] send_wakes.app.limits send_wakes.run refl refl refl refl,
                    (
                      is_run two_writers.app [] two_writers.app.limits two_writers.run refl refl refl refl,
                      tt,
                    ),
                  ),
                ),
              ),
            ),
          ),
        ),
      ),
    ),
  ),
)
