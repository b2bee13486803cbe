use Rattle.std.proofs.Common.{[], refl}
use Rattle.model.specs.Switching.{to_back, dispatch, choose, yield_now, preempt, slice, settle}
use Rattle.model.specs.Waiting.{wait_in, set_deadline, wake_best, unlock}
use Rattle.model.specs.Time.{wake_due, advance, increment_tick, sleep, set_previous_wake}
use Rattle.model.specs.Handlers.{interrupt, tick_interrupt, idle, serve_pending}
use Rattle.model.specs.Ops.{go_to, answer, use_up, delay, delay_until, expect, open_loop, close_turn}
use Rattle.model.specs.Objects.{fulfil, attempt}
use Rattle.model.specs.Mutexes.{set_priority, inherit, after_timeout, disinherit, give_mutex}
use Rattle.model.specs.Calls.{try, decide, leave_call, do_now}
use Rattle.model.specs.Step.{judge, before_step, step, nobody_ready, ready_at_reset, reset}
use Rattle.laws.specs.MutexExamples.{inversion_cured, falls_to_the_next, keeps_it_for_another, one_of_two_given, locks_its_own}
use Rattle.laws.specs.MutexExamples.{not_the_holder, given_above_the_maximum}
use Rattle.laws.proofs.ExampleRuns.{is_run}
use Rattle.laws.proofs.examples.examples_with_mutexes_run.Goals as goal

pub returns : goal.returns
unfolding to_back dispatch choose yield_now preempt slice settle wait_in set_deadline wake_best unlock
    wake_due advance increment_tick interrupt tick_interrupt idle sleep set_previous_wake go_to answer use_up
    delay delay_until expect open_loop close_turn fulfil attempt set_priority inherit after_timeout disinherit
    give_mutex try decide leave_call do_now judge serve_pending before_step step nobody_ready ready_at_reset reset
returns c = (
  is_run inversion_cured.app [] inversion_cured.app.limits inversion_cured.run refl refl refl refl,
  (
    is_run falls_to_the_next.app [] falls_to_the_next.app.limits falls_to_the_next.run refl refl refl refl,
    (
      is_run keeps_it_for_another.app [] keeps_it_for_another.app.limits keeps_it_for_another.run refl refl refl refl,
      (
        is_run one_of_two_given.app [] one_of_two_given.app.limits one_of_two_given.run refl refl refl refl,
        (
          is_run locks_its_own.app [] locks_its_own.app.limits locks_its_own.run refl refl refl refl,
          (
            is_run not_the_holder.app [] not_the_holder.app.limits not_the_holder.run refl refl refl refl,
            (
              is_run given_above_the_maximum.app [] given_above_the_maximum.app.limits
                  given_above_the_maximum.run refl refl refl refl,
              tt,
            ),
          ),
        ),
      ),
    ),
  ),
)
