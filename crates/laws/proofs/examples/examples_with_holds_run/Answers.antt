use Rattle.std.proofs.Common.{refl}
use Rattle.model.specs.Switching.{to_back, dispatch, choose, yield_now, preempt, slice, settle}
use Rattle.model.specs.Waiting.{wait_in, set_deadline, wake_best, unlock}
use Rattle.model.specs.Time.{wake_due, advance, increment_tick, apply_one, sleep, set_previous_wake}
use Rattle.model.specs.Handlers.{come, handle, serve, inject, interrupt, tick_interrupt, idle, serve_pending}
use Rattle.model.specs.Ops.{go_to, answer, use_up, delay, delay_until, expect, open_loop, close_turn}
use Rattle.model.specs.Objects.{fulfil, attempt}
use Rattle.model.specs.Mutexes.{set_priority, inherit, after_timeout, disinherit, give_mutex}
use Rattle.model.specs.Calls.{try, decide, leave_call, do_now}
use Rattle.model.specs.Groups.{set, begin_set, clear, answer_bits, wait_for_bits, begin_bits_wait, check}
use Rattle.model.specs.Suspension.{suspend, resume, call_suspend, call_resume, suspend_all, resume_scheduler, resume_all}
use Rattle.model.specs.Step.{judge, before_step, step, nobody_ready, ready_at_reset, reset}
use Rattle.laws.specs.HoldExamples.{one_set_wakes_two, sleep_cut_off, cut_off_and_periodic, resumed_with_its_deadline}
use Rattle.laws.specs.HoldExamples.{interrupt_while_held, waits_while_held, released_and_not_held, ends_and_holds}
use Rattle.laws.proofs.ExampleRuns.{is_run}
use Rattle.laws.proofs.examples.examples_with_holds_run.Goals as goal

pub returns : goal.returns
unfolding to_back dispatch choose yield_now preempt slice settle wait_in set_deadline wake_best unlock wake_due advance
    increment_tick apply_one sleep set_previous_wake come handle serve inject interrupt tick_interrupt idle go_to answer use_up
    delay delay_until expect open_loop close_turn fulfil attempt set_priority inherit after_timeout disinherit give_mutex try decide
    leave_call do_now set begin_set clear answer_bits wait_for_bits begin_bits_wait check suspend resume call_suspend call_resume
    suspend_all resume_scheduler resume_all judge serve_pending before_step step nobody_ready ready_at_reset reset
returns c = (
  is_run one_set_wakes_two.app one_set_wakes_two.plan one_set_wakes_two.app.limits one_set_wakes_two.run refl refl refl refl,
  (
    is_run sleep_cut_off.app sleep_cut_off.plan sleep_cut_off.app.limits sleep_cut_off.run refl refl refl refl,
    (
      is_run cut_off_and_periodic.app cut_off_and_periodic.plan
          cut_off_and_periodic.app.limits cut_off_and_periodic.run refl refl refl refl,
      (
        is_run resumed_with_its_deadline.app resumed_with_its_deadline.plan
            resumed_with_its_deadline.app.limits resumed_with_its_deadline.run refl refl refl refl,
        (
          is_run interrupt_while_held.app interrupt_while_held.plan
              interrupt_while_held.app.limits interrupt_while_held.run refl refl refl refl,
          (
            is_run waits_while_held.app waits_while_held.plan waits_while_held.app.limits waits_while_held.run refl refl refl refl,
            (
              is_run released_and_not_held.app released_and_not_held.plan
                  released_and_not_held.app.limits released_and_not_held.run refl refl refl refl,
              (
                is_run ends_and_holds.app ends_and_holds.plan ends_and_holds.app.limits ends_and_holds.run refl refl refl refl,
                tt,
              ),
            ),
          ),
        ),
      ),
    ),
  ),
)
