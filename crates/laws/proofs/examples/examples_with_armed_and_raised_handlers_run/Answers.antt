use Rattle.std.proofs.Common.{[], refl}
use Rattle.model.specs.Switching.{to_back, dispatch, choose, yield_now, preempt, slice, settle}
use Rattle.model.specs.Waiting.{wait_in, set_deadline, wake_best, unlock}
use Rattle.model.specs.Time.{wake_due, advance, increment_tick, jump, apply_one, sleep, set_previous_wake}
use Rattle.model.specs.Handlers.{come, handle, serve, inject, interrupt, tick_interrupt, idle, serve_pending}
use Rattle.model.specs.Ops.{control, go_to, answer, use_up, delay, delay_until, expect, open_loop, close_turn, with_sections}
use Rattle.model.specs.Objects.{fulfil, attempt}
use Rattle.model.specs.Mutexes.{set_priority, inherit, after_timeout, disinherit, give_mutex}
use Rattle.model.specs.Calls.{try, decide, leave_call, do_now}
use Rattle.model.specs.Groups.{set, begin_set, clear, answer_bits, wait_for_bits, begin_bits_wait, check}
use Rattle.model.specs.Suspension.{suspend, resume, call_suspend, call_resume, suspend_all, resume_scheduler, resume_all}
use Rattle.model.specs.Step.{judge, before_step, step, nobody_ready, ready_at_reset, reset}
use Rattle.model.specs.Run.{IsRun}
use Rattle.laws.specs.SourceExamples.{arms_it, before_it_is_armed, when_it_is_armed, disarms_itself, pending_and_disarmed}
use Rattle.laws.specs.SourceExamples.{base_and_disarmed, too_soon, after_a_base_interrupt, again_and_again, cancelled_before}
use Rattle.laws.specs.SourceExamples.{raised_anew, injected_meanwhile, due_already, answers_later}
use Rattle.laws.proofs.ExampleRuns.{is_run}
use Rattle.laws.proofs.examples.examples_with_armed_and_raised_handlers_run.Goals as goal

base_is_run : IsRun arms_it [] arms_it.limits before_it_is_armed.row
unfolding to_back dispatch choose yield_now preempt slice settle wait_in set_deadline wake_best unlock wake_due advance
    increment_tick jump apply_one sleep set_previous_wake come handle serve inject interrupt tick_interrupt idle control go_to
    answer use_up delay delay_until expect open_loop close_turn with_sections fulfil attempt set_priority inherit after_timeout
    disinherit give_mutex try decide leave_call do_now set begin_set clear answer_bits wait_for_bits begin_bits_wait check suspend
    resume call_suspend call_resume suspend_all resume_scheduler resume_all judge serve_pending before_step step nobody_ready
    ready_at_reset reset
base_is_run = is_run arms_it [] arms_it.limits before_it_is_armed.row refl refl refl refl

pub returns-clause-rows : goal.returns-clause-rows
unfolding to_back dispatch choose yield_now preempt slice settle wait_in set_deadline wake_best unlock wake_due advance
    increment_tick jump apply_one sleep set_previous_wake come handle serve inject interrupt tick_interrupt idle control go_to
    answer use_up delay delay_until expect open_loop close_turn with_sections fulfil attempt set_priority inherit after_timeout
    disinherit give_mutex try decide leave_call do_now set begin_set clear answer_bits wait_for_bits begin_bits_wait check suspend
    resume call_suspend call_resume suspend_all resume_scheduler resume_all judge serve_pending before_step step nobody_ready
    ready_at_reset reset
returns-clause-rows c = (
  (base_is_run, refl),
  (
    (
      before_it_is_armed.row,
      base_is_run,
      refl,
      is_run arms_it when_it_is_armed.point arms_it.limits when_it_is_armed.row refl refl refl refl,
    ),
    tt,
  ),
)

pub returns-clause-runs : goal.returns-clause-runs
unfolding to_back dispatch choose yield_now preempt slice settle wait_in set_deadline wake_best unlock wake_due advance
    increment_tick jump apply_one sleep set_previous_wake come handle serve inject interrupt tick_interrupt idle control go_to
    answer use_up delay delay_until expect open_loop close_turn with_sections fulfil attempt set_priority inherit after_timeout
    disinherit give_mutex try decide leave_call do_now set begin_set clear answer_bits wait_for_bits begin_bits_wait check suspend
    resume call_suspend call_resume suspend_all resume_scheduler resume_all judge serve_pending before_step step nobody_ready
    ready_at_reset reset
returns-clause-runs c = (
  is_run disarms_itself.app disarms_itself.plan disarms_itself.app.limits disarms_itself.run refl refl refl refl,
  (
    is_run pending_and_disarmed.app pending_and_disarmed.plan pending_and_disarmed.app.limits pending_and_disarmed.run refl refl
        refl refl,
    (
      is_run base_and_disarmed.app base_and_disarmed.plan base_and_disarmed.app.limits base_and_disarmed.run refl refl refl refl,
      (
        is_run too_soon.app too_soon.plan too_soon.app.limits too_soon.run refl refl refl refl,
        (
          is_run after_a_base_interrupt.app after_a_base_interrupt.plan after_a_base_interrupt.app.limits after_a_base_interrupt.run
              refl refl refl refl,
          (
            is_run again_and_again.app again_and_again.plan again_and_again.app.limits again_and_again.run refl refl refl refl,
            (
              is_run cancelled_before.app cancelled_before.plan cancelled_before.app.limits cancelled_before.run refl refl refl
                  refl,
              (
                is_run raised_anew.app raised_anew.plan raised_anew.app.limits raised_anew.run refl refl refl refl,
                (
                  is_run injected_meanwhile.app injected_meanwhile.plan injected_meanwhile.app.limits injected_meanwhile.run refl
                      refl refl refl,
                  (
                    is_run due_already.app due_already.plan due_already.app.limits due_already.run refl refl refl refl,
                    (
                      is_run answers_later.app answers_later.plan answers_later.app.limits answers_later.run refl refl refl refl,
                      tt,
                    ),
                  ),
                ),
              ),
            ),
          ),
        ),
      ),
    ),
  ),
)
