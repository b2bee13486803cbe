use Rattle.std.proofs.Common.{refl}
use Rattle.model.specs.Switching.{to_back, dispatch, choose, yield_now, preempt, slice, settle}
use Rattle.model.specs.Waiting.{wait_in, set_deadline, wake_best, unlock}
use Rattle.model.specs.Time.{wake_due, advance, increment_tick, apply_one, sleep, set_previous_wake}
use Rattle.model.specs.Handlers.{come, handle, serve, inject, interrupt, tick_interrupt, idle, serve_pending}
use Rattle.model.specs.Ops.{go_to, answer, use_up, delay, delay_until, expect, open_loop, close_turn, with_sections}
use Rattle.model.specs.Ops.{branch, skip_branch, leave_loop, calculate}
use Rattle.model.specs.Objects.{fulfil, attempt}
use Rattle.model.specs.Mutexes.{set_priority, inherit, after_timeout, disinherit, give_mutex}
use Rattle.model.specs.Calls.{try, decide, leave_call, do_now}
use Rattle.model.specs.Groups.{set, begin_set, clear, answer_bits, wait_for_bits, begin_bits_wait, check}
use Rattle.model.specs.Suspension.{suspend, resume, call_suspend, call_resume, suspend_all, resume_scheduler, resume_all}
use Rattle.model.specs.Step.{judge, before_step, step, nobody_ready, ready_at_reset, reset}
use Rattle.model.specs.Notifications.{notify, call_notify, end_notification_wait, wait_for_notification, begin_notification_wait}
use Rattle.model.specs.Notifications.{check_notification, clear_notification}
use Rattle.laws.specs.NotificationExamples.{before_the_take, in_the_window, while_it_waits, after_its_deadline}
use Rattle.laws.specs.NotificationExamples.{takes_both_at_once, takes_one_by_one, takes_nothing, keeps_and_overwrites}
use Rattle.laws.specs.NotificationExamples.{clears_its_masks, waits_in_vain, has_no_value, handler_has_no_value}
use Rattle.laws.specs.NotificationExamples.{goes_first, suspended_is_not_woken, late_keeps_its_place, never_notified}
use Rattle.laws.specs.NotificationExamples.{notifies_while_suspended, takes_while_critical}
use Rattle.laws.proofs.ExampleRuns.{is_run}
use Rattle.laws.proofs.examples.examples_with_notifications_run.Goals as goal

pub returns : goal.returns
unfolding to_back dispatch choose yield_now preempt slice settle wait_in set_deadline wake_best unlock wake_due advance
    increment_tick apply_one sleep set_previous_wake come handle serve inject interrupt tick_interrupt idle go_to answer use_up
    delay delay_until expect open_loop close_turn with_sections branch skip_branch leave_loop calculate fulfil attempt
    set_priority inherit after_timeout disinherit give_mutex try decide leave_call do_now set begin_set clear answer_bits
    wait_for_bits begin_bits_wait check suspend resume call_suspend call_resume suspend_all resume_scheduler resume_all
    judge serve_pending before_step step nobody_ready ready_at_reset reset
    notify call_notify end_notification_wait wait_for_notification begin_notification_wait check_notification clear_notification
returns c = (
  is_run before_the_take.app before_the_take.plan
      before_the_take.app.limits before_the_take.run refl refl refl refl,
  (
    is_run in_the_window.app in_the_window.plan
        in_the_window.app.limits in_the_window.run refl refl refl refl,
    (
      is_run while_it_waits.app while_it_waits.plan
          while_it_waits.app.limits while_it_waits.run refl refl refl refl,
      (
        is_run after_its_deadline.app after_its_deadline.plan
            after_its_deadline.app.limits after_its_deadline.run refl refl refl refl,
        (
          is_run takes_both_at_once.app takes_both_at_once.plan
              takes_both_at_once.app.limits takes_both_at_once.run refl refl refl refl,
          (
            is_run takes_one_by_one.app takes_one_by_one.plan
                takes_one_by_one.app.limits takes_one_by_one.run refl refl refl refl,
            (
              is_run takes_nothing.app takes_nothing.plan
                  takes_nothing.app.limits takes_nothing.run refl refl refl refl,
              (
                is_run keeps_and_overwrites.app keeps_and_overwrites.plan
                    keeps_and_overwrites.app.limits keeps_and_overwrites.run refl refl refl refl,
                (
                  is_run clears_its_masks.app clears_its_masks.plan
                      clears_its_masks.app.limits clears_its_masks.run refl refl refl refl,
                  (
                    is_run waits_in_vain.app waits_in_vain.plan
                        waits_in_vain.app.limits waits_in_vain.run refl refl refl refl,
                    (
                      is_run has_no_value.app has_no_value.plan
                          has_no_value.app.limits has_no_value.run refl refl refl refl,
                      (
                        is_run handler_has_no_value.app handler_has_no_value.plan
                            handler_has_no_value.app.limits handler_has_no_value.run refl refl refl refl,
                        (
                          is_run goes_first.app goes_first.plan
                              goes_first.app.limits goes_first.run refl refl refl refl,
                          (
                            is_run suspended_is_not_woken.app suspended_is_not_woken.plan
                                suspended_is_not_woken.app.limits suspended_is_not_woken.run refl refl refl refl,
                            (
                              is_run late_keeps_its_place.app late_keeps_its_place.plan
                                  late_keeps_its_place.app.limits late_keeps_its_place.run refl refl refl refl,
                              (
                                is_run never_notified.app never_notified.plan
                                    never_notified.app.limits never_notified.run refl refl refl refl,
                                (
                                  is_run notifies_while_suspended.app notifies_while_suspended.plan
                                      notifies_while_suspended.app.limits notifies_while_suspended.run refl refl refl refl,
                                  (
                                    is_run takes_while_critical.app takes_while_critical.plan
                                        takes_while_critical.app.limits takes_while_critical.run refl refl refl refl,
                                    tt,
                                  ),
                                ),
                              ),
                            ),
                          ),
                        ),
                      ),
                    ),
                  ),
                ),
              ),
            ),
          ),
        ),
      ),
    ),
  ),
)
