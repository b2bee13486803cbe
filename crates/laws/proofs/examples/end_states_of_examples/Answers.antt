use Rattle.std.proofs.Common.{refl}
use Rattle.model.specs.Switching.{to_back, dispatch, choose, yield_now, preempt, slice, settle}
use Rattle.model.specs.Waiting.{wait_in, set_deadline, wake_best, unlock}
use Rattle.model.specs.Time.{wake_due, advance, increment_tick, sleep, set_previous_wake}
use Rattle.model.specs.Handlers.{come, handle, serve, inject, interrupt, tick_interrupt, idle, serve_pending}
use Rattle.model.specs.Ops.{go_to, answer, use_up, delay, delay_until, expect, open_loop, close_turn, calculate}
use Rattle.model.specs.Objects.{fulfil, attempt}
use Rattle.model.specs.Mutexes.{set_priority, inherit, after_timeout, disinherit, give_mutex}
use Rattle.model.specs.Calls.{try, decide, leave_call, do_now}
use Rattle.model.specs.Groups.{set, begin_set, clear, answer_bits, wait_for_bits, begin_bits_wait, check}
use Rattle.model.specs.Daemon.{received, take_command, obeyed, clear_by_daemon}
use Rattle.model.specs.Suspension.{suspend, resume, call_suspend, call_resume}
use Rattle.model.specs.Step.{judge, before_step, step, nobody_ready, ready_at_reset, reset}
use Rattle.model.specs.Notifications.{wait_for_notification, begin_notification_wait, check_notification}
use Rattle.laws.proofs.examples.end_states_of_examples.Goals as goal

pub returns : goal.returns
unfolding to_back dispatch choose yield_now preempt slice settle wait_in set_deadline wake_best unlock wake_due advance
    increment_tick come handle serve inject interrupt tick_interrupt idle sleep set_previous_wake go_to answer use_up delay
    delay_until expect open_loop close_turn calculate fulfil attempt set_priority inherit after_timeout disinherit give_mutex try
    decide leave_call do_now set begin_set clear answer_bits wait_for_bits begin_bits_wait check received take_command
    obeyed clear_by_daemon suspend resume call_suspend call_resume judge serve_pending before_step step nobody_ready ready_at_reset
    reset wait_for_notification begin_notification_wait check_notification
returns c = (refl, (refl, (refl, (refl, (refl, (refl, (refl, (refl, (refl, (refl, (refl, (refl, (refl, tt)))))))))))))
