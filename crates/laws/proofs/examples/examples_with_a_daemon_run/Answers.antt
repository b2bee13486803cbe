use Rattle.std.proofs.Common.{[], refl}
use Rattle.model.specs.Switching.{to_back, dispatch, choose, yield_now, preempt, slice, settle}
use Rattle.model.specs.Waiting.{wait_in, set_deadline, wake_best, unlock}
use Rattle.model.specs.Time.{wake_due, advance, increment_tick, sleep, set_previous_wake}
use Rattle.model.specs.Handlers.{come, handle, serve, inject, interrupt, tick_interrupt, idle, serve_pending}
use Rattle.model.specs.Ops.{go_to, answer, use_up, delay, delay_until, expect, open_loop, close_turn}
use Rattle.model.specs.Objects.{fulfil, attempt}
use Rattle.model.specs.Mutexes.{inherit, after_timeout}
use Rattle.model.specs.Calls.{try, decide, leave_call}
use Rattle.model.specs.Groups.{set, begin_set, clear, answer_bits, wait_for_bits, begin_bits_wait, check}
use Rattle.model.specs.Daemon.{received, take_command, obeyed, clear_by_daemon}
use Rattle.model.specs.Step.{judge, before_step, step, nobody_ready, ready_at_reset, reset}
use Rattle.model.specs.Run.{IsRun}
use Rattle.laws.specs.DaemonExamples.{deferred, deferred_base, deferred_row, in_its_window, passes_with_a_command}
use Rattle.laws.proofs.ExampleRuns.{is_run}
use Rattle.laws.proofs.examples.examples_with_a_daemon_run.Goals as goal

base_is_run : IsRun deferred [] deferred.limits deferred_base
unfolding to_back dispatch choose yield_now preempt slice settle wait_in set_deadline wake_best unlock wake_due advance
    increment_tick come handle serve inject interrupt tick_interrupt idle sleep set_previous_wake go_to answer use_up delay
    delay_until expect open_loop close_turn fulfil attempt inherit after_timeout try decide leave_call set begin_set clear
    answer_bits wait_for_bits begin_bits_wait check received take_command obeyed clear_by_daemon judge serve_pending before_step
    step nobody_ready ready_at_reset reset
base_is_run = is_run deferred [] deferred.limits deferred_base refl refl refl refl

pub returns-clause-rows : goal.returns-clause-rows
unfolding to_back dispatch choose yield_now preempt slice settle wait_in set_deadline wake_best unlock wake_due advance
    increment_tick come handle serve inject interrupt tick_interrupt idle sleep set_previous_wake go_to answer use_up delay
    delay_until expect open_loop close_turn fulfil attempt inherit after_timeout try decide leave_call set begin_set clear
    answer_bits wait_for_bits begin_bits_wait check received take_command obeyed clear_by_daemon judge serve_pending before_step
    step nobody_ready ready_at_reset reset
returns-clause-rows c = (
  (
    deferred_base,
    base_is_run,
    refl,
    is_run deferred deferred_row.point deferred.limits deferred_row.row refl refl refl refl,
  ),
  tt,
)

pub returns-clause-runs : goal.returns-clause-runs
unfolding to_back dispatch choose yield_now preempt slice settle wait_in set_deadline wake_best unlock wake_due advance
    increment_tick come handle serve inject interrupt tick_interrupt idle sleep set_previous_wake go_to answer use_up delay
    delay_until expect open_loop close_turn fulfil attempt inherit after_timeout try decide leave_call set begin_set clear
    answer_bits wait_for_bits begin_bits_wait check received take_command obeyed clear_by_daemon judge serve_pending before_step
    step nobody_ready ready_at_reset reset
returns-clause-runs c = (
  is_run in_its_window.app in_its_window.plan in_its_window.app.limits in_its_window.run refl refl refl refl,
  (
    is_run passes_with_a_command.app passes_with_a_command.plan
        passes_with_a_command.app.limits passes_with_a_command.run refl refl refl refl,
    tt,
  ),
)
