use Rattle.std.proofs.Common.{refl}
use Rattle.model.specs.Switching.{to_back, dispatch, choose, yield_now, preempt, slice, settle}
use Rattle.model.specs.Waiting.{wait_in, set_deadline, wake_best, unlock}
use Rattle.model.specs.Time.{wake_due, advance, increment_tick, sleep, set_previous_wake}
use Rattle.model.specs.Handlers.{come, handle, serve, inject, interrupt, tick_interrupt, idle, serve_pending}
use Rattle.model.specs.Ops.{go_to, answer, use_up, delay, delay_until, expect, open_loop, close_turn}
use Rattle.model.specs.Objects.{fulfil, attempt}
use Rattle.model.specs.Mutexes.{inherit, after_timeout}
use Rattle.model.specs.Calls.{try, decide, leave_call}
use Rattle.model.specs.Step.{judge, before_step, step, nobody_ready, ready_at_reset, reset}
use Rattle.laws.specs.HandlerExamples.{two_queues, fewer_items, more_items, room_taken, finds_nothing, still_to_come, answers}
use Rattle.laws.proofs.ExampleRuns.{is_run}
use Rattle.laws.proofs.examples.examples_with_handlers_run.Goals as goal

pub returns : goal.returns
unfolding to_back dispatch choose yield_now preempt slice settle wait_in set_deadline wake_best unlock
    wake_due advance increment_tick come handle serve inject interrupt tick_interrupt idle sleep set_previous_wake
    go_to answer use_up delay delay_until expect open_loop close_turn fulfil attempt inherit
    after_timeout try decide leave_call judge serve_pending before_step step nobody_ready ready_at_reset reset
returns c = (
  is_run two_queues.app two_queues.plan two_queues.app.limits two_queues.run refl refl refl refl,
  (
    is_run fewer_items.app fewer_items.plan fewer_items.app.limits fewer_items.run refl refl refl refl,
    (
      is_run more_items.app more_items.plan more_items.app.limits more_items.run refl refl refl refl,
      (
        is_run room_taken.app room_taken.plan room_taken.app.limits room_taken.run refl refl refl refl,
        (
          is_run finds_nothing.app finds_nothing.plan finds_nothing.app.limits finds_nothing.run refl refl refl refl,
          (
            is_run still_to_come.app still_to_come.plan still_to_come.app.limits still_to_come.run refl refl refl refl,
            (
              is_run answers.app answers.plan answers.app.limits answers.run refl refl refl refl,
              tt,
            ),
          ),
        ),
      ),
    ),
  ),
)
