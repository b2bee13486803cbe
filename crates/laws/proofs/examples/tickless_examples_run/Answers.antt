use Rattle.std.proofs.Common.{refl}
use Rattle.model.specs.Switching.{to_back, dispatch, choose, yield_now, preempt, slice, settle}
use Rattle.model.specs.Waiting.{wait_in, set_deadline, wake_best, unlock}
use Rattle.model.specs.Time.{wake_due, advance, increment_tick, jump, sleep, set_previous_wake}
use Rattle.model.specs.Handlers.{come, handle, serve, inject, interrupt, tick_interrupt, idle, serve_pending}
use Rattle.model.specs.Ops.{go_to, answer, use_up, delay, delay_until, expect, open_loop, close_turn}
use Rattle.model.specs.Objects.{fulfil, attempt}
use Rattle.model.specs.Mutexes.{inherit, after_timeout}
use Rattle.model.specs.Calls.{try, decide, leave_call}
use Rattle.model.specs.Step.{judge, before_step, step, nobody_ready, ready_at_reset, reset}
use Rattle.laws.specs.TicklessExamples.{long_sleeps, up_to_an_interrupt, up_to_the_limit, all_at_the_wrap, woken_from_idle}
use Rattle.laws.specs.TicklessExamples.{sleeps_on}
use Rattle.laws.proofs.ExampleRuns.{is_run}
use Rattle.laws.proofs.examples.tickless_examples_run.Goals as goal

pub returns : goal.returns
unfolding to_back dispatch choose yield_now preempt slice settle wait_in set_deadline wake_best unlock
    wake_due advance increment_tick jump come handle serve inject interrupt tick_interrupt idle sleep
    set_previous_wake go_to answer use_up delay delay_until expect open_loop close_turn fulfil attempt
    inherit after_timeout try decide leave_call judge serve_pending before_step step nobody_ready ready_at_reset reset
returns c = (
  is_run long_sleeps.app long_sleeps.plan long_sleeps.app.limits long_sleeps.run refl refl refl refl,
  (
    is_run up_to_an_interrupt.app up_to_an_interrupt.plan up_to_an_interrupt.app.limits up_to_an_interrupt.run refl refl refl refl,
    (
      is_run up_to_the_limit.app up_to_the_limit.plan up_to_the_limit.app.limits up_to_the_limit.run refl refl refl refl,
      (
        is_run all_at_the_wrap.app all_at_the_wrap.plan all_at_the_wrap.app.limits all_at_the_wrap.run refl refl refl refl,
        (
          is_run woken_from_idle.app woken_from_idle.plan woken_from_idle.app.limits woken_from_idle.run refl refl refl refl,
          (
            is_run sleeps_on.app sleeps_on.plan sleeps_on.app.limits sleeps_on.run refl refl refl refl,
            tt,
          ),
        ),
      ),
    ),
  ),
)
