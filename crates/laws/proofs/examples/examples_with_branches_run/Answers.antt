use Rattle.std.proofs.Common.{refl}
use Rattle.model.specs.Switching.{to_back, dispatch, choose, yield_now, preempt, slice, settle}
use Rattle.model.specs.Waiting.{wait_in, set_deadline, wake_best, unlock}
use Rattle.model.specs.Time.{wake_due, advance, increment_tick, sleep, set_previous_wake}
use Rattle.model.specs.Handlers.{come, handle, serve, inject, interrupt, tick_interrupt, idle, serve_pending}
use Rattle.model.specs.Ops.{go_to, answer, use_up, delay, delay_until, expect, open_loop, close_turn, branch, skip_branch}
use Rattle.model.specs.Ops.{leave_loop}
use Rattle.model.specs.Objects.{fulfil, attempt}
use Rattle.model.specs.Mutexes.{inherit, after_timeout}
use Rattle.model.specs.Calls.{try, decide, leave_call}
use Rattle.model.specs.Suspension.{suspend_all, resume_scheduler, resume_all}
use Rattle.model.specs.Step.{judge, before_step, step, nobody_ready, ready_at_reset, reset}
use Rattle.laws.specs.BranchExamples.{each_condition, on_the_second_try, too_late, nothing_comes, leaves_the_inner_loop}
use Rattle.laws.specs.BranchExamples.{until_an_item_comes, ends_by_an_if, ends_by_an_else, ends_by_a_break, eight_blocks}
use Rattle.laws.specs.BranchExamples.{branches_while_held, ends_and_holds_by_an_if}
use Rattle.laws.proofs.ExampleRuns.{is_run}
use Rattle.laws.proofs.examples.examples_with_branches_run.Goals as goal

pub returns : goal.returns
unfolding to_back dispatch choose yield_now preempt slice settle wait_in set_deadline wake_best unlock wake_due advance
    increment_tick come handle serve inject interrupt tick_interrupt idle sleep set_previous_wake go_to answer use_up delay
    delay_until expect open_loop close_turn branch skip_branch leave_loop fulfil attempt inherit after_timeout try
    decide leave_call suspend_all resume_scheduler resume_all judge serve_pending before_step step nobody_ready ready_at_reset reset
returns c = (
  is_run each_condition.app each_condition.plan each_condition.app.limits each_condition.run refl refl refl refl,
  (
    is_run on_the_second_try.app on_the_second_try.plan on_the_second_try.app.limits on_the_second_try.run refl refl refl refl,
    (
      is_run too_late.app too_late.plan too_late.app.limits too_late.run refl refl refl refl,
      (
        is_run nothing_comes.app nothing_comes.plan nothing_comes.app.limits nothing_comes.run refl refl refl refl,
        (
          is_run leaves_the_inner_loop.app leaves_the_inner_loop.plan
              leaves_the_inner_loop.app.limits leaves_the_inner_loop.run refl refl refl refl,
          (
            is_run until_an_item_comes.app until_an_item_comes.plan
                until_an_item_comes.app.limits until_an_item_comes.run refl refl refl refl,
            (
              is_run ends_by_an_if.app ends_by_an_if.plan ends_by_an_if.app.limits ends_by_an_if.run refl refl refl refl,
              (
                is_run ends_by_an_else.app ends_by_an_else.plan ends_by_an_else.app.limits ends_by_an_else.run refl refl refl refl,
                (
                  is_run ends_by_a_break.app ends_by_a_break.plan
                      ends_by_a_break.app.limits ends_by_a_break.run refl refl refl refl,
                  (
                    is_run eight_blocks.app eight_blocks.plan eight_blocks.app.limits eight_blocks.run refl refl refl refl,
                    (
                      is_run branches_while_held.app branches_while_held.plan
                          branches_while_held.app.limits branches_while_held.run refl refl refl refl,
                      (
                        is_run ends_and_holds_by_an_if.app ends_and_holds_by_an_if.plan
                            ends_and_holds_by_an_if.app.limits ends_and_holds_by_an_if.run refl refl refl refl,
                        tt,
                      ),
                    ),
                  ),
                ),
              ),
            ),
          ),
        ),
      ),
    ),
  ),
)
