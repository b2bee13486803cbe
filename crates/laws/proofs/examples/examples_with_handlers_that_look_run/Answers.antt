use Rattle.std.proofs.Common.{refl}
use Rattle.model.specs.Switching.{to_back, dispatch, choose, yield_now, preempt, slice, settle}
use Rattle.model.specs.Waiting.{wait_in, set_deadline, wake_best, unlock}
use Rattle.model.specs.Time.{wake_due, advance, increment_tick, jump, sleep, set_previous_wake}
use Rattle.model.specs.Handlers.{come, handle, serve, inject, interrupt, tick_interrupt, idle, serve_pending}
use Rattle.model.specs.Ops.{go_to, answer, use_up, delay, delay_until, expect, stamp, since, open_loop, close_turn, branch}
use Rattle.model.specs.Ops.{skip_branch, leave_loop}
use Rattle.model.specs.Objects.{fulfil, attempt}
use Rattle.model.specs.Mutexes.{inherit, after_timeout}
use Rattle.model.specs.Calls.{try, decide, leave_call}
use Rattle.model.specs.Suspension.{suspend_all, resume_scheduler, resume_all}
use Rattle.model.specs.Step.{judge, before_step, step, nobody_ready, ready_at_reset, reset}
use Rattle.laws.specs.LookingExamples.{comes_at_its_tick, comes_at_the_start, comes_before_a_wait, comes_in_a_wait}
use Rattle.laws.specs.LookingExamples.{comes_beside_idle, finds_no_room, comes_before_a_sleep, comes_in_a_sleep, comes_at_the_end}
use Rattle.laws.specs.LookingExamples.{answers_none_at_first, fails_twice, fails_before_a_misuse, finds_room}
use Rattle.laws.specs.LookingExamples.{makes_room_at_its_tick, makes_room_a_tick_later, makes_room_before_a_step}
use Rattle.laws.specs.LookingExamples.{branches_in_branches}
use Rattle.laws.proofs.ExampleRuns.{is_run}
use Rattle.laws.proofs.examples.examples_with_handlers_that_look_run.Goals as goal

pub returns : goal.returns
unfolding to_back dispatch choose yield_now preempt slice settle wait_in set_deadline wake_best unlock wake_due advance
    increment_tick jump come handle serve inject interrupt tick_interrupt idle sleep set_previous_wake go_to answer use_up delay
    delay_until expect stamp since open_loop close_turn branch skip_branch leave_loop fulfil attempt inherit after_timeout
    try decide leave_call suspend_all resume_scheduler resume_all judge serve_pending before_step step nobody_ready ready_at_reset
    reset
returns c = (
  is_run comes_at_its_tick.app comes_at_its_tick.plan comes_at_its_tick.app.limits comes_at_its_tick.run refl refl refl refl,
  (
    is_run comes_at_the_start.app comes_at_the_start.plan comes_at_the_start.app.limits comes_at_the_start.run refl refl refl refl,
    (
      is_run comes_before_a_wait.app comes_before_a_wait.plan
          comes_before_a_wait.app.limits comes_before_a_wait.run refl refl refl refl,
      (
        is_run (comes_in_a_wait 2).app (comes_in_a_wait 2).plan
            (comes_in_a_wait 2).app.limits (comes_in_a_wait 2).run refl refl refl refl,
        (
          is_run (comes_in_a_wait 3).app (comes_in_a_wait 3).plan
              (comes_in_a_wait 3).app.limits (comes_in_a_wait 3).run refl refl refl refl,
          (
            is_run (comes_in_a_wait 4).app (comes_in_a_wait 4).plan
                (comes_in_a_wait 4).app.limits (comes_in_a_wait 4).run refl refl refl refl,
            (
              is_run comes_beside_idle.app comes_beside_idle.plan
                  comes_beside_idle.app.limits comes_beside_idle.run refl refl refl refl,
              (
                is_run finds_no_room.app finds_no_room.plan finds_no_room.app.limits finds_no_room.run refl refl refl refl,
                (
                  is_run comes_before_a_sleep.app comes_before_a_sleep.plan
                      comes_before_a_sleep.app.limits comes_before_a_sleep.run refl refl refl refl,
                  (
                    is_run comes_in_a_sleep.app comes_in_a_sleep.plan
                        comes_in_a_sleep.app.limits comes_in_a_sleep.run refl refl refl refl,
                    (
                      is_run comes_at_the_end.app comes_at_the_end.plan
                          comes_at_the_end.app.limits comes_at_the_end.run refl refl refl refl,
                      (
                        is_run answers_none_at_first.app answers_none_at_first.plan
                            answers_none_at_first.app.limits answers_none_at_first.run refl refl refl refl,
                        (
                          is_run fails_twice.app fails_twice.plan fails_twice.app.limits fails_twice.run refl refl refl refl,
                          (
                            is_run fails_before_a_misuse.app fails_before_a_misuse.plan
                                fails_before_a_misuse.app.limits fails_before_a_misuse.run refl refl refl refl,
                            (
                              is_run finds_room.app finds_room.plan finds_room.app.limits finds_room.run refl refl refl refl,
                              (
                                is_run makes_room_at_its_tick.app makes_room_at_its_tick.plan
                                    makes_room_at_its_tick.app.limits makes_room_at_its_tick.run refl refl refl refl,
                                (
                                  is_run makes_room_a_tick_later.app makes_room_a_tick_later.plan
                                      makes_room_a_tick_later.app.limits makes_room_a_tick_later.run refl refl refl refl,
                                  (
                                    is_run makes_room_before_a_step.app makes_room_before_a_step.plan
                                        makes_room_before_a_step.app.limits makes_room_before_a_step.run refl refl refl refl,
                                    (
                                      is_run branches_in_branches.app branches_in_branches.plan
                                          branches_in_branches.app.limits branches_in_branches.run refl refl refl refl,
                                      tt,
                                    ),
                                  ),
                                ),
                              ),
                            ),
                          ),
                        ),
                      ),
                    ),
                  ),
                ),
              ),
            ),
          ),
        ),
      ),
    ),
  ),
)
