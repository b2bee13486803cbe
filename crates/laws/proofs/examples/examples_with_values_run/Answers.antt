use Rattle.std.proofs.Common.{refl}
use Rattle.model.specs.Switching.{to_back, dispatch, choose, yield_now, preempt, slice, settle}
use Rattle.model.specs.Waiting.{wait_in, set_deadline, wake_best, unlock}
use Rattle.model.specs.Time.{wake_due, advance, increment_tick, apply_one, sleep, set_previous_wake}
use Rattle.model.specs.Handlers.{come, handle, serve, inject, interrupt, tick_interrupt, idle, serve_pending}
use Rattle.model.specs.Ops.{go_to, answer, use_up, delay, delay_until, expect, open_loop, close_turn, with_sections}
use Rattle.model.specs.Ops.{branch, skip_branch, leave_loop, calculate}
use Rattle.model.specs.Objects.{fulfil, attempt}
use Rattle.model.specs.Mutexes.{set_priority, inherit, after_timeout, disinherit, give_mutex}
use Rattle.model.specs.Calls.{try, decide, leave_call, do_now}
use Rattle.model.specs.Groups.{set, begin_set, clear, answer_bits, wait_for_bits, begin_bits_wait, check}
use Rattle.model.specs.Suspension.{suspend, resume, call_suspend, call_resume, suspend_all, resume_scheduler, resume_all}
use Rattle.model.specs.Step.{judge, before_step, step, nobody_ready, ready_at_reset, reset}
use Rattle.laws.specs.ValueExamples.{counts_both, lost_after_the_load, lost_before_the_store, none_lost_inside}
use Rattle.laws.specs.ValueExamples.{wraps, rounds_down, loses_high_bits, divides_by_nothing, no_remainder, stores_nothing}
use Rattle.laws.specs.ValueExamples.{adds_to_nothing, marks_nothing, sends_nothing, ends_the_handler, ends_one_handler}
use Rattle.laws.specs.ValueExamples.{first_of_two, misuse_alone, passed_on, sent_as_it_was, counts_to_a_limit}
use Rattle.laws.specs.ValueExamples.{expects_another, looks_at_a_variable}
use Rattle.laws.proofs.ExampleRuns.{is_run}
use Rattle.laws.proofs.examples.examples_with_values_run.Goals as goal

pub returns : goal.returns
unfolding to_back dispatch choose yield_now preempt slice settle wait_in set_deadline wake_best unlock wake_due advance
    increment_tick apply_one sleep set_previous_wake come handle serve inject interrupt tick_interrupt idle go_to answer use_up
    delay delay_until expect open_loop close_turn with_sections branch skip_branch leave_loop calculate fulfil attempt
    set_priority inherit after_timeout disinherit give_mutex try decide leave_call do_now set begin_set clear answer_bits
    wait_for_bits begin_bits_wait check suspend resume call_suspend call_resume suspend_all resume_scheduler resume_all
    judge serve_pending before_step step nobody_ready ready_at_reset reset
returns c = (
  is_run counts_both.app counts_both.plan
      counts_both.app.limits counts_both.run refl refl refl refl,
  (
    is_run lost_after_the_load.app lost_after_the_load.plan
        lost_after_the_load.app.limits lost_after_the_load.run refl refl refl refl,
    (
      is_run lost_before_the_store.app lost_before_the_store.plan
          lost_before_the_store.app.limits lost_before_the_store.run refl refl refl refl,
      (
        is_run none_lost_inside.app none_lost_inside.plan
            none_lost_inside.app.limits none_lost_inside.run refl refl refl refl,
        (
          is_run wraps.app wraps.plan
              wraps.app.limits wraps.run refl refl refl refl,
          (
            is_run rounds_down.app rounds_down.plan
                rounds_down.app.limits rounds_down.run refl refl refl refl,
            (
              is_run loses_high_bits.app loses_high_bits.plan
                  loses_high_bits.app.limits loses_high_bits.run refl refl refl refl,
              (
                is_run divides_by_nothing.app divides_by_nothing.plan
                    divides_by_nothing.app.limits divides_by_nothing.run refl refl refl refl,
                (
                  is_run no_remainder.app no_remainder.plan
                      no_remainder.app.limits no_remainder.run refl refl refl refl,
                  (
                    is_run stores_nothing.app stores_nothing.plan
                        stores_nothing.app.limits stores_nothing.run refl refl refl refl,
                    (
                      is_run adds_to_nothing.app adds_to_nothing.plan
                          adds_to_nothing.app.limits adds_to_nothing.run refl refl refl refl,
                      (
                        is_run marks_nothing.app marks_nothing.plan
                            marks_nothing.app.limits marks_nothing.run refl refl refl refl,
                        (
                          is_run sends_nothing.app sends_nothing.plan
                              sends_nothing.app.limits sends_nothing.run refl refl refl refl,
                          (
                            is_run ends_the_handler.app ends_the_handler.plan
                                ends_the_handler.app.limits ends_the_handler.run refl refl refl refl,
                            (
                              is_run ends_one_handler.app ends_one_handler.plan
                                  ends_one_handler.app.limits ends_one_handler.run refl refl refl refl,
                              (
                                is_run first_of_two.app first_of_two.plan
                                    first_of_two.app.limits first_of_two.run refl refl refl refl,
                                (
                                  is_run misuse_alone.app misuse_alone.plan
                                      misuse_alone.app.limits misuse_alone.run refl refl refl refl,
                                  (
                                    is_run passed_on.app passed_on.plan
                                        passed_on.app.limits passed_on.run refl refl refl refl,
                                    (
                                      is_run sent_as_it_was.app sent_as_it_was.plan
                                          sent_as_it_was.app.limits sent_as_it_was.run refl refl refl refl,
                                      (
                                        is_run counts_to_a_limit.app counts_to_a_limit.plan
                                            counts_to_a_limit.app.limits counts_to_a_limit.run refl refl refl refl,
                                        (
                                          is_run expects_another.app expects_another.plan
                                              expects_another.app.limits expects_another.run refl refl refl refl,
                                          (
                                            is_run looks_at_a_variable.app looks_at_a_variable.plan
                                                looks_at_a_variable.app.limits looks_at_a_variable.run refl refl refl refl,
                                            tt,
                                          ),
                                        ),
                                      ),
                                    ),
                                  ),
                                ),
                              ),
                            ),
                          ),
                        ),
                      ),
                    ),
                  ),
                ),
              ),
            ),
          ),
        ),
      ),
    ),
  ),
)
