use Rattle.std.proofs.Common.{refl}
use Rattle.model.specs.Switching.{to_back, dispatch, choose, yield_now, preempt, slice, settle}
use Rattle.model.specs.Waiting.{wait_in, set_deadline, wake_best, unlock}
use Rattle.model.specs.Time.{wake_due, advance, increment_tick, apply_one, sleep, set_previous_wake}
use Rattle.model.specs.Handlers.{come, handle, serve, inject, interrupt, tick_interrupt, idle, serve_pending}
use Rattle.model.specs.Ops.{go_to, answer, use_up, delay, delay_until, expect, open_loop, close_turn, with_sections}
use Rattle.model.specs.Objects.{fulfil, attempt}
use Rattle.model.specs.Mutexes.{set_priority, inherit, after_timeout, disinherit, give_mutex}
use Rattle.model.specs.Calls.{try, decide, leave_call, do_now}
use Rattle.model.specs.Groups.{set, begin_set, clear, answer_bits, wait_for_bits, begin_bits_wait, check}
use Rattle.model.specs.Suspension.{suspend, resume, call_suspend, call_resume, suspend_all, resume_scheduler, resume_all}
use Rattle.model.specs.Step.{judge, before_step, step, nobody_ready, ready_at_reset, reset}
use Rattle.laws.specs.SectionExamples.{after_the_outer_exit, inside_a_suspension, before_idle, after_the_end}
use Rattle.laws.specs.SectionExamples.{in_the_order_of_the_file, twice_and_once, works_inside, resumes_inside, one_exit_too_many}
use Rattle.laws.specs.SectionExamples.{ends_inside, yields_inside_both, resumes_what_runs, unlocks_what_is_free, ends_inside_both}
use Rattle.laws.proofs.ExampleRuns.{is_run}
use Rattle.laws.proofs.examples.examples_with_sections_run.Goals as goal

pub returns : goal.returns
unfolding to_back dispatch choose yield_now preempt slice settle wait_in set_deadline wake_best unlock wake_due advance
    increment_tick apply_one sleep set_previous_wake come handle serve inject interrupt tick_interrupt idle go_to answer use_up
    delay delay_until expect open_loop close_turn with_sections fulfil attempt set_priority inherit after_timeout disinherit
    give_mutex try decide leave_call do_now set begin_set clear answer_bits wait_for_bits begin_bits_wait check suspend resume
    call_suspend call_resume suspend_all resume_scheduler resume_all judge serve_pending before_step step nobody_ready
    ready_at_reset reset
returns c = (
  is_run after_the_outer_exit.app after_the_outer_exit.plan
      after_the_outer_exit.app.limits after_the_outer_exit.run refl refl refl refl,
  (
    is_run inside_a_suspension.app inside_a_suspension.plan
        inside_a_suspension.app.limits inside_a_suspension.run refl refl refl refl,
    (
      is_run before_idle.app before_idle.plan
          before_idle.app.limits before_idle.run refl refl refl refl,
      (
        is_run after_the_end.app after_the_end.plan
            after_the_end.app.limits after_the_end.run refl refl refl refl,
        (
          is_run in_the_order_of_the_file.app in_the_order_of_the_file.plan
              in_the_order_of_the_file.app.limits in_the_order_of_the_file.run refl refl refl refl,
          (
            is_run twice_and_once.app twice_and_once.plan
                twice_and_once.app.limits twice_and_once.run refl refl refl refl,
            (
              is_run works_inside.app works_inside.plan
                  works_inside.app.limits works_inside.run refl refl refl refl,
              (
                is_run resumes_inside.app resumes_inside.plan
                    resumes_inside.app.limits resumes_inside.run refl refl refl refl,
                (
                  is_run one_exit_too_many.app one_exit_too_many.plan
                      one_exit_too_many.app.limits one_exit_too_many.run refl refl refl refl,
                  (
                    is_run ends_inside.app ends_inside.plan
                        ends_inside.app.limits ends_inside.run refl refl refl refl,
                    (
                      is_run yields_inside_both.app yields_inside_both.plan
                          yields_inside_both.app.limits yields_inside_both.run refl refl refl refl,
                      (
                        is_run resumes_what_runs.app resumes_what_runs.plan
                            resumes_what_runs.app.limits resumes_what_runs.run refl refl refl refl,
                        (
                          is_run unlocks_what_is_free.app unlocks_what_is_free.plan
                              unlocks_what_is_free.app.limits unlocks_what_is_free.run refl refl refl refl,
                          (
                            is_run ends_inside_both.app ends_inside_both.plan
                                ends_inside_both.app.limits ends_inside_both.run refl refl refl refl,
                            tt,
                          ),
                        ),
                      ),
                    ),
                  ),
                ),
              ),
            ),
          ),
        ),
      ),
    ),
  ),
)
