use Rattle.std.proofs.Common.{◌∙◌, refl, sym}
use Rattle.machine.specs.StandsFor.Stands.{Placing}
use Rattle.ops.proofs.Before.{woken_free_any, woken_before, unwoken_before, log-wake_best}
use Rattle.machine.proofs.Either.{any, either}
use Rattle.ops.proofs.Waits.{there_unsuspended, waits_there, woken_at, unwoken_at, still_runs}
use Rattle.ops.proofs.queues.wake_best.Goals as goal

pub wake-requires-in-Some : goal.wake-requires-in-Some
wake-requires-in-Some c =
    record {
      free =
          woken_free_any c.args.machine.now c.requires.0 c.args.list c.in-Some.task
          c.requires.1 (λ d h l. c.in-Some.ensures.ready c.requires.0 d h l);
    }

pub returns-in-Some-clause-does : goal.returns-in-Some-clause-does
returns-in-Some-clause-does c = λ log s h.
    woken_at c.args.machine.now s h.stands c.args.list c.in-Some.task
    (c.in-Some.ensures.ready s _ h.stands.rest.objects h.stands.rest.awake)
    log h.log c.wake-in-Some.new.self c.wake.new.self c.wake_best.new.self
    (λ l.
    c.wake-in-Some.ensures.stands s h.stands.sched l (there_unsuspended s c.args.list c.in-Some.task
    (waits_there s c.args.list c.in-Some.task (c.in-Some.ensures.ready s _ h.stands.rest.objects h.stands.rest.awake))))
    (c.wake.ensures.stands s h.stands.rest.clock) (c.in-Some.ensures.stands s _ h.stands.rest.objects h.stands.rest.awake)

pub returns-in-Some-clause-any : goal.returns-in-Some-clause-any
returns-in-Some-clause-any c = λ log s h. either c.args.machine.now log s h
    (λ a. any _ log _ (returns-in-Some-clause-does c log s a))
    (λ task list b. record {
      stands =
          Placing task list (woken_before task list c.args.machine.now s b c.args.list c.in-Some.task
          (c.in-Some.ensures.ready s _ b.objects b.awake) c.wake-in-Some.new.self c.wake.new.self c.wake_best.new.self
          (λ ne l.
          c.wake-in-Some.ensures.placing s task b.sched ne l (there_unsuspended s c.args.list c.in-Some.task
          (waits_there s c.args.list c.in-Some.task (c.in-Some.ensures.ready s _ b.objects b.awake))))
          (λ ne l. c.wake.ensures.placing s task _ b.clock ne l) (c.in-Some.ensures.stands s _ b.objects b.awake));
      log = h.log ∙ sym (log-wake_best c.args.list s);
    })

pub returns-in-Some-clause-runs : goal.returns-in-Some-clause-runs
returns-in-Some-clause-runs c = λ j r.
    still_runs c.args.machine.now _ c.in-Some.task j r
    (woken_free_any c.args.machine.now c.requires.0 c.args.list c.in-Some.task
    c.requires.1 (λ d h l. c.in-Some.ensures.ready c.requires.0 d h l))
    c.wake-in-Some.ensures.schedule c.wake-in-Some.ensures.current refl

pub returns-in_default-clause-does : goal.returns-in_default-clause-does
returns-in_default-clause-does c = λ log s h.
    unwoken_at c.args.machine.now log s h c.args.list (c.in_default.ensures.ready s _ h.stands.rest.objects h.stands.rest.awake)
    c.wake_best.new.self (c.in_default.ensures.stands s _ h.stands.rest.objects h.stands.rest.awake)

pub returns-in_default-clause-any : goal.returns-in_default-clause-any
returns-in_default-clause-any c = λ log s h. either c.args.machine.now log s h
    (λ a. any _ log _ (returns-in_default-clause-does c log s a))
    (λ task list b. record {
      stands =
          Placing task list (unwoken_before task list c.args.machine.now s b
          c.args.list (c.in_default.ensures.ready s _ b.objects b.awake)
          c.wake_best.new.self (c.in_default.ensures.stands s _ b.objects b.awake));
      log = h.log ∙ sym (log-wake_best c.args.list s);
    })
