use Rattle.std.proofs.Common.{List, ◌∙◌, sym, subst, arith}
use Rattle.std.proofs.lemmas.Result.{err_from_is_err_and}
use Rattle.model.specs.declared.plan.Injection.{Injection}
use Rattle.model.specs.Run.{IsRun}
use Rattle.machine.proofs.Either.{elapsed_is}
use Rattle.kernel.proofs.Running.{no_further, told_some, events_from_reset}
use Rattle.kernel.proofs.runs.run.Goals as goal

pub returns-clause-run : goal.returns-clause-run
returns-clause-run c =
    let e = c.in_ok-end.ensures in
    let P : List Injection → Type 0 = λ injections.
    IsRun c.args.app.now injections c.args.limits (record {
      events = c.into_events.result.items;
      steps = c.finish.new.kernel.steps;
      ticks = c.elapsed.result;
      end = c.in_ok-end.end;
    }) in
    subst P c.injections-injections.ensures (record {
      goes_on = e.way.goes_on;
      ends = e.ended;
      trace =
          c.into_events.ensures ∙ e.events
          ∙ events_from_reset c.args.app.now c.args.limits c.injections-injections.result.now
          c.boot-kernel.result.steps c.finish.new.kernel.steps c.boot-kernel.ensures.steps
          c.new-trail.result c.new-trail.ensures.before c.new-trail.ensures.told;
      elapsed = c.elapsed.ensures.elapsed ∙ elapsed_is c.finish.new.kernel _ e.way.stands;
    })

pub returns-in_err-end-clause-refused : goal.returns-in_err-end-clause-refused
returns-in_err-end-clause-refused c =
    let p = err_from_is_err_and c.from_residual.result c.from_residual.ensures.1 in
    rw p.1 (λ run is.
    let its =
    subst (λ (injections : List Injection). IsRun c.args.app.now injections c.args.limits run)
    (sym c.injections-injections.ensures) is in
    let le =
    no_further c.args.app.now c.injections-injections.result.now
    c.args.limits c.finish.new.kernel c.in_err-end.ensures.way run its in
    let m = c.in_err-end.ensures.meter in
    let z = c.boot-kernel.ensures.steps in (
      omega arith,
      told_some c.args.app.now c.injections-injections.result.now c.args.limits
          c.finish.new.kernel c.in_err-end.ensures.way run its c.in_err-end.ensures.memory,
    ))
