use Rattle.std.proofs.Common.{ap, sym, ◌∙◌}
use Rattle.model.specs.State.{Progress}
use Rattle.machine.specs.StandsFor.{At}
use Rattle.ops.proofs.Ranking.{timed_out, timed_out_alone, timed_out_free}
use Rattle.ops.proofs.mutexes.after_timeout.Goals as goal

pub returns-then-not-progress-clause-does : goal.returns-then-not-progress-clause-does
returns-then-not-progress-clause-does c = λ log s h.
    let own =
    ap (λ (p : Progress). p.call.inherited) (c.behind-machine.view_is ∙ c.progress.ensures ∙ h.stands.rest.progress c.args.task) in
    timed_out_alone (At c.args.machine.now log) s c.args.task c.args.object (sym own ∙ c.if-not-progress.true) h

pub returns-in-Some-clause-does : goal.returns-in-Some-clause-does
returns-in-Some-clause-does c = λ log s h.
    let own =
    ap (λ (p : Progress). p.call.inherited) (c.behind-machine.view_is ∙ c.progress.ensures ∙ h.stands.rest.progress c.args.task) in
    timed_out (At c.fall_back.new.machine log) s c.args.task c.args.object c.in-Some.holder
    (sym own ∙ c.if-not-progress.false) (c.in-Some.ensures.stands s _ h.stands.rest.objects)
    (c.fall_back.ensures.does log s h (c.in-Some.ensures.known s _ h.stands.rest.objects))

pub returns-in_default-clause-does : goal.returns-in_default-clause-does
returns-in_default-clause-does c = λ log s h.
    let own =
    ap (λ (p : Progress). p.call.inherited) (c.behind-machine.view_is ∙ c.progress.ensures ∙ h.stands.rest.progress c.args.task) in
    timed_out_free (At c.args.machine.now log) s c.args.task c.args.object
    (sym own ∙ c.if-not-progress.false) (c.in_default.ensures.stands s _ h.stands.rest.objects) h
