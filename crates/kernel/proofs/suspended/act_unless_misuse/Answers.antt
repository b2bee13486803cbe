use Rattle.std.proofs.Common.{◌∙◌, refl, sym, subst, arith}
use Rattle.model.specs.State.{Progress}
use Rattle.model.specs.Step.{act_by_value, judge}
use Rattle.machine.specs.StandsFor.{At}
use Rattle.machine.specs.StandsFor.Stands.{Placed}
use Rattle.kernel.proofs.Held.{acted_at, misused_at}
use Rattle.kernel.proofs.suspended.act_unless_misuse.Goals as goal

pub act_on-requires-clause-fine : goal.act_on-requires-clause-fine
act_on-requires-clause-fine g c = λ s h. sym (c.misuse.ensures s h) ∙ c.in_default.is

pub returns-in-Some : goal.returns-in-Some
returns-in-Some g c = record {
  at = λ s h.
      misused_at c.args.app.now c.misuse-in-Some.new.self _ s c.args.task c.args.op.now c.in-Some.misuse
      (sym (c.misuse.ensures s (Placed h.stands)) ∙ c.in-Some.is) (c.misuse-in-Some.ensures _ s h);
  few = omega arith;
  before = refl;
}

pub returns : goal.returns
returns g c = record {
  at = λ s h.
      let P : Progress → Type 0 = λ p.
      At c.judge.new.machine (g.L.Log.logged c.act_on.new.log).told
      (judge c.args.task p.op_index (act_by_value c.args.app.now c.args.task c.args.op.now s)) in
      acted_at c.args.app.now c.judge.new.machine _ s c.args.task c.args.op.now
      (sym (c.misuse.ensures s (Placed h.stands)) ∙ c.in_default.is)
      (subst P (c.behind-machine.view_is ∙ c.progress.ensures ∙ h.stands.rest.progress c.args.task)
      (c.judge.ensures _ _ (c.act_on.ensures.at s h)));
  few = c.act_on.ensures.few;
  before = c.act_on.ensures.before;
}
