use Rattle.std.proofs.Common.{ℕ, Option, ap, subst, ◌∙◌, arith}
use Rattle.model.specs.declared.call.Phase.TheVariants.{Start}
use Rattle.model.specs.State.{Progress}
use Rattle.model.specs.Ops.{answer}
use Rattle.model.specs.Waiting.{end_hold}
use Rattle.machine.specs.StandsFor.{At}
use Rattle.ops.proofs.event_groups.end_set.Goals as goal

pub returns : goal.returns
returns g c = record {
  at = λ s h.
      let left =
      ap (λ (p : Progress). p.call.kept) (c.behind-machine.view_is ∙ c.progress.ensures ∙ h.stands.rest.progress c.args.task) in
      let P : Option ℕ → Type 0 = λ o.
      At c.answer_given.new.self (g.L.Log.logged c.answer_given.new.log).told
      (answer c.args.app.now c.args.task o (end_hold c.args.task Start s)) in
      c.preempt.ensures.does.at _ (subst P left
      (c.answer_given.ensures.does.at _ (c.end_hold.ensures.does (g.L.Log.logged c.args.log.now).told s h)));
  few = let a = c.answer_given.ensures.does.few in let b = c.preempt.ensures.does.few in omega arith;
  before = c.preempt.ensures.does.before ∙ c.answer_given.ensures.does.before;
}
