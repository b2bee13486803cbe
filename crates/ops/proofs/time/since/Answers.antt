use Rattle.std.proofs.Common.{ℕ, ap, subst, ◌∙◌, Some}
use Rattle.model.specs.State.{Progress}
use Rattle.model.specs.Ops.{answer}
use Rattle.machine.specs.StandsFor.{At}
use Rattle.ops.proofs.Working.{since_at}
use Rattle.ops.proofs.time.since.Goals as goal

pub returns-clause-does : goal.returns-clause-does
returns-clause-does g c = record {
  at = λ s h.
      since_at c.args.app.now c.answer.new.self (g.L.Log.logged c.answer.new.log).told
      s c.args.task c.now.result c.behind-machine.inside.stamp
      (c.now.ensures.now ∙ h.stands.rest.clock.now)
      (ap (λ (p : Progress). p.stamp) (c.behind-machine.view_is ∙ c.progress.ensures ∙ h.stands.rest.progress c.args.task))
      (subst (λ (n : ℕ). At c.answer.new.self (g.L.Log.logged c.answer.new.log).told (answer c.args.app.now c.args.task (Some n) s))
      c.min.ensures (c.answer.ensures.does.at s h));
  few = c.answer.ensures.does.few;
  before = c.answer.ensures.does.before;
}
