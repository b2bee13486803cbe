use Rattle.std.proofs.Common.{ℕ, Some, None, subst}
use Rattle.model.specs.Ops.{answer}
use Rattle.machine.specs.StandsFor.{At}
use Rattle.ops.proofs.queues.spaces_available.Goals as goal

pub returns-clause-does : goal.returns-clause-does
returns-clause-does g c = record {
  at = λ s h.
      subst (λ (n : ℕ). At c.answer.new.self (g.L.Log.logged c.answer.new.log).told (answer c.args.app.now c.args.task (Some n) s))
      (c.spaces-spaces.ensures.stands s None h.stands.rest.objects) (c.answer.ensures.does.at s h);
  few = c.answer.ensures.does.few;
  before = c.answer.ensures.does.before;
}
