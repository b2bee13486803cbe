use Rattle.std.proofs.Common.{ℕ, ap, subst, ◌∙◌, Some}
use Rattle.model.specs.State.{printed}
use Rattle.model.specs.Ops.{answer}
use Rattle.machine.specs.StandsFor.{At}
use Rattle.ops.proofs.time.time.Goals as goal

pub returns-clause-does : goal.returns-clause-does
returns-clause-does g c = record {
  at = λ s h.
      let P : ℕ → Type 0 = λ n.
      At c.answer.new.self (g.L.Log.logged c.answer.new.log).told (answer c.args.app.now c.args.task (Some n) s) in
      subst P (c.tick-tick.ensures.tick ∙ ap printed h.stands.rest.clock.now) (c.answer.ensures.does.at s h);
  few = c.answer.ensures.does.few;
  before = c.answer.ensures.does.before;
}
