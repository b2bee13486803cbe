use Rattle.std.proofs.Common.{ℕ, Some, subst}
use Rattle.std.specs.Prelude.{if◌then◌else◌}
use Rattle.model.specs.State.{bits_at, with_bits}
use Rattle.model.specs.Groups as definitions
use Rattle.model.specs.Groups.{is_met, bits_left}
use Rattle.model.specs.Ops.{answer}
use Rattle.machine.specs.StandsFor.{At}
use Rattle.ops.proofs.EventBits.{final_at}
use Rattle.ops.proofs.event_groups.answer_bits.Goals as goal

pub returns : goal.returns
unfolding definitions.answer_bits
returns g c = record {
  at = λ s h.
      let group = c.args.group in
      let condition = c.args.condition.now in
      let P : ℕ → Type 0 = λ n. At c.answer.new.self (g.L.Log.logged c.answer.new.log).told
      (answer c.args.app.now c.args.task (Some n)
      (if is_met (bits_at s group) condition then with_bits group (bits_left (bits_at s group) condition) s else s)) in
      subst P (c.final_bits-bits.ensures.answer s h.stands.rest.groups)
      (c.answer.ensures.does.at _ (final_at c.args.machine.now (g.L.Log.logged c.args.log.now).told s h group
      c.final_bits-bits.new.self condition (c.final_bits-bits.ensures.stands s h.stands.rest.groups)));
  few = c.answer.ensures.does.few;
  before = c.answer.ensures.does.before;
}
