use Rattle.std.proofs.Common.{ℕ, Some, subst}
use Rattle.model.specs.State.{bits_at, with_bits}
use Rattle.model.specs.Groups.{clear, bits_without}
use Rattle.model.specs.Ops.{answer}
use Rattle.machine.specs.StandsFor.{At}
use Rattle.ops.proofs.EventBits.{put_at}
use Rattle.ops.proofs.event_groups.clear_bits.Goals as goal

pub returns : goal.returns
unfolding clear
returns g c = record {
  at = λ s h.
      let group = c.args.group in
      let bits = bits_without (bits_at s group) c.args.mask in
      let P : ℕ → Type 0 = λ n.
      At c.answer.new.self (g.L.Log.logged c.answer.new.log).told
      (answer c.args.app.now c.args.task (Some n) (with_bits group bits s)) in
      subst P (c.clear-bits.ensures.answer s h.stands.rest.groups)
      (c.answer.ensures.does.at _ (put_at c.args.machine.now (g.L.Log.logged c.args.log.now).told s
      h group c.clear-bits.new.self bits (c.clear-bits.ensures.stands s h.stands.rest.groups)));
  few = c.answer.ensures.does.few;
  before = c.answer.ensures.does.before;
}
