use Rattle.std.proofs.Common.{ℕ, true, subst}
use Rattle.model.specs.State.{bits_at, with_bits}
use Rattle.model.specs.Groups.{bits_without}
use Rattle.model.specs.Daemon.{clear_by_daemon, obeyed}
use Rattle.machine.specs.StandsFor.{At}
use Rattle.ops.proofs.EventBits.{put_at}
use Rattle.ops.proofs.daemon.clear_by_daemon.Goals as goal

pub returns : goal.returns
unfolding clear_by_daemon
returns g c = record {
  at = λ s h.
      let group = c.args.group in
      let bits = bits_without (bits_at s group) c.args.mask in
      let P : ℕ → Type 0 = λ n.
      At c.obeyed.new.self (g.L.Log.logged c.obeyed.new.log).told
      (obeyed c.args.app.now c.args.task true n (with_bits group bits s)) in
      subst P (c.clear-bits.ensures.answer s h.stands.rest.groups)
      (c.obeyed.ensures.does.at _ (put_at c.args.machine.now (g.L.Log.logged c.args.log.now).told s
      h group c.clear-bits.new.self bits (c.clear-bits.ensures.stands s h.stands.rest.groups)));
  few = c.obeyed.ensures.does.few;
  before = c.obeyed.ensures.does.before;
}
