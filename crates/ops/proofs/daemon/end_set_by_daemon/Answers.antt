use Rattle.std.proofs.Common.{ℕ, false, subst, ◌∙◌, arith}
use Rattle.model.specs.declared.call.Phase.TheVariants.{Start}
use Rattle.model.specs.Waiting.{end_hold}
use Rattle.model.specs.Daemon.{obeyed}
use Rattle.machine.specs.StandsFor.{At}
use Rattle.ops.proofs.daemon.end_set_by_daemon.Goals as goal

pub returns : goal.returns
returns g c = record {
  at = λ s h.
      let P : ℕ → Type 0 = λ n.
      At c.obeyed.new.self (g.L.Log.logged c.obeyed.new.log).told
      (obeyed c.args.app.now c.args.task false n (end_hold c.args.task Start s)) in
      c.preempt.ensures.does.at _ (subst P (c.bits-bits.ensures.stands s h.stands.rest.groups)
      (c.obeyed.ensures.does.at _ (c.end_hold.ensures.does (g.L.Log.logged c.args.log.now).told s h)));
  few = let a = c.obeyed.ensures.does.few in let b = c.preempt.ensures.does.few in omega arith;
  before = c.preempt.ensures.does.before ∙ c.obeyed.ensures.does.before;
}
