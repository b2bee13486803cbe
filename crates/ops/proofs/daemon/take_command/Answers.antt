use Rattle.std.proofs.Common.{ℕ, Option, Some, None, sym, subst, ◌∙◌, arith, refl}
use Rattle.model.specs.declared.op.Access.TheVariants.{Receive}
use Rattle.model.specs.declared.call.Phase.TheVariants.{Decide}
use Rattle.model.specs.Objects.{fulfil}
use Rattle.model.specs.Switching.{preempt}
use Rattle.model.specs.Daemon.{received}
use Rattle.machine.specs.StandsFor.{At}
use Rattle.machine.specs.StandsFor.Stands.{Placed}
use Rattle.machine.proofs.Continuing.{gone_on}
use Rattle.ops.proofs.Commanding.{took, took_none}
use Rattle.ops.proofs.daemon.take_command.Goals as goal

pub returns-then-possible : goal.returns-then-possible
returns-then-possible g c = record {
  at = λ s h.
      let app = c.args.app.now in
      let i : ℕ = c.args.task in
      let told = (g.L.Log.logged c.preempt.new.log).told in
      let there = c.preempt.ensures.does.at _ (c.received.ensures.does _ _ (c.fulfil-item.ensures.does _ s h)) in
      took app c.preempt.new.self told s i c.args.queue
      (sym (c.possible.ensures.stands s None h.stands.rest.objects) ∙ c.if-possible.true)
      (subst (λ (a : Option ℕ). At c.preempt.new.self told (preempt (received app i a (fulfil (Some i) c.args.queue Receive s))))
      (c.fulfil-item.ensures.answer s (Placed h.stands)) there);
  few = c.preempt.ensures.does.few;
  before = c.preempt.ensures.does.before;
}

pub returns : goal.returns
returns g c = record {
  at = λ s h.
      took_none c.args.app.now c.set_phase.new.self (g.L.Log.logged c.args.log.now).told s c.args.task
      c.args.queue (sym (c.possible.ensures.stands s None h.stands.rest.objects) ∙ c.if-possible.false)
      (gone_on c.args.machine.now c.set_phase.new.self (g.L.Log.logged c.args.log.now).told s h
      c.args.task c.requires.can.runs.current Decide c.set_phase.ensures (λ e. absurd (cc)));
  few = omega arith;
  before = refl;
}
