use Rattle.std.proofs.Common.{ap, sym, subst, ◌∙◌}
use Rattle.model.specs.declared.call.Phase.TheVariants.{Start}
use Rattle.model.specs.State.{Progress}
use Rattle.ops.specs.Can.{CanSetBits}
use Rattle.machine.proofs.Either.{moves_any}
use Rattle.ops.proofs.EventBits.{set_in_phase}
use Rattle.ops.proofs.event_groups.set_bits.Goals as goal

pub returns-in-Start-clause-does : goal.returns-in-Start-clause-does
returns-in-Start-clause-does g c =
    let k = c.args.machine.now in
    let log = g.L.Log.logged c.args.log.now in
    let e = ap (λ (p : Progress). p.call.phase) (sym (c.behind-machine.view_is ∙ c.progress.ensures)) ∙ c.in-Start.is in
    let can = subst (CanSetBits k c.args.task) e c.requires.can in
    set_in_phase c.args.app.now k c.begin_set.new.machine log log c.args.task c.args.group c.args.mask Start e
    (moves_any 2 k c.begin_set.new.machine log _ can.agrees c.begin_set.ensures.does)

pub returns-in-Start-clause-takes : goal.returns-in-Start-clause-takes
returns-in-Start-clause-takes g c = λ _.
    let k = c.args.machine.now in
    let e = ap (λ (p : Progress). p.call.phase) (sym (c.behind-machine.view_is ∙ c.progress.ensures)) ∙ c.in-Start.is in
    let can = subst (CanSetBits k c.args.task) e c.requires.can in
    record {
      agrees = can.agrees;
      remains = c.begin_set.ensures.remains;
      held = c.begin_set.ensures.held;
      reached = c.begin_set.ensures.reached;
    }
