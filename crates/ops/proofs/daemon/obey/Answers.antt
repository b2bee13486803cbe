use Rattle.std.proofs.Common.{ap, sym, subst, ◌∙◌}
use Rattle.model.specs.declared.call.Phase.TheVariants.{Start}
use Rattle.model.specs.State.{Progress}
use Rattle.ops.specs.Can.{CanSetBits}
use Rattle.machine.proofs.Either.{moves_any}
use Rattle.ops.proofs.Commanding.{obey_in_phase, obey_set}
use Rattle.ops.proofs.daemon.obey.Goals as goal

pub returns-in-Start-2 : goal.returns-in-Start-2
returns-in-Start-2 g c =
    let k = c.args.machine.now in
    let log = g.L.Log.logged c.args.log.now in
    let e = ap (λ (p : Progress). p.call.phase) (sym (c.behind-machine.view_is ∙ c.progress.ensures)) ∙ c.in-Start-2.is in
    let can = subst (CanSetBits k c.args.task) e c.requires.can in
    obey_in_phase c.args.app.now k c.begin_set.new.machine log log c.args.task
    c.command_of-command.result Start e c.command_of-command.ensures
    (obey_set c.args.app.now k c.begin_set.new.machine log log c.args.task c.command_of-command.result
    c.if-command.false (moves_any 2 k c.begin_set.new.machine log _ can.agrees c.begin_set.ensures.does))
