use Rattle.std.proofs.Common.{◌≡◌, ◌∙◌, Some, ap, sym, subst, arith}
use Rattle.model.specs.declared.op.Op.{Op}
use Rattle.model.specs.declared.call.Phase.TheVariants.{Start}
use Rattle.model.specs.Application.{op_at}
use Rattle.model.specs.State.{Progress}
use Rattle.kernel.proofs.InCall.{same_phase}
use Rattle.kernel.proofs.commands.set_received.Goals as goal

pub returns : goal.returns
returns c = record {
  current = c.requires.runs;
  at =
      (let P : Progress → Type 0 = λ p. op_at c.args.app.now c.args.task p.op_index ≡ Some c.in-Some.op.now in
      subst P (c.behind-machine.view_is ∙ c.progress.ensures) c.in-Some.ensures.some)
      ∙ ap (λ (o : Op). Some o) c.in-Obey.is;
  reached = sym c.phase.ensures ∙ same_phase c.phase.result Start c.if-ne.ensures;
  awake = (let e = c.suspensions.ensures.suspensions in let l = c.if-suspensions-gt0.false in omega arith);
  received = c.command_of-command.ensures;
  sets = c.if-command.false;
}
