use Rattle.std.proofs.Common.{◌≡◌, ◌∙◌, Some, sym, subst, arith}
use Rattle.model.specs.Application.{op_at}
use Rattle.model.specs.State.{Progress}
use Rattle.kernel.proofs.steps.current_op.Goals as goal

pub returns-in-Some-op_of-clause-some : goal.returns-in-Some-op_of-clause-some
returns-in-Some-op_of-clause-some c = record {
  current = sym c.current.ensures.current ∙ c.in-Some.is;
  at =
      (let P : Progress → Type 0 = λ p. op_at c.args.app.now c.in-Some.task p.op_index ≡ Some c.in-Some-op_of.op.now in
      subst P (c.behind-machine.view_is ∙ c.progress.ensures) c.in-Some-op_of.ensures.some);
  awake = (let e = c.suspensions.ensures.suspensions in let l = c.if-suspensions-gt0.false in omega arith);
}
