use Rattle.std.proofs.Common.{◌≡◌, Some, None, refl, subst, ◌∙◌, arith}
use Rattle.model.specs.State.{Progress}
use Rattle.model.specs.Application.{op_at}
use Rattle.machine.proofs.Either.{does_any, does_more}
use Rattle.kernel.proofs.Running.{acts, rests}
use Rattle.kernel.proofs.suspended.act_while_suspended.Goals as goal

pub act_unless_misuse-requires-clause-can : goal.act_unless_misuse-requires-clause-can
act_unless_misuse-requires-clause-can g c =
    c.requires.can c.in-Some.op.now
    (let P : Progress → Type 0 = λ p. op_at c.args.app.now c.args.task p.op_index ≡ Some c.in-Some.op.now in
    subst P (c.behind-machine.view_is ∙ c.progress.ensures) c.in-Some.ensures.some)

pub returns-in-Some : goal.returns-in-Some
returns-in-Some g c = λ limits.
    let at : op_at c.args.app.now c.args.task _ ≡ Some c.in-Some.op.now =
    (let P : Progress → Type 0 = λ p. op_at c.args.app.now c.args.task p.op_index ≡ Some c.in-Some.op.now in
    subst P (c.behind-machine.view_is ∙ c.progress.ensures) c.in-Some.ensures.some) in
    acts c.args.app.now limits c.args.machine.now c.args.task c.requires.runs c.in-Some.op.now at
    c.act_unless_misuse.new.machine _ _
    (does_more 336 337 _ _ _ _ _ (omega arith)
    (does_any 336 _ _ _ _ _ (c.requires.can c.in-Some.op.now at).agrees c.act_unless_misuse.ensures))

pub returns-in_default : goal.returns-in_default
returns-in_default g c = λ limits.
    rests c.args.app.now limits c.args.machine.now c.args.task c.requires.runs
    (let P : Progress → Type 0 = λ p. op_at c.args.app.now c.args.task p.op_index ≡ None in
    subst P (c.behind-machine.view_is ∙ c.progress.ensures) (c.in_default.ensures.none refl))
    _
