use Rattle.std.proofs.Common.{◌∙◌, subst}
use Rattle.model.specs.declared.event.End.TheVariants.{Check}
use Rattle.model.specs.Ops.{fail}
use Rattle.model.specs.State.{Progress}
use Rattle.machine.specs.StandsFor.{At, AtAny}
use Rattle.machine.specs.StandsFor.Stands.{Placed}
use Rattle.ops.proofs.Valued.{failed_at, failed_any}
use Rattle.ops.proofs.values.fail_check.Goals as goal

pub returns-clause-does : goal.returns-clause-does
returns-clause-does c = λ log s h.
    failed_at c.args.machine.now c.fail.new.self log s (Placed h.stands) c.args.task
    (subst (λ (p : Progress). At c.fail.new.self log (fail (Check c.args.task p.op_index) s))
    (c.behind-machine.view_is ∙ c.progress.ensures) (c.fail.ensures.does log s h))

pub returns-clause-any : goal.returns-clause-any
returns-clause-any c = λ log s h.
    failed_any c.args.machine.now c.fail.new.self log s h.stands c.args.task
    (subst (λ (p : Progress). AtAny c.fail.new.self log (fail (Check c.args.task p.op_index) s))
    (c.behind-machine.view_is ∙ c.progress.ensures) (c.fail.ensures.any log s h))
