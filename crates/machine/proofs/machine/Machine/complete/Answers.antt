use Rattle.std.proofs.Common.{◌+◌, subst, ◌∙◌}
use Rattle.model.specs.State.{Progress, progress_at}
use Rattle.model.specs.Ops.{go_to}
use Rattle.machine.specs.StandsFor.{At}
use Rattle.machine.proofs.machine.Machine.complete.Goals as goal

pub returns-clause-does : goal.returns-clause-does
returns-clause-does c = λ log s h.
    let task = c.args.task in
    let P : Progress → Type 0 = λ p. At c.go_to.new.self log (go_to c.args.app.now task (p.op_index + 1) (progress_at s task) s) in
    subst P (c.behind-self.view_is ∙ c.progress.ensures ∙ h.stands.rest.progress task) (c.go_to.ensures.does log s h)
