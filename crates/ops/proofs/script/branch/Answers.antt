use Rattle.std.proofs.Common.{ap, refl, ◌∙◌}
use Rattle.model.specs.Answers.{holds}
use Rattle.model.specs.State.{Progress}
use Rattle.machine.specs.StandsFor.{progress_in}
use Rattle.machine.specs.contracts.progress.Progress.{the_view}
use Rattle.ops.proofs.Working.{branch_skipped, branch_taken}
use Rattle.ops.proofs.script.branch.Goals as goal

pub returns-then-holds-clause-does : goal.returns-then-holds-clause-does
returns-then-holds-clause-does c = λ log s h.
    branch_taken c.args.app.now c.args.machine.now c.complete.new.self log s h c.args.task c.requires.runs.current
    (the_view c.behind-machine.inside) (c.behind-machine.view_is ∙ c.progress.ensures)
    c.values.result.now c.values.ensures c.args.condition.now
    c.if-holds.ensures c.complete.ensures.does

pub returns-else-holds-clause-does : goal.returns-else-holds-clause-does
returns-else-holds-clause-does c = λ log s h.
    branch_skipped c.args.app.now c.args.machine.now c.go_to.new.self log s h c.args.task c.requires.runs.current
    (progress_in c.args.machine.now.progress c.args.task) refl c.values.result.now c.values.ensures
    c.args.condition.now c.jump_from-behind_branch.result
    (c.if-holds.ensures
    ∙ ap (λ (p : Progress). holds c.values.result.now c.args.condition.now p.answer)
    (c.behind-machine.view_is ∙ c.progress.ensures))
    c.jump_from-behind_branch.ensures c.go_to.ensures.does
