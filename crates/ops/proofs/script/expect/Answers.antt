use Rattle.std.proofs.Common.{◌∙◌}
use Rattle.machine.specs.contracts.progress.Progress.{the_view}
use Rattle.ops.proofs.Working.{expect_held, expect_failed}
use Rattle.ops.proofs.script.expect.Goals as goal

pub returns-then-holds-clause-does : goal.returns-then-holds-clause-does
returns-then-holds-clause-does c = λ log s h.
    expect_held c.args.app.now c.args.machine.now c.complete.new.self log s h c.args.task
    c.requires.runs.current (the_view c.progress.inside) (c.progress.view_is ∙ c.progress-progress.ensures)
    c.values.result.now c.values.ensures c.args.condition.now c.if-holds.ensures c.complete.ensures.does

pub returns-else-holds-clause-does : goal.returns-else-holds-clause-does
returns-else-holds-clause-does c = λ log s h.
    expect_failed c.args.app.now c.args.machine.now c.fail.new.self log s h c.args.task c.requires.runs.current
    (the_view c.progress.inside) (c.progress.view_is ∙ c.progress-progress.ensures)
    c.values.result.now c.values.ensures c.args.condition.now
    c.if-holds.ensures (c.fail.ensures.does log s h)
