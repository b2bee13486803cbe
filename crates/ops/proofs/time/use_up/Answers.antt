use Rattle.std.proofs.Common.{◌∙◌}
use Rattle.machine.specs.contracts.progress.Progress.{the_view}
use Rattle.ops.proofs.Working.{used_last, used_more}
use Rattle.ops.proofs.time.use_up.Goals as goal

pub returns-then-used-ticks-clause-does : goal.returns-then-used-ticks-clause-does
returns-then-used-ticks-clause-does c = λ log s h.
    used_last c.args.app.now c.args.machine.now c.complete.new.self log s h c.args.task c.requires.runs.current
    (the_view c.behind-machine.inside) (c.behind-machine.view_is ∙ c.progress.ensures) c.args.ticks
    c.if-used-ticks.true c.complete.ensures.does

pub returns-else-used-ticks-clause-does : goal.returns-else-used-ticks-clause-does
returns-else-used-ticks-clause-does c = λ log s h.
    used_more c.args.app.now c.args.machine.now c.set_used.new.self log s h c.args.task
    c.requires.runs.current (the_view c.behind-machine.inside)
    (c.behind-machine.view_is ∙ c.progress.ensures) c.args.ticks c.if-used-ticks.false c.set_used.ensures
