use Rattle.std.proofs.Common.{refl}
use Rattle.machine.specs.StandsFor.{progress_in}
use Rattle.ops.proofs.Working.{jumped}
use Rattle.ops.proofs.script.skip_branch.Goals as goal

pub returns-clause-does : goal.returns-clause-does
returns-clause-does c = λ log s h.
    jumped c.args.app.now c.args.machine.now c.go_to.new.self log s h c.args.task
    c.requires.runs.current (progress_in c.args.machine.now.progress c.args.task) refl
    c.jump_from-behind_if.result c.jump_from-behind_if.ensures c.go_to.ensures.does
