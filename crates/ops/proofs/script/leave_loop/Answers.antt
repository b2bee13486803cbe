use Rattle.std.proofs.Common.{refl}
use Rattle.machine.specs.StandsFor.{progress_in}
use Rattle.ops.proofs.Working.{loop_left}
use Rattle.machine.proofs.Acting.{placed_then}
use Rattle.ops.proofs.script.leave_loop.Goals as goal

pub returns-clause-does : goal.returns-clause-does
returns-clause-does c = λ log s h.
    loop_left c.args.app.now c.args.machine.now c.go_to.new.self log s h c.args.task c.requires.runs.current
    (progress_in c.args.machine.now.progress c.args.task) refl c.leave_loop.new.self
    c.jump_from-behind_loop.result c.jump_from-behind_loop.ensures c.leave_loop.ensures c.go_to.ensures.does

pub returns-clause-amid : goal.returns-clause-amid
returns-clause-amid c = λ t.
    placed_then c.args.machine.now c.leave_loop.new.self c.go_to.new.self
    c.args.task _ c.leave_loop.ensures (c.go_to.ensures.amid t)
