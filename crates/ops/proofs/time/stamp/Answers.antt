use Rattle.std.proofs.Common.{refl}
use Rattle.machine.specs.StandsFor.{progress_in}
use Rattle.ops.proofs.Working.{stamped_at}
use Rattle.machine.proofs.Acting.{placed_then}
use Rattle.ops.proofs.time.stamp.Goals as goal

pub returns-clause-does : goal.returns-clause-does
returns-clause-does c = λ log s h.
    stamped_at c.args.app.now c.args.machine.now c.complete.new.self log s h c.args.task
    c.requires.runs.current (progress_in c.args.machine.now.progress c.args.task) refl c.set_stamp.new.self
    c.now-now.result c.now-now.ensures.now c.set_stamp.ensures c.complete.ensures.does

pub returns-clause-amid : goal.returns-clause-amid
returns-clause-amid c = λ t.
    placed_then c.args.machine.now c.set_stamp.new.self c.complete.new.self
    c.args.task _ c.set_stamp.ensures (c.complete.ensures.amid t)
