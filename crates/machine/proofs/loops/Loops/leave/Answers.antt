use Rattle.machine.proofs.Looping.{without_innermost}
use Rattle.machine.proofs.loops.Loops.leave.Goals as goal

pub returns-then-self-gt0 : goal.returns-then-self-gt0
returns-then-self-gt0 c =
    without_innermost c.self.inside.cells c.self.inside.nesting c.args.self.now c.self.view_is c.if-self-gt0.true
