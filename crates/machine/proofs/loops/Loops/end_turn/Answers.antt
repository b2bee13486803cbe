use Rattle.std.proofs.Common.{◌∙◌, arith}
use Rattle.machine.proofs.Looping.{last_turn, one_turn_less}
use Rattle.machine.proofs.loops.Loops.end_turn.Goals as goal

pub returns-clause-loops : goal.returns-clause-loops
returns-clause-loops c =
    one_turn_less c.self.inside.cells c.self.inside.nesting c.in-Some.left c.args.self.now c.self.view_is c.if-self-eq0.false
    (let n = c.self.invariant in omega arith) c.in-Some.is c.if-left-le1.false

pub returns-then-left-le1-clause-loops : goal.returns-then-left-le1-clause-loops
returns-then-left-le1-clause-loops c =
    c.leave.ensures
    ∙ last_turn c.self.inside.cells c.self.inside.nesting c.in-Some.left c.args.self.now
    c.self.view_is c.if-self-eq0.false c.in-Some.is (omega (arith, c.if-left-le1.true))
