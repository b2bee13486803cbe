use Rattle.std.proofs.Common.{◌∙◌, sym, arith}
use Rattle.kernel.proofs.Running.{rests}
use Rattle.kernel.proofs.steps.act_without_op.Goals as goal

pub act_while_suspended-requires-clause-can : goal.act_while_suspended-requires-clause-can
act_while_suspended-requires-clause-can g c = λ op at.
    (c.requires.can.op c.in-Some.task op (sym c.current.ensures.current ∙ c.in-Some.is) at).1
    (let e = c.suspensions.ensures.suspensions in let l = c.if-suspensions-gt0.true in omega arith)

pub returns-then-suspensions-gt0-clause-does : goal.returns-then-suspensions-gt0-clause-does
returns-then-suspensions-gt0-clause-does g c = c.act_while_suspended.ensures c.args.limits.now

pub returns-else-suspensions-gt0-clause-does : goal.returns-else-suspensions-gt0-clause-does
returns-else-suspensions-gt0-clause-does g c =
    let runs = sym c.current.ensures.current ∙ c.in-Some.is in
    rests c.args.app.now c.args.limits.now c.args.machine.now c.in-Some.task runs
    (c.requires.none c.in-Some.task runs
    (let e = c.suspensions.ensures.suspensions in let l = c.if-suspensions-gt0.false in omega arith)) _
