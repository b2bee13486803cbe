use Rattle.kernel.proofs.Running.{acts}
use Rattle.kernel.proofs.steps.act_current.Goals as goal

pub act-requires-clause-awake : goal.act-requires-clause-awake
act-requires-clause-awake g c = c.in-Some.ensures.some.awake

pub act-requires-clause-can : goal.act-requires-clause-can
act-requires-clause-can g c =
    let at = c.in-Some.ensures.some in
    (c.requires.can.op c.in-Some.found.0 c.in-Some.found.1.now at.current at.at).0 at.awake

pub returns-in-Some : goal.returns-in-Some
returns-in-Some g c =
    let at = c.in-Some.ensures.some in
    acts c.args.app.now c.args.limits.now c.args.machine.now c.in-Some.found.0
    at.current c.in-Some.found.1.now at.at c.act.new.machine _ _ c.act.ensures.does
