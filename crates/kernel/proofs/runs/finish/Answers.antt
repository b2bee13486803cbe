use Rattle.std.proofs.Common.{arith}
use Rattle.kernel.proofs.Running.{steps_low}
use Rattle.kernel.proofs.runs.finish.Goals as goal

pub go_to_step-requires-clause-soon : goal.go_to_step-requires-clause-soon
go_to_step-requires-clause-soon c =
    let low =
    steps_low c.args.app.now c.args.injections.now c.args.limits.now c.well_formed-2.ensures c.args.kernel.now c.requires.way in
    omega arith
