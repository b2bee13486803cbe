use Rattle.std.proofs.Common.{◌-◌, arith}
use Rattle.kernel.proofs.quiet.free_until.Goals as goal

pub returns-clause-most : goal.returns-clause-most
returns-clause-most c = λ n on far few early.
    let most = c.free_steps-left.ensures.most (n - c.args.machine.now.steps) (omega arith) (omega arith) in
    let least = c.min.ensures in
    omega arith
