use Rattle.std.proofs.Common.{◌+◌, arith}
use Rattle.kernel.proofs.Along.{free_sooner, goes_as_far}
use Rattle.kernel.proofs.quiet.pass_quiet_steps.Goals as goal

pub pass_ticks-requires-clause-free : goal.pass_ticks-requires-clause-free
pass_ticks-requires-clause-free c =
    let few = c.min-count.ensures in
    free_sooner (c.args.kernel.now.steps + c.min-count.result) (λ n from below. omega arith) c.requires.free

pub quiet_steps-quiet-requires-clause-none : goal.quiet_steps-quiet-requires-clause-none
quiet_steps-quiet-requires-clause-none c =
    c.requires.free.none (omega (arith, c.if-until-kernel.false))

pub returns : goal.returns
returns c =
    let few = c.min-count.ensures in
    goes_as_far (omega arith) (λ n from below. omega arith) c.pass_ticks.ensures.along
