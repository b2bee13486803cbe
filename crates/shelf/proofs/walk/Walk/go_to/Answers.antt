use Rattle.std.proofs.Common.{◌<◌, [], length, arith}
use Rattle.model.specs.Run.{events_after}
use Rattle.model.proofs.Injected.{no_fewer}
use Rattle.shelf.proofs.Walking.{on_err}
use Rattle.shelf.proofs.walk.Walk.go_to.Goals as goal

pub returns-in_err-ending-clause-memory : goal.returns-in_err-ending-clause-memory
returns-in_err-ending-clause-memory c =
    let some = c.in_err-ending.ensures.memory in
    let more = no_fewer c.args.app.now c.args.limits.now [] c.go_far.new.kernel.steps c.args.step c.in_err-ending.ensures.far in
    let reports : 0 < length (events_after c.args.app.now c.args.limits.now [] c.args.step) = omega (arith, some, more) in
    on_err c.from_residual.result reports
