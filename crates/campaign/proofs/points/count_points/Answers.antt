use Rattle.std.proofs.Common.{arith}
use Rattle.campaign.proofs.points.count_points.Goals as goal

pub overflow_add-count : goal.overflow_add-count
overflow_add-count c =
    let few = c.loop-entry.invariant.few in
    let one = c.count_of-count.ensures.few in
    omega arith
