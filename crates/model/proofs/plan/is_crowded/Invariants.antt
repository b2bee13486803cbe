use Rattle.std.proofs.Common.{◌≡◌, length}
use Rattle.model.proofs.Plans.{fourth_found}
use Rattle.model.proofs.plan.is_crowded.Given as goal

abbrev pub invariant-loop-left : goal.invariant-loop-left
invariant-loop-left l = fourth_found l.injections ≡ fourth_found l.left

abbrev pub decreases-loop-left : goal.decreases-loop-left
decreases-loop-left l = length l.left
