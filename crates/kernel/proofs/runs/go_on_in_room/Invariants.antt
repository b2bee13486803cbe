use Rattle.std.proofs.Common.{◌-◌}
use Rattle.machine.specs.Logged.{all_of}
use Rattle.kernel.specs.Along.{GoesOn}
use Rattle.kernel.proofs.runs.go_on_in_room.Given as goal

abbrev pub invariant-steps : goal.invariant-steps
invariant-steps l = GoesOn l.app l.limits l.until l.fn.kernel l.kernel (all_of l.fn.trail) (all_of l.trail)

abbrev pub decreases-steps : goal.decreases-steps
decreases-steps l = l.until - l.kernel.steps
