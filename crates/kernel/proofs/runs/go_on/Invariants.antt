use Rattle.std.proofs.Common.{◌≡◌, ◌+◌, ◌-◌}
use Rattle.machine.specs.Logged.{all_of}
use Rattle.kernel.specs.Along.{GoesOn}
use Rattle.kernel.proofs.runs.go_on.Given as goal

abbrev pub invariant-steps : goal.invariant-steps
invariant-steps l = record {
  along : GoesOn l.app l.limits l.until l.fn.kernel l.kernel (all_of l.fn.trail) (all_of l.trail);
  meter : l.meter + l.fn.kernel.steps ≡ l.fn.meter + l.kernel.steps;
}

abbrev pub decreases-steps : goal.decreases-steps
decreases-steps l = l.until - l.kernel.steps
