use Rattle.std.proofs.Common.{◌≡◌, ◌≤◌, ◌+◌, ◌-◌}
use Rattle.machine.specs.Logged.{all_of}
use Rattle.kernel.specs.Leads.{IsLed}
use Rattle.kernel.proofs.rests.go_far.Given as goal

abbrev pub invariant-steps : goal.invariant-steps
invariant-steps l = record {
  led : IsLed l.app l.limits l.fn.kernel l.machine (all_of l.fn.trail) (all_of l.trail);
  far : l.machine.steps ≤ l.until;
  meter : l.meter + l.fn.kernel.steps ≡ l.fn.meter + l.machine.steps;
}

abbrev pub decreases-steps : goal.decreases-steps
decreases-steps l = l.until - l.machine.steps
