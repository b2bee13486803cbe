use Rattle.std.proofs.Common.{◌≡◌, ◌≤◌, ◌+◌, ◌-◌, ◌++◌}
use Rattle.machine.specs.Logged.{all_of}
use Rattle.machine.specs.Can.{IsUnderWay}
use Rattle.kernel.specs.Rows.{events_from}
use Rattle.kernel.proofs.Planned.{IsLeft}
use Rattle.kernel.proofs.runs.go_to_step.Given as goal

abbrev pub invariant-steps : goal.invariant-steps
invariant-steps l = record {
  way : IsUnderWay l.app l.injections l.limits l.kernel;
  on : l.fn.kernel.steps ≤ l.kernel.steps;
  far : l.kernel.steps ≤ l.step;
  events : all_of l.trail ≡ all_of l.fn.trail ++ events_from l.app l.limits l.injections l.fn.kernel.steps l.kernel.steps;
  left : IsLeft l.injections l.left l.kernel.steps;
  meter : l.meter + l.fn.kernel.steps ≡ l.fn.meter + l.kernel.steps;
}

abbrev pub decreases-steps : goal.decreases-steps
decreases-steps l = l.limits.steps - l.kernel.steps
