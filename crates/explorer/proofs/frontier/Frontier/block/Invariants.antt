use Rattle.std.proofs.Common.{◌-◌, ◌<◌, ◌≤◌}
use Rattle.explorer.proofs.frontier.Frontier.block.Given as goal

abbrev pub invariant-loop-steps : goal.invariant-loop-steps
invariant-loop-steps l = record {
  some : 0 < l.steps;
  few : l.steps ≤ 2048;
}

abbrev pub decreases-loop-steps : goal.decreases-loop-steps
decreases-loop-steps l = 1024 - l.steps
