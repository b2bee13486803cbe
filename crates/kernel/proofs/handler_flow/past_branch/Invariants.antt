use Rattle.std.proofs.Common.{◌≡◌, ◌≤◌, ◌+◌, drop}
use Rattle.model.specs.Blocks.{isr_edges_of, past_branch}
use Rattle.kernel.proofs.handler_flow.past_branch.Given as goal

abbrev pub invariant-loop-passed : goal.invariant-loop-passed
invariant-loop-passed l = record {
  few : l.inner ≤ l.passed;
  is : past_branch 0 (isr_edges_of l.ops) ≡ past_branch l.inner (isr_edges_of (drop l.passed l.ops)) + l.passed;
}
