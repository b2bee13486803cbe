use Rattle.std.proofs.Common.{◌≡◌, ◌≤◌, ◌+◌, drop}
use Rattle.model.specs.Blocks.{edges_of, past_branch}
use Rattle.model.proofs.script.past_branch.Given as goal

abbrev pub invariant-loop-op : goal.invariant-loop-op
invariant-loop-op l =
    (l.passed + past_branch l.inner (edges_of (drop l.op-index l.fn.ops)) ≡ past_branch 0 (edges_of l.fn.ops))
    × (l.passed ≡ l.op-index) × (l.inner ≤ l.op-index)
