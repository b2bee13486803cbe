use Rattle.std.proofs.Common.{◌≡◌, ◌≤◌, ◌+◌, drop}
use Rattle.model.specs.Blocks.{edges_of, past_loop}
use Rattle.model.proofs.script.past_loop.Given as goal

abbrev pub invariant-loop-op : goal.invariant-loop-op
invariant-loop-op l =
    (l.passed + past_loop l.inner (edges_of (drop l.op-index l.fn.ops)) ≡ past_loop 0 (edges_of l.fn.ops))
    × (l.passed ≡ l.op-index) × (l.inner ≤ l.op-index)
