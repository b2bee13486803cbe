use Rattle.std.proofs.Common.{◌≡◌, ◌≤◌, ◌++◌, drop, length}
use Rattle.model.specs.Blocks.{edges_of, jumps_from}
use Rattle.model.proofs.script.jumps_of.Given as goal

abbrev pub invariant-loop-index : goal.invariant-loop-index
invariant-loop-index l =
    (l.jumps.items ++ jumps_from l.index (edges_of (drop l.index l.fn.ops)) ≡ jumps_from 0 (edges_of l.fn.ops))
    × (l.index ≤ length l.fn.ops)
