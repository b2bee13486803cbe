use Rattle.std.proofs.Common.{◌≡◌, ◌≤◌, ◌+◌, drop}
use Rattle.model.specs.Blocks.{loops_in}
use Rattle.model.proofs.block.OpenBlocks.loops.Given as goal

abbrev pub invariant-loop-block : goal.invariant-loop-block
invariant-loop-block l =
    (l.loops + loops_in (drop l.block-index l.fn.self) ≡ loops_in l.fn.self) × (l.loops ≤ l.block-index)
