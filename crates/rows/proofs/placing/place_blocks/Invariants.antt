use Rattle.std.proofs.Common.{◌≡◌, drop, length}
use Rattle.rows.specs.Placing.{placed}
use Rattle.rows.proofs.placing.place_blocks.Given as goal

abbrev pub invariant-loop-block : goal.invariant-loop-block
invariant-loop-block l = record {
  placed : placed l.part (drop l.block-index l.blocks) l.places ≡ placed l.part l.blocks l.fn.places;
  long : length l.places ≡ length l.fn.places;
}
