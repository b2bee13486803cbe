use Rattle.std.proofs.Common.{◌≡◌, [], map, drop}
use Rattle.std.specs.List.{fold}
use Rattle.toml.specs.View.{view}
use Rattle.script.specs.Arrays.{each_fault}
use Rattle.script.specs.Entries.{entries_view}
use Rattle.script.specs.Ops.{op_elements, blocks_with}
use Rattle.script.proofs.ops.check_script.Given as goal

abbrev pub invariant-loop-index : goal.invariant-loop-index
invariant-loop-index g l =
    let elements = op_elements g.O.TextOp.ops (entries_view l.entries) l.place in
    let next = blocks_with g.O.TextOp.ops (entries_view l.entries) in
    record {
      checks : each_fault elements [] 0 (map view l.texts) ≡ each_fault elements l.blocks l.index (map view (drop l.index l.texts));
      blocks : fold next [] (map view l.texts) ≡ fold next l.blocks (map view (drop l.index l.texts));
    }
