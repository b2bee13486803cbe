use Rattle.std.proofs.Common.{◌≡◌, ◌≤◌, ◌++◌, length, map, drop}
use Rattle.toml.specs.View.{view}
use Rattle.model.specs.Blocks.{Nests, edges_of, open_behind, with_ends}
use Rattle.script.specs.Entries.{entries_view}
use Rattle.script.specs.Ops.{task_ops, ops_named, script_named}
use Rattle.script.proofs.ops.script_of.Given as goal

abbrev pub invariant-loop-text : goal.invariant-loop-text
invariant-loop-text l =
    let left =
    with_ends (open_behind l.builder) (ops_named task_ops (entries_view l.entries) (map view (drop l.text-index l.texts))) in
    record {
      nests : Nests (open_behind l.builder) (edges_of left);
      named : script_named (entries_view l.entries) (map view l.texts) ≡ l.builder ++ left;
      few : length l.builder ≤ l.text-index;
    }
