use Rattle.std.proofs.Common.{◌≡◌, ◌≤◌, ◌++◌, length, map, drop}
use Rattle.std.specs.List.{filter_map}
use Rattle.toml.specs.View.{view}
use Rattle.script.specs.Finding.{among}
use Rattle.script.specs.Entries.{entries_view}
use Rattle.script.specs.Ops.{handler_ops, op_in}
use Rattle.script.proofs.ops.ops_of.Given as goal

abbrev pub invariant-loop-text : goal.invariant-loop-text
invariant-loop-text l = record {
  named : filter_map (op_in handler_ops (among (entries_view l.entries))) (map view l.texts)
      ≡ l.ops.items ++ filter_map (op_in handler_ops (among (entries_view l.entries))) (map view (drop l.text-index l.texts));
  few : length l.ops.items ≤ l.text-index;
}
