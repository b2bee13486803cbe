use Rattle.std.proofs.Common.{◌≡◌, ◌++◌, length, map, drop}
use Rattle.std.specs.List.{AllByRecursion}
use Rattle.script.specs.Entries.{isr_view, entries_view}
use Rattle.script.specs.Ops.{IsLimited, with_isr_ops}
use Rattle.script.proofs.ops.handlers_of.Given as goal

abbrev pub invariant-loop-handler : goal.invariant-loop-handler
invariant-loop-handler l = record {
  named : map (with_isr_ops (entries_view l.entries)) (map isr_view l.entries.handlers.items)
      ≡ l.definitions.items
      ++ map (with_isr_ops (entries_view l.entries)) (map isr_view (drop l.handler-index l.entries.handlers.items));
  formed : AllByRecursion IsLimited l.definitions.items;
  count : length l.definitions.items ≡ l.handler-index;
}
