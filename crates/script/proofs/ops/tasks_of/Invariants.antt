use Rattle.std.proofs.Common.{◌≡◌, ◌++◌, [], length, map, drop}
use Rattle.std.specs.List.{AllByRecursion}
use Rattle.model.specs.Application.{Definition}
use Rattle.model.specs.Blocks.{Nests, edges_of}
use Rattle.model.specs.Scripts.{IsDefinition}
use Rattle.script.specs.Entries.{raw_view, entries_view}
use Rattle.script.specs.Ops.{with_script}
use Rattle.script.proofs.ops.tasks_of.Given as goal

abbrev pub invariant-loop-task : goal.invariant-loop-task
invariant-loop-task l =
    let left = map (with_script (entries_view l.entries)) (map raw_view (drop l.task-index l.entries.tasks.items)) in
    record {
      nest : AllByRecursion (λ (t : Definition). Nests [] (edges_of t.script)) left;
      named : map (with_script (entries_view l.entries)) (map raw_view l.entries.tasks.items) ≡ l.definitions.items ++ left;
      formed : AllByRecursion IsDefinition l.definitions.items;
      count : length l.definitions.items ≡ l.task-index;
    }
