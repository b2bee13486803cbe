use Rattle.std.proofs.Common.{◌≡◌, ◌++◌, map, drop}
use Rattle.std.specs.List.{AllByRecursion}
use Rattle.model.specs.Scripts.{IsObjectKind}
use Rattle.script.specs.Entries.{ObjectEntry, object_view}
use Rattle.script.proofs.objects.kinds_of.Given as goal

abbrev pub invariant-loop-object : goal.invariant-loop-object
invariant-loop-object l = record {
  kinds : map (λ (o : ObjectEntry). o.kind) (map object_view l.objects)
      ≡ l.kinds.items ++ map (λ (o : ObjectEntry). o.kind) (map object_view (drop l.object-index l.objects));
  formed : AllByRecursion IsObjectKind l.kinds.items;
}
