use Rattle.std.proofs.Common.{◌≤◌, length}
use Rattle.std.specs.List.{AllByRecursion}
use Rattle.model.specs.Scripts.{IsObjectKind}
use Rattle.random_apps.proofs.Dice.objects.Given as goal

abbrev pub invariant-loop : goal.invariant-loop
invariant-loop l = (length l.objects.items ≤ l.counter) × AllByRecursion IsObjectKind l.objects.items
