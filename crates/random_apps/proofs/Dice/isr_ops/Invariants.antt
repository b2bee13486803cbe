use Rattle.std.proofs.Common.{◌≤◌, length}
use Rattle.std.specs.List.{AllByRecursion}
use Rattle.random_apps.specs.Known.{IsKnownIsrWith}
use Rattle.random_apps.proofs.Dice.isr_ops.Given as goal

abbrev pub invariant-loop : goal.invariant-loop
invariant-loop l = (length l.ops ≤ l.counter) × AllByRecursion (IsKnownIsrWith l.has_daemon l.objects) l.ops
