use Rattle.std.proofs.Common.{◌≤◌, ◌+◌, length}
use Rattle.std.specs.List.{AllByRecursion}
use Rattle.random_apps.specs.Known.{IsKnownIsrWith}
use Rattle.random_apps.proofs.handlers.close.Given as goal

abbrev pub invariant-loop : goal.invariant-loop
invariant-loop l = (length l.ops ≤ 8 + l.counter) × AllByRecursion (IsKnownIsrWith l.has_daemon l.objects) l.ops
