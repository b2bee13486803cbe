use Rattle.std.proofs.Common.{◌≤◌, ◌+◌, length}
use Rattle.random_apps.specs.Known.{AreKnown}
use Rattle.random_apps.proofs.blocks.close.Given as goal

abbrev pub invariant-loop : goal.invariant-loop
invariant-loop l = (length l.script ≤ 32 + l.counter) × AreKnown l.objects l.script
