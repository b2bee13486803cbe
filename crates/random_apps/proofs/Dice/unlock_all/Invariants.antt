use Rattle.std.proofs.Common.{◌≤◌, ◌+◌, length}
use Rattle.random_apps.specs.Known.{AreKnown}
use Rattle.random_apps.proofs.Dice.unlock_all.Given as goal

abbrev pub invariant-loop-number : goal.invariant-loop-number
invariant-loop-number l = (length l.script ≤ 28 + l.number) × AreKnown l.objects l.script
