use Rattle.std.proofs.Common.{◌≤◌, length}
use Rattle.random_apps.specs.Known.{AreKnown}
use Rattle.random_apps.proofs.Dice.script.Given as goal

abbrev pub invariant-loop-index : goal.invariant-loop-index
invariant-loop-index l = (length l.script ≤ l.index) × AreKnown l.objects l.script
