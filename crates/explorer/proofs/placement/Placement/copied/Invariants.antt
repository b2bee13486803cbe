use Rattle.std.proofs.Common.{◌≡◌, take}
use Rattle.explorer.proofs.placement.Placement.copied.Given as goal

abbrev pub invariant-loop-injection : goal.invariant-loop-injection
invariant-loop-injection l = l.all.items ≡ take l.injection-index l.injection-items
