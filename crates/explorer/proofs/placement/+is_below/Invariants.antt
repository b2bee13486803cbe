use Rattle.std.proofs.Common.{length}
use Rattle.explorer.proofs.placement.+is_below.Given as goal

abbrev pub decreases-is_below : goal.decreases-is_below
decreases-is_below l = length l.ones.now
