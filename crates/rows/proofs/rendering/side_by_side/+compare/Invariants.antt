use Rattle.std.proofs.Common.{length}
use Rattle.rows.proofs.rendering.side_by_side.+compare.Given as goal

abbrev pub decreases-compare : goal.decreases-compare
decreases-compare l = length l.renderers.now
