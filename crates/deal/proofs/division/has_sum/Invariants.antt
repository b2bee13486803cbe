use Rattle.std.proofs.Common.{◌≡◌, ◌+◌, sum, take}
use Rattle.deal.proofs.division.has_sum.Given as goal

abbrev pub invariant-loop-length : goal.invariant-loop-length
invariant-loop-length l = l.left + sum (take l.length-index l.lengths) ≡ l.total
