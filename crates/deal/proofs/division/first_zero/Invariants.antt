use Rattle.std.proofs.Common.{◌<◌, ℕ, slice_index}
use Rattle.deal.proofs.division.first_zero.Given as goal

abbrev pub invariant-loop-i : goal.invariant-loop-i
invariant-loop-i l = (k : ℕ) → k < l.i → 0 < slice_index l.lengths k
