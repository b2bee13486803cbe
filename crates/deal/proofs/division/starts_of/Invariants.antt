use Rattle.std.proofs.Common.{◌≡◌, ◌<◌, ℕ, sum, take, slice_index, vec_len}
use Rattle.deal.proofs.division.starts_of.Given as goal

abbrev pub invariant-loop-length : goal.invariant-loop-length
invariant-loop-length l =
    (vec_len l.starts ≡ l.length-index) × (l.first ≡ sum (take l.length-index l.lengths))
    × ((i : ℕ) → i < l.length-index → slice_index l.starts.items i ≡ sum (take i l.lengths))
