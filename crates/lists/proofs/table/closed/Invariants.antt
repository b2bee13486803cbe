use Rattle.std.proofs.Common.{◌≡◌, ℕ, ◌<◌, get_or, length}
use Rattle.lists.proofs.table.closed.Given as goal

abbrev pub invariant-loop-at : goal.invariant-loop-at
invariant-loop-at g l = (length l.links ≡ g.row.M) × ((i : ℕ) → i < l.at → get_or l.links i 0 ≡ i)
