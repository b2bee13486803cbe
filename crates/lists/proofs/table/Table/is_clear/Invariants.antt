use Rattle.std.proofs.Common.{◌≡◌, ◌<◌, ◌-◌, ℕ, None, get_or}
use Rattle.lists.proofs.table.Table.is_clear.Given as goal

abbrev pub invariant-loop-node : goal.invariant-loop-node
invariant-loop-node g l = (at : ℕ) → at < l.node → get_or l.self-inside.rings.place at None ≡ None

abbrev pub decreases-loop-node : goal.decreases-loop-node
decreases-loop-node g l = g.row.N - l.node
