use Rattle.std.proofs.Common.{◌≤◌, ◌-◌, ◌∷◌, vec_len}
use Rattle.rows.specs.Pieces.{AreFresh, ArePairs}
use Rattle.rows.proofs.rendering.lanes.lanes_of.Given as goal

abbrev pub invariant-loop-alloc : goal.invariant-loop-alloc
invariant-loop-alloc l = record {
  few : vec_len l.inboxes ≤ l.count;
  pairs : ArePairs (l.own ∷ l.others.items) l.inboxes.items;
  fresh : AreFresh (l.own ∷ l.others.items);
}

abbrev pub decreases-loop-alloc : goal.decreases-loop-alloc
decreases-loop-alloc l = l.count - vec_len l.inboxes
