use Rattle.std.proofs.Common.{◌≡◌, ◌++◌, [], List, length, reverse, vec_len}
use Rattle.std.specs.Prelude.{vec_capacity}
use Rattle.deal.specs.Sharing.{Sight, lists_of}
use Rattle.deal.specs.Closing.{items_of, HasBack}
use Rattle.deal.proofs.deal.take_back.Given as goal

abbrev pub invariant-loop-lane : goal.invariant-loop-lane
invariant-loop-lane l =
    (done : List Sight)
    × (l.fn.lanes.items ≡ done ++ reverse l.lanes.items)
    × (items_of l.lists.items ≡ lists_of done) × (vec_len l.lists ≡ length done)
    × (vec_capacity l.lists ≡ vec_capacity l.fn.lists)
    × (l.dealer.table_id ≡ l.fn.dealer.table_id) × (l.dealer.me.1 ≡ [])
    × HasBack l.fn.dealer.me.0 done l.dealer.me.0

abbrev pub decreases-loop-lane : goal.decreases-loop-lane
decreases-loop-lane l = vec_len l.lanes
