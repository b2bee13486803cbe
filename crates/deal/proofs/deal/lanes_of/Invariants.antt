use Rattle.std.proofs.Common.{◌≡◌, ◌≤◌, ◌-◌, length, map, vec_len}
use Rattle.deal.specs.Totals.{range, in_turn}
use Rattle.deal.specs.Dealing.{AreHands}
use Rattle.deal.specs.Lanes.{IsDealer, game}
use Rattle.deal.specs.Sharing.{fresh}
use Rattle.deal.proofs.deal.lanes_of.Given as goal

abbrev pub invariant-loop-hand : goal.invariant-loop-hand
invariant-loop-hand l =
    let s = l.shared.value in
    let key = s.count.shared.key in
    let z = s.count.shared.table_id in
    (vec_len l.hands ≤ key.lanes)
    × IsDealer key z (vec_len l.hands) l.dealer
    × AreHands z key.lanes (in_turn key.rising (length s.division)) 4096 l.hands.items
    × (l.lanes.items ≡ map (fresh (game z key s.division)) (range (vec_len l.hands) (key.lanes - vec_len l.hands)))

abbrev pub decreases-loop-hand : goal.decreases-loop-hand
decreases-loop-hand l = vec_len l.hands
