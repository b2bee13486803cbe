use Rattle.std.proofs.Common.{◌≡◌, vec_len}
use Rattle.deal.specs.Totals.{in_turn}
use Rattle.deal.specs.Marks.{mark, IsShareOf}
use Rattle.deal.specs.Dealing.{AreDealt}
use Rattle.deal.proofs.HandMoves.{left_at}
use Rattle.deal.proofs.hands.deal_all.Given as goal

abbrev pub invariant-loop-turn : goal.invariant-loop-turn
invariant-loop-turn l =
    (l.workers ≡ vec_len l.fn.hands) × (vec_len l.hands ≡ vec_len l.fn.hands)
    × IsShareOf l.count.shared.table_id l.dealer
    × (l.dealer.me.0 ≡ mark l.blocks l.fn.dealer.me.0.lanes l.fn.dealer.me.0.parts 0 0 (left_at l.rising l.blocks l.turn))
    × AreDealt l.count.shared.table_id (vec_len l.fn.hands) (in_turn l.rising l.blocks)
    (left_at l.rising l.blocks l.turn) l.hands.items
