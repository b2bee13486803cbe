use Rattle.std.proofs.Common.{◌≡◌, ◌+◌, ◌-◌, ◌∷◌, length, map, vec_len, sym, ap, ◌∙◌, subst, arith}
use Rattle.deal.specs.Totals.{range, in_turn}
use Rattle.deal.specs.Dealing.{AreHands}
use Rattle.deal.specs.Lanes.{IsDealer, IsSomeHand, game, opened}
use Rattle.deal.specs.Sharing.{Sight, fresh}
use Rattle.crossbeam_deque.specs.Handles.{worker_view}
use Rattle.deal.specs.declared.count.Mark.{Mark}
use Rattle.deal.specs.declared.shared.Shared.{Shared}
use Rattle.deal.proofs.HandMoves.{last_hand, hands_before, range_next}
use Rattle.deal.proofs.deal.lanes_of.Goals as goal

pub new-requires-clause-hand : goal.new-requires-clause-hand
new-requires-clause-hand c =
    let s = c.args.shared.now.value in
    let key = s.count.shared.key in
    let lanes = key.lanes in
    let all = in_turn key.rising (length s.division) in
    let z = s.count.shared.table_id in
    let i = c.loop-hand.invariant in
    let rest = c.pop.new.self in
    let hands = subst (AreHands z lanes all 4096) c.in-Some.ensures.items i.2 in
    let k = vec_len rest in
    let mine = last_hand z lanes all 4096 k rest.items c.in-Some.hand (omega (arith, rest.ok)) hands in
    let some_hand : IsSomeHand z key s.division c.in-Some.hand = (k, omega (arith, c.in-Some.ensures.cases, i.0), mine) in
    subst (λ (t : Shared). IsSomeHand t.count.shared.table_id t.count.shared.key t.division c.in-Some.hand)
    (sym c.in_ok-own.ensures) some_hand

pub loop-hand-preserved : goal.loop-hand-preserved
loop-hand-preserved c =
    let s = c.args.shared.now.value in
    let key = s.count.shared.key in
    let lanes = key.lanes in
    let all = in_turn key.rising (length s.division) in
    let z = s.count.shared.table_id in
    let g = game z key s.division in
    let i = c.loop-hand.invariant in
    let rest = c.pop.new.self in
    let k = vec_len rest in
    let one_less : vec_len c.loop-hand.hands ≡ k + 1 = omega (arith, c.in-Some.ensures.cases) in
    let hands = subst (AreHands z lanes all 4096) c.in-Some.ensures.items i.2 in
    let mine = last_hand z lanes all 4096 k rest.items c.in-Some.hand (omega (arith, rest.ok)) hands in
    let e = c.in_ok-lane.ensures in
    let made : c.in_ok-lane.lane ≡ fresh g k =
    e.lane
    ∙ ap (λ (t : Shared).
    opened (game t.count.shared.table_id t.count.shared.key t.division) (worker_view c.in-Some.hand.own).dealt)
    c.in_ok-own.ensures
    ∙ ap (opened g) mine.2 in
    let left : c.loop-hand.dealer.me.0.parts - 1 ≡ k = omega (arith, ap (λ (m : Mark). m.parts) i.1.1, one_less) in (
      omega (arith, one_less, i.0),
      subst (λ m. IsDealer key z m c.new.new.dealer) left
          (subst (λ (t : Shared).
          IsDealer t.count.shared.key t.count.shared.table_id (c.loop-hand.dealer.me.0.parts - 1) c.new.new.dealer)
          c.in_ok-own.ensures e.dealer),
      hands_before z lanes all 4096 rest.items c.in-Some.hand hands,
      c.in_ok-insert.ensures.items ∙ ap (λ (l : Sight). l ∷ c.loop-hand.lanes.items) made
          ∙ ap (λ l. fresh g k ∷ l) (i.3 ∙ ap (λ m. map (fresh g) (range m (lanes - m))) one_less)
          ∙ sym (ap (λ l. map (fresh g) l) (range_next k lanes (omega (arith, one_less, i.0)))),
    )
