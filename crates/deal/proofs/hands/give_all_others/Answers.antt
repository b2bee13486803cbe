use Rattle.std.proofs.Common.{◌+◌, ◌*◌, vec_len, sym, ◌∙◌, subst, arith}
use Rattle.deal.specs.Dealing.{HasHands, KeepsHands}
use Rattle.deal.proofs.HandMoves.{hands_more}
use Rattle.deal.proofs.hands.give_all_others.Goals as goal

pub give_others-requires-clause-hands : goal.give_others-requires-clause-hands
give_others-requires-clause-hands c =
    subst (λ w. HasHands w (64 * c.loop-lane.lane) c.loop-lane.hands.items) (sym c.loop-lane.invariant.0) c.loop-lane.invariant.1

pub loop-lane-preserved : goal.loop-lane-preserved
loop-lane-preserved c =
    let i = c.loop-lane.invariant in
    let w = vec_len c.args.hands.now in
    let lane = c.loop-lane.lane in
    let e = c.in_ok-give_others.ensures in
    let new = c.give_others.new.hands.items in
    let more = subst (λ u. KeepsHands u (64 * lane) (64 * lane + 64) c.loop-lane.hands.items new) i.0 e.1 in (
      e.0 ∙ i.0,
      (i.1.0, i.1.1, hands_more i.1.0 w i.1.1 (64 * lane + 64) (64 * (lane + 1)) new (omega arith) (more i.1.0 i.1.1 i.1.2)),
      λ z n old. hands_more z w n (64 * lane + 64) (64 * (lane + 1)) new (omega arith) (more z n (i.2 z n old)),
    )

pub returns : goal.returns
returns c =
    let i = c.loop-lane.invariant in (
      i.0,
      λ z n old.
          hands_more z (vec_len c.args.hands.now) n (64 * c.loop-lane.lane) 4096 c.loop-lane.hands.items
          (omega (arith, c.loop-lane.auto.lane-end, c.len-lane-end.ensures, c.requires.0)) (i.2 z n old),
    )
