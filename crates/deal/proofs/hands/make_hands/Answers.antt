use Rattle.std.proofs.Common.{◌≡◌, vec_len, sym, ◌∙◌, subst, arith}
use Rattle.deal.specs.Totals.{in_turn}
use Rattle.deal.specs.Dealing.{AreDealt, AreHands}
use Rattle.deal.proofs.HandMoves.{dealt_hands}
use Rattle.deal.proofs.hands.make_hands.Goals as goal

pub deal_all-requires-clause-hands : goal.deal_all-requires-clause-hands
deal_all-requires-clause-hands c =
    let e = c.in_ok-hands.ensures in
    let all = in_turn c.args.rising c.args.blocks in (
      omega (arith, e.0, c.requires.workers.0),
      subst (λ w. AreDealt c.args.count.now.shared.table_id w all all c.in_ok-hands.hands.items)
          (sym e.0) (e.1 c.args.count.now.shared.table_id all),
    )

pub give_all_others-requires : goal.give_all_others-requires
give_all_others-requires c =
    let e = c.in_ok-hands.ensures in
    let d = c.in_ok-deal_all.ensures.hands in
    let z = c.args.count.now.shared.table_id in
    let n = in_turn c.args.rising c.args.blocks in
    let hands = c.deal_all.new.hands.items in (
      omega (arith, e.0, d.0, c.requires.workers.1),
      (z, n, subst (λ w. AreHands z w n 0 hands) (sym d.0) (dealt_hands z (vec_len c.in_ok-hands.hands) n hands d.1)),
    )

pub returns-clause-hands : goal.returns-clause-hands
returns-clause-hands c =
    let e = c.in_ok-hands.ensures in
    let d = c.in_ok-deal_all.ensures.hands in
    let g = c.in_ok-give_all_others.ensures in
    let z = c.args.count.now.shared.table_id in
    let n = in_turn c.args.rising c.args.blocks in
    let hands = c.deal_all.new.hands.items in
    let many : vec_len c.deal_all.new.hands ≡ c.args.workers = d.0 ∙ e.0 in (
      g.0 ∙ many,
      subst (λ w. AreHands z w n 4096 c.give_all_others.new.hands.items) many
          (g.1 z n (subst (λ w. AreHands z w n 0 hands) (sym d.0) (dealt_hands z (vec_len c.in_ok-hands.hands) n hands d.1))),
    )
