use Rattle.std.proofs.Common.{◌≡◌, ◌%◌, ◌+◌, ◌-◌, ◌<◌, Bool, true, false, ℕ, suc, ◌∷◌, set, vec_len, refl, sym, ap}
use Rattle.std.proofs.Common.{◌∙◌, subst, arith}
use Rattle.std.proofs.Math.Nat.{mod-lt}
use mathlib.Core.Option.{some}
use lib.ListN.{get_elem?}
use Rattle.atomic_table.proofs.Lists.{at_index}
use Rattle.deal.specs.declared.count.Mark.{Mark}
use Rattle.deal.specs.Marks.{mark, without_first, others_of}
use Rattle.deal.specs.Totals.{falling, in_turn}
use Rattle.deal.specs.Dealing.{AreDealt, number_at}
use Rattle.deal.specs.declared.hand.Hand.{Hand}
use Rattle.deal.proofs.HandMoves.{deals_more, left_at, left_first, left_last, range_next}
use Rattle.deal.proofs.hands.deal_all.Goals as goal

-- the blocks that are left, and the next of them
left_next : (rising : Bool) (n turn : ℕ) → turn < n → left_at rising n turn ≡ number_at rising n turn ∷ left_at rising n (turn + 1)
left_next true n turn some_left = range_next turn n some_left
left_next false n turn some_left =
    let more : n - turn ≡ suc (n - 1 - turn) = omega (arith, some_left) in
    let less : n - 1 - turn ≡ n - (turn + 1) = omega (arith, some_left) in
    ap falling more ∙ ap (λ l. (n - 1 - turn) ∷ falling l) less

pub loop-turn-init : goal.loop-turn-init
loop-turn-init c =
    let old = c.args.dealer.now.me.0 in
    let all = sym (left_first c.args.rising c.args.blocks) in (
      c.len-workers.ensures,
      refl,
      c.requires.dealer.0,
      c.requires.dealer.1 ∙ ap (λ l. mark c.args.blocks old.lanes old.parts 0 0 l) all,
      subst (λ l. AreDealt c.args.count.now.shared.table_id (vec_len c.args.hands.now)
          (in_turn c.args.rising c.args.blocks) l c.args.hands.now.items)
          all c.requires.hands.1,
    )

pub deal_one-requires-clause-dealer : goal.deal_one-requires-clause-dealer
deal_one-requires-clause-dealer c =
    let i = c.loop-turn.invariant in
    let turn = c.loop-turn.turn in
    let number = number_at c.args.rising c.args.blocks turn in
    let blocks = ap (λ (m : Mark). m.blocks) i.3 ∙ left_next c.args.rising c.args.blocks turn c.loop-turn-test.true in (
      i.2,
      ap (λ (m : Mark). m.counted) i.3,
      blocks ∙ ap (λ l. number ∷ l) (sym (ap others_of blocks))
          ∙ ap (λ k. k ∷ others_of c.loop-turn.dealer.me.0.blocks) (sym c.number_at-number.ensures),
    )

pub deal_one-requires-clause-own : goal.deal_one-requires-clause-own
deal_one-requires-clause-own c =
    let i = c.loop-turn.invariant in
    let hands = c.loop-turn.hands.items in
    let workers = c.len-workers.result in
    let number = c.number_at-number.result in
    let at = number % workers in
    let hand = c.index_mut-hand.result.now in
    let here : get_elem? hands at ≡ some hand =
    at_index hands at hand
    (omega (arith, c.loop-turn.hands.ok, i.0, i.1, mod-lt number {m = workers} (omega (arith, i.0, c.requires.hands.0))))
    c.index_mut-hand.ensures.value in
    let t = i.4 at hand here in
    (t.1, t.4)

pub loop-turn-preserved : goal.loop-turn-preserved
loop-turn-preserved c =
    let i = c.loop-turn.invariant in
    let turn = c.loop-turn.turn in
    let rising = c.args.rising in
    let blocks = c.args.blocks in
    let n = c.number_at-number.result in
    let hands = c.loop-turn.hands.items in
    let workers = c.len-workers.result in
    let at = n % workers in
    let hand = c.index_mut-hand.result.now in
    let z = c.args.count.now.shared.table_id in
    let all = in_turn rising blocks in
    let here : get_elem? hands at ≡ some hand =
    at_index hands at hand
    (omega (arith, c.loop-turn.hands.ok, i.0, i.1, mod-lt n {m = workers} (omega (arith, i.0, c.requires.hands.0))))
    c.index_mut-hand.ensures.value in
    let new : Hand = record { own = c.deal_one.new.own; others = hand.others } in
    let e = c.in_ok-deal_one.ensures in
    let old = c.args.dealer.now.me.0 in
    let left = left_at rising blocks (turn + 1) in
    let next : left_at rising blocks turn ≡ n ∷ left =
    left_next rising blocks turn c.loop-turn-test.true ∙ ap (λ k. k ∷ left) (sym c.number_at-number.ensures) in
    let dealt : AreDealt z workers all (n ∷ left) hands =
    subst (λ w. AreDealt z w all (n ∷ left) hands) (sym i.0)
    (subst (λ l. AreDealt z (vec_len c.args.hands.now) all l hands) next i.4) in (
      i.0,
      i.1,
      e.dealer.0,
      e.dealer.1 ∙ ap without_first i.3 ∙ ap (λ l. mark blocks old.lanes old.parts 0 0 (others_of l)) next,
      subst (λ w. AreDealt z w all left (set hands at new)) i.0
          (deals_more z workers all n left hands hand new here dealt e.own.0 e.own.1 refl),
    )

pub returns-clause-dealer : goal.returns-clause-dealer
returns-clause-dealer c =
    let i = c.loop-turn.invariant in
    let old = c.args.dealer.now.me.0 in
    let end : c.loop-turn.turn ≡ c.args.blocks = omega (arith, c.loop-turn-test.false, c.loop-turn.auto.turn-end) in
    let none = ap (left_at c.args.rising c.args.blocks) end ∙ left_last c.args.rising c.args.blocks in
    (i.2, i.3 ∙ ap (λ l. mark c.args.blocks old.lanes old.parts 0 0 l) none)

pub returns-clause-hands : goal.returns-clause-hands
returns-clause-hands c =
    let i = c.loop-turn.invariant in
    let end : c.loop-turn.turn ≡ c.args.blocks = omega (arith, c.loop-turn-test.false, c.loop-turn.auto.turn-end) in
    let none = ap (left_at c.args.rising c.args.blocks) end ∙ left_last c.args.rising c.args.blocks in (
      i.1,
      subst (λ l. AreDealt c.args.count.now.shared.table_id (vec_len c.args.hands.now)
          (in_turn c.args.rising c.args.blocks) l c.loop-turn.hands.items) none i.4,
    )
