use Rattle.std.proofs.Common.{◌≡◌, ◌<◌, ◌%◌, ◌+◌, ◌*◌, ℕ, List, length, vec_len, set, refl, arith}
use Rattle.std.proofs.Math.Nat.{mod-lt}
use Rattle.std.proofs.lemmas.List.{length-set}
use mathlib.Core.Option.{some}
use lib.ListN.{get_elem?}
use Rattle.atomic_table.specs.Seated.{TableId}
use Rattle.atomic_table.proofs.Lists.{at_index}
use Rattle.deal.specs.Dealing.{AreHands}
use Rattle.deal.specs.declared.hand.Hand.{Hand}
use Rattle.deal.proofs.HandMoves.{gives_more, hands_more}
use Rattle.deal.proofs.hands.give_others.Goals as goal

pub loop-step-init : goal.loop-step-init
loop-step-init c =
    let h = c.requires.hands in
    let cut = 64 * c.args.lane in
    let hands = c.args.hands.now.items in
    let workers = vec_len c.args.hands.now in (
      c.len-workers.ensures,
      refl,
      (h.0, h.1, hands_more h.0 workers h.1 cut (cut + 1) hands (omega arith) h.2),
      λ z n old. hands_more z workers n cut (cut + 1) hands (omega arith) old,
    )

pub way_to-requires : goal.way_to-requires
way_to-requires c =
    let i = c.loop-step.invariant in
    let hands = c.loop-step.hands.items in
    let workers = c.len-workers.result in
    let at = (c.args.lane + c.loop-step.step) % workers in
    let hand = c.index_mut-hand.result.now in
    let here : get_elem? hands at ≡ some hand =
    at_index hands at hand
    (omega (
      arith,
      c.loop-step.hands.ok,
      i.0,
      i.1,
      mod-lt (c.args.lane + c.loop-step.step) {m = workers} (omega (arith, i.0, c.requires.lane.0)),
    ))
    c.index_mut-hand.ensures.value in
    let t = i.2.2 at hand here in
    (t.0, omega (arith, t.1, c.requires.lane.0, c.requires.lane.1, c.loop-step-test.true, i.0))

pub loop-step-preserved : goal.loop-step-preserved
loop-step-preserved c =
    let i = c.loop-step.invariant in
    let hands = c.loop-step.hands.items in
    let workers = c.len-workers.result in
    let lane = c.args.lane in
    let step = c.loop-step.step in
    let at = (lane + step) % workers in
    let hand = c.index_mut-hand.result.now in
    let short : at < length hands =
    omega (arith, c.loop-step.hands.ok, i.0, i.1, mod-lt (lane + step) {m = workers} (omega (arith, i.0, c.requires.lane.0))) in
    let here : get_elem? hands at ≡ some hand = at_index hands at hand short c.index_mut-hand.ensures.value in
    let new : Hand = record { own = c.way_to.new.own; others = hand.others } in
    let hand' = c.index_mut-hand-in-loop-step.result.now in
    let hands' : List Hand = set hands at new in
    let here' : get_elem? hands' lane ≡ some hand' =
    at_index hands' lane hand' (omega (arith, length-set hands at new, c.loop-step.hands.ok, i.1, c.requires.lane.0))
    c.index_mut-hand-in-loop-step.ensures.value in
    let new' : Hand = record { own = hand'.own; others = c.push.new.self } in
    let e = c.in_ok-other.ensures in
    let w = vec_len c.args.hands.now in
    let cut = 64 * lane + step in
    let more : (z : TableId) (n : List ℕ) → AreHands z w n cut hands
    → AreHands z w n (64 * lane + (step + 1)) (set hands' lane new') = λ z n old.
    hands_more z w n (cut + 1) (64 * lane + (step + 1)) (set hands' lane new') (omega arith)
    (gives_more z w n cut at lane hands hand new hand' new' c.in_ok-other.other here here'
    (omega (arith, c.loop-step.auto.step, c.loop-step-test.true, i.0))
    (omega (arith, c.requires.lane.0, c.requires.lane.1, c.loop-step-test.true, i.0))
    e.1 e.0 refl refl c.in_ok-push.ensures.items old) in
    (i.0, i.1, (i.2.0, i.2.1, more i.2.0 i.2.1 i.2.2), λ z n old. more z n (i.3 z n old))

pub returns : goal.returns
returns c =
    let i = c.loop-step.invariant in
    let w = vec_len c.args.hands.now in
    let cut = 64 * c.args.lane in (
      i.1,
      λ z n old.
          hands_more z w n (cut + c.loop-step.step) (cut + 64) c.loop-step.hands.items
          (omega (arith, c.loop-step.auto.step-end (omega (arith, i.0, c.requires.lane.0)), i.0, c.requires.lane.1))
          (i.3 z n old),
    )
