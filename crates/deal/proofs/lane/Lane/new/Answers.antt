use Rattle.std.proofs.Common.{length, sym, ap, ◌∙◌, arith}
use Rattle.deal.specs.Marks.{IsShareOf}
use Rattle.deal.specs.declared.count.Mark.{Mark}
use Rattle.deal.specs.declared.shared.Shared.{Shared}
use Rattle.atomic_table.specs.Table.{Me}
use Rattle.deal.proofs.Counting.{cuts}
use Rattle.deal.proofs.LaneMoves.{new_lane}
use Rattle.deal.proofs.lane.Lane.new.Goals as goal

pub split_seat-share-requires : goal.split_seat-share-requires
split_seat-share-requires c =
    let here = c.deref-2.ensures in
    let d = c.requires.dealer.0 in (
      d.0.0 ∙ sym (ap (λ (t : Shared). t.count.shared.table_id) here),
      omega (arith, d.0.2, ap (λ (t : Shared). t.count.shared.table_id.words) here),
      cuts c.deref-2.result.now.count.shared.key _ _ c.requires.dealer.1 (ap (λ (m : Mark). m.counted) d.1),
    )

pub invariant_of-result : goal.invariant_of-result
invariant_of-result c =
    let d = c.requires.dealer.0 in
    let s = c.requires.shared in
    let e = c.split_seat-share.ensures in
    let room = c.in_ok-got.ensures in
    let z = c.args.shared.value.count.shared.table_id in
    let of : IsShareOf z c.split_seat-share.result = (e.3 ∙ d.0.0, ap (λ (m : Me (Unit {0}) Mark). m.1) e.4, d.0.2) in (
      c.requires.hand.2.0,
      omega (arith, room.capacity, c.count.ensures, ap (λ (t : Shared). length t.division) c.deref.ensures),
      s.3,
      new_lane c.args.shared.value.count.shared.key c.args.shared.value.division
          c.split_seat-share.result c.args.dealer.now c.args.hand c.in_ok-got.got.items z
          s.0 s.1 room.items d of (ap (λ (m : Me (Unit {0}) Mark). m.0) e.4) c.requires.hand,
    )
