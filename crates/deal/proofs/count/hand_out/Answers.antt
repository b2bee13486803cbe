use Rattle.std.proofs.Common.{◌≡◌, ◌+◌, ◌%◌, ◌^◌, max, ◌++◌, [], ◌∷◌, length, length-append, sym, ◌∙◌, ap, subst, arith}
use mathlib.Core.Option.{none}
use Rattle.atomic_table.specs.Table.{Me, Allows, step}
use Rattle.deal.specs.declared.count.Mark.{Mark}
use Rattle.deal.specs.Marks.{mark, both_marks, IsAmong, IsCounted, Counting}
use Rattle.deal.proofs.Sums.{single}
use Rattle.deal.proofs.Counting.{joins, counts}
use Rattle.deal.proofs.count.hand_out.Goals as goal

pub join_seat-requires : goal.join_seat-requires
join_seat-requires c =
    let z = c.args.count.now.shared in (
      c.requires.share.0,
      c.into_seat-seat.ensures.0 ∙ c.requires.ticket.0,
      c.into_seat-seat.ensures.3,
      omega (arith, c.requires.share.2),
      joins z.key c.args.share.now.id c.args.share.now.me.0 c.into_seat-seat.result.id c.into_seat-seat.result.me.0,
    )

pub fetch_add-requires : goal.fetch_add-requires
fetch_add-requires c =
    let z = c.args.count.now.shared in
    let p = c.join_seat.new.seat in
    let old = c.args.share.now in
    let e = c.join_seat.ensures in
    let ticket : Mark = mark 0 0 0 0 0 (c.args.ticket.number ∷ []) in
    let theirs : c.into_seat-seat.result.me.0 ≡ ticket = single _ _ (sym c.into_seat-seat.ensures.2 ∙ c.requires.ticket.1) in
    let is : p.me.0 ≡ both_marks old.me.0 ticket = ap (λ (m : Me (Unit {0}) Mark). m.0) e.2 ∙ ap (both_marks old.me.0) theirs in
    let held : p.me.1 ≡ [] = ap (λ (m : Me (Unit {0}) Mark). m.1) e.2 ∙ c.requires.share.1 in
    let me : (p.me.0, []) ≡ p.me = λ i. (p.me.0, sym held i) in
    let parts : p.me.0.parts ≡ old.me.0.parts + 0 = ap (λ (m : Mark). m.parts) is in
    let counted : p.me.0.counted ≡ old.me.0.counted + 0 = ap (λ (m : Mark). m.counted) is in
    let blocks : length p.me.0.blocks ≡ length (old.me.0.blocks ++ c.args.ticket.number ∷ []) =
    ap (λ (m : Mark). length m.blocks) is in (
      e.0 ∙ c.requires.share.0,
      omega (arith, c.requires.share.2),
      subst (λ m.
          Allows (IsCounted z.key) z.table_id.slots p.id m 0 (λ n. (n + 1) % 2 ^ 64)
          (Counting (step z.table_id.slots 0 1 0 none) m))
          me
          (counts z.key z.table_id.slots p.id p.me.0 (omega (arith, parts, c.requires.lane.0))
          (omega (arith, counted, blocks, length-append old.me.0.blocks (c.args.ticket.number ∷ []), c.requires.lane.1))
          c.requires.size),
    )

pub returns : goal.returns
returns c =
    let old = c.args.share.now in
    let e = c.join_seat.ensures in
    let f = c.fetch_add.ensures in
    let p = c.join_seat.new.seat in
    let n = c.fetch_add.result in
    let ticket : Mark = mark 0 0 0 0 0 (c.args.ticket.number ∷ []) in
    let theirs : c.into_seat-seat.result.me.0 ≡ ticket = single _ _ (sym c.into_seat-seat.ensures.2 ∙ c.requires.ticket.1) in
    let is : p.me.0 ≡ both_marks old.me.0 ticket = ap (λ (m : Me (Unit {0}) Mark). m.0) e.2 ∙ ap (both_marks old.me.0) theirs in
    let held : p.me.1 ≡ [] = ap (λ (m : Me (Unit {0}) Mark). m.1) e.2 ∙ c.requires.share.1 in
    let parts : p.me.0.parts ≡ old.me.0.parts = omega (arith, ap (λ (m : Mark). m.parts) is) in
    let counted : p.me.0.counted + 1 ≡ old.me.0.counted + 1 = omega (arith, ap (λ (m : Mark). m.counted) is) in
    let blocks : p.me.0.blocks ≡ old.me.0.blocks ++ c.args.ticket.number ∷ [] = ap (λ (m : Mark). m.blocks) is in
    let seen : p.me.0.seen ≡ max old.me.0.seen 0 = ap (λ (m : Mark). m.seen) is in
    let all : p.me.0.all ≡ old.me.0.all = omega (arith, ap (λ (m : Mark). m.all) is) in
    let lanes : p.me.0.lanes ≡ old.me.0.lanes = omega (arith, ap (λ (m : Mark). m.lanes) is) in
    let now : mark p.me.0.all p.me.0.lanes p.me.0.parts (p.me.0.counted + 1) (n + 1) p.me.0.blocks
    ≡ mark old.me.0.all old.me.0.lanes old.me.0.parts (old.me.0.counted + 1)
    (n + 1) (old.me.0.blocks ++ c.args.ticket.number ∷ []) =
    λ i. mark (all i) (lanes i) (parts i) (counted i) (n + 1) (blocks i) in
    record {
      share = (f.0 ∙ e.0 ∙ c.requires.share.0, f.2.1 ∙ held, c.requires.share.2);
      counted = f.2.0 ∙ now;
      seen = (omega (arith, seen, f.2.2), omega (arith, all, f.2.3), omega (arith, counted, f.2.4));
      among = subst (λ a. IsAmong a (old.me.0.blocks ++ c.args.ticket.number ∷ [])) all (subst (IsAmong p.me.0.all) blocks f.2.5);
    }
