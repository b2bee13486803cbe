use Rattle.std.proofs.Common.{◌≡◌, ◌+◌, ◌%◌, ◌^◌, [], sym, subst, arith}
use mathlib.Core.Option.{none}
use Rattle.atomic_table.specs.Table.{Allows, step}
use Rattle.deal.specs.Parts.{IsSummed, Adding}
use Rattle.deal.proofs.TallyMoves.{adds}
use Rattle.deal.proofs.words.add_to.Goals as goal

pub fetch_add-requires : goal.fetch_add-requires
fetch_add-requires c =
    let z = c.args.words.now.shared in
    let p = c.args.seat.now in
    let k = c.args.kind in
    let n = c.args.n in
    let me : (p.me.0, []) ≡ p.me = λ i. (p.me.0, sym c.requires.seat.0.1 i) in (
      c.requires.seat.0.0,
      omega (arith, c.requires.seat.0.2, c.requires.kind),
      subst (λ m.
          Allows (IsSummed z.key) z.table_id.slots p.id m k (λ w. (w + n) % 2 ^ 64) (Adding (step z.table_id.slots k n 0 none) m))
          me
          (adds z.key z.table_id.slots p.id p.me.0 k n c.requires.kind
          (omega (arith, c.requires.seat.1)) (omega (arith, c.requires.seat.1, c.requires.room))),
    )
