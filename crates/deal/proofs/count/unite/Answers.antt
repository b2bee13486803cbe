use Rattle.std.proofs.Common.{◌∙◌, ap, arith}
use Rattle.atomic_table.specs.Table.{Me}
use Rattle.deal.specs.declared.count.Mark.{Mark}
use Rattle.deal.proofs.Counting.{joins}
use Rattle.deal.proofs.count.unite.Goals as goal

pub join_seat-requires : goal.join_seat-requires
join_seat-requires c =
    let z = c.args.count.now.shared in (
      c.requires.0.0,
      c.requires.1.0,
      c.requires.1.1,
      omega (arith, c.requires.0.2),
      joins z.key c.args.share.now.id c.args.share.now.me.0 c.args.other.id c.args.other.me.0,
    )

pub returns : goal.returns
returns c =
    let e = c.join_seat.ensures in (
      (e.0 ∙ c.requires.0.0, ap (λ (m : Me (Unit {0}) Mark). m.1) e.2 ∙ c.requires.0.1, c.requires.0.2),
      ap (λ (m : Me (Unit {0}) Mark). m.0) e.2,
    )
