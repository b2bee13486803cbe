use Rattle.std.proofs.Common.{◌∙◌, ap, arith}
use Rattle.atomic_table.specs.Table.{Me}
use Rattle.deal.specs.declared.part.Part.{Part}
use Rattle.deal.proofs.TallyMoves.{joins}
use Rattle.deal.proofs.words.merge.Goals as goal

pub join_seat-requires : goal.join_seat-requires
join_seat-requires c =
    let z = c.args.words.now.shared in (
      c.requires.0.0,
      c.requires.1.0,
      c.requires.1.1,
      omega (arith, c.requires.0.2),
      joins z.key c.args.seat.now.id c.args.seat.now.me.0 c.args.other.id c.args.other.me.0,
    )

pub returns : goal.returns
returns c =
    let e = c.join_seat.ensures in (
      (e.0 ∙ c.requires.0.0, ap (λ (m : Me (Unit {0}) Part). m.1) e.2 ∙ c.requires.0.1, c.requires.0.2),
      ap (λ (m : Me (Unit {0}) Part). m.0) e.2,
    )
