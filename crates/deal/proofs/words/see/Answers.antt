use Rattle.std.proofs.Common.{◌≡◌, [], sym, subst, arith}
use mathlib.Core.Option.{none}
use Rattle.atomic_table.specs.Table.{Allows, step}
use Rattle.deal.specs.Parts.{IsSummed, Seeing}
use Rattle.deal.proofs.TallyMoves.{sees}
use Rattle.deal.proofs.words.see.Goals as goal

pub load-requires : goal.load-requires
load-requires c =
    let z = c.args.words.now.shared in
    let p = c.args.seat.now in
    let k = c.args.kind in
    let me : (p.me.0, []) ≡ p.me = λ i. (p.me.0, sym c.requires.0.1 i) in (
      c.requires.0.0,
      omega (arith, c.requires.0.2, c.requires.1),
      subst (λ m. Allows (IsSummed z.key) z.table_id.slots p.id m k (λ n. n) (Seeing (step z.table_id.slots k 0 0 none) m))
          me (sees z.key z.table_id.slots p.id p.me.0 k c.requires.1),
    )
