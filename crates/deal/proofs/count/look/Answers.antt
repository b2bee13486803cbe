use Rattle.std.proofs.Common.{◌≡◌, [], sym, subst, arith}
use mathlib.Core.Option.{none}
use Rattle.atomic_table.specs.Table.{Allows, step}
use Rattle.deal.specs.Marks.{IsCounted, Looking}
use Rattle.deal.proofs.Counting.{looks}
use Rattle.deal.proofs.count.look.Goals as goal

pub load-requires : goal.load-requires
load-requires c =
    let z = c.args.count.now.shared in
    let p = c.args.share.now in
    let me : (p.me.0, []) ≡ p.me = λ i. (p.me.0, sym c.requires.0.1 i) in (
      c.requires.0.0,
      omega (arith, c.requires.0.2),
      subst (λ m. Allows (IsCounted z.key) z.table_id.slots p.id m 0 (λ n. n) (Looking (step z.table_id.slots 0 0 0 none) m))
          me (looks z.key z.table_id.slots p.id p.me.0 c.requires.1),
    )
