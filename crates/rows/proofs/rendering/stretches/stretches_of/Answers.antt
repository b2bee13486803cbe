use Rattle.std.proofs.Common.{arith}
use Rattle.rows.specs.Stretches.{AreOfPart}
use Rattle.rows.proofs.Stretched.{each_got}
use Rattle.rows.proofs.rendering.stretches.stretches_of.Goals as goal

pub returns-in-Ok : goal.returns-in-Ok
returns-in-Ok g c =
    each_got (AreOfPart c.args.app.now c.args.rows.now) c.in-Ok.all.items
    (λ i d l. (c.in-Ok.ensures.each i d (omega (arith, l, c.in-Ok.ensures.len, c.in-Ok.all.ok))).1.met)
