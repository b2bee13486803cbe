use Rattle.std.proofs.Common.{◌≤◌, ap, length, refl, arith}
use Rattle.report.specs.Writing.{Events}
use Rattle.rows.specs.Stretches.{IsStretch}
use Rattle.rows.proofs.LookedUp.{all_got}
use Rattle.rows.proofs.Stretched.{tail_is}
use Rattle.rows.proofs.Totalling.{got}
use Rattle.rows.proofs.rendering.stretches.Stretches.find.Goals as goal

pub returns-then-stretch-from : goal.returns-then-stretch-from
returns-then-stretch-from c =
    let stretch = c.in_ok-stretch.stretch.now in
    let inside = c.self.inside in
    let lookup = c.in_ok-stretch.ensures.lookup in
    let there = rw c.deref-2.ensures.value at (got c.deref-2.result.now c.in_ok-place.field-0.now stretch (omega arith) lookup.1) in
    let is =
    all_got (IsStretch inside.app.now inside.trail.now) inside.stretches.items c.in_ok-place.field-0.now stretch there
    c.self.invariant in
    let within : c.args.to ≤ length inside.trail.now = rw (ap (λ (e : Events). e.events) c.self.view_is) c.requires.within in
    rw (← c.self.view_is)
    (tail_is inside.app.now inside.trail.now stretch is c.args.from c.args.to (omega (arith, c.if-stretch-to.true))
    (omega (arith, c.if-stretch-from.true)) c.requires.rises within _ refl refl)
