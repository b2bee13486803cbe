use Rattle.std.proofs.Common.{arith, sym, subst}
use Rattle.report.specs.Text.{isr_front}
use Rattle.report.specs.Fronts.{IsLabel}
use Rattle.report.proofs.Fronts.{rendered, isr_kept}
use Rattle.report.proofs.labels.Labels.render_isr.Goals as goal

pub invariant_of-self : goal.invariant_of-self
invariant_of-self c =
    let inside = c.self.inside in
    let app = inside.app.now in
    let op = c.args.op_index in
    let label = c.of-label.result in
    let front =
    rendered c.args.bytes.now _ (isr_front app c.args.handler op) c.args.at
    (omega (arith, c.requires)) c.put_isr_front-end.ensures.text in
    let here =
    subst (λ number. IsLabel label (isr_front app number op))
    (sym c.handler.view_is) (subst (IsLabel label) front c.of-label.ensures) in
    isr_kept app inside.runs inside.marks inside.calls inside.isrs inside.obeyed c.self.invariant c.isr_place.result
    (record { owner = c.handler.inside.number; op_index = op; label = label }) here
