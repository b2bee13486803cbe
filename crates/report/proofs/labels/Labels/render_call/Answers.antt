use Rattle.std.proofs.Common.{arith, sym, subst}
use Rattle.report.specs.Text.{call_front}
use Rattle.report.specs.Fronts.{IsLabel}
use Rattle.report.proofs.Fronts.{rendered, call_kept}
use Rattle.report.proofs.labels.Labels.render_call.Goals as goal

pub invariant_of-self : goal.invariant_of-self
invariant_of-self c =
    let inside = c.self.inside in
    let app = inside.app.now in
    let op = c.args.op_index in
    let label = c.of-label.result in
    let front =
    rendered c.args.bytes.now _ (call_front app c.args.task op) c.args.at
    (omega (arith, c.requires)) c.put_call_front-end.ensures.text in
    let here =
    subst (λ number. IsLabel label (call_front app number op))
    (sym c.task.view_is) (subst (IsLabel label) front c.of-label.ensures) in
    call_kept app inside.runs inside.marks inside.calls inside.isrs inside.obeyed c.self.invariant c.call_place.result
    (record { owner = c.task.inside.number; op_index = op; label = label }) here
