use Rattle.std.proofs.Common.{arith, sym, subst}
use Rattle.report.specs.Text.{obeyed_front}
use Rattle.report.specs.Fronts.{IsLabel}
use Rattle.report.proofs.Fronts.{rendered, obeyed_kept}
use Rattle.report.proofs.labels.Labels.render_obeyed.Goals as goal

pub invariant_of-self : goal.invariant_of-self
invariant_of-self c =
    let inside = c.self.inside in
    let app = inside.app.now in
    let label = c.of-label.result in
    let place = c.obeyed_place.result in
    let front =
    rendered c.args.bytes.now _ (obeyed_front app c.args.task c.args.clear) c.args.at
    (omega (arith, c.requires)) c.put_obeyed_front-end.ensures.text in
    let of_task =
    subst (λ number. IsLabel label (obeyed_front app number c.args.clear))
    (sym c.task.view_is) (subst (IsLabel label) front c.of-label.ensures) in
    let here =
    subst (λ clear. IsLabel label (obeyed_front app c.task.inside.number clear)) (sym c.obeyed_place.ensures.place) of_task in
    obeyed_kept app inside.runs inside.marks inside.calls inside.isrs inside.obeyed c.self.invariant place
    (record { owner = c.task.inside.number; op_index = 1; label = label }) here
