use Rattle.std.proofs.Common.{arith, sym, subst}
use Rattle.report.specs.Fronts.{IsLabel, mark_front}
use Rattle.report.proofs.Fronts.{rendered, mark_kept}
use Rattle.report.proofs.labels.Labels.render_mark.Goals as goal

pub invariant_of-self : goal.invariant_of-self
invariant_of-self c =
    let inside = c.self.inside in
    let app = inside.app.now in
    let label = c.of.result in
    let front =
    rendered c.args.bytes.now _ (mark_front app c.args.task) c.args.at
    (omega (arith, c.requires)) c.put_mark_front-end.ensures.text in
    let here =
    subst (λ number. IsLabel label (mark_front app number)) (sym c.task.view_is) (subst (IsLabel label) front c.of.ensures) in
    mark_kept app inside.runs inside.marks inside.calls inside.isrs inside.obeyed c.self.invariant c.task.inside.number label here
