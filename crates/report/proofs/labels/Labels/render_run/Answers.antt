use Rattle.std.proofs.Common.{arith, sym, subst}
use Rattle.report.specs.Fronts.{IsLabel, run_front}
use Rattle.report.proofs.Fronts.{rendered, run_kept}
use Rattle.report.proofs.labels.Labels.render_run.Goals as goal

pub invariant_of-self : goal.invariant_of-self
invariant_of-self c =
    let inside = c.self.inside in
    let app = inside.app.now in
    let label = c.of.result in
    let front =
    rendered c.args.bytes.now _ (run_front app c.args.task) c.args.at
    (omega (arith, c.requires)) c.put_run_front-end.ensures.text in
    let here =
    subst (λ number. IsLabel label (run_front app number)) (sym c.task.view_is) (subst (IsLabel label) front c.of.ensures) in
    run_kept app inside.runs inside.marks inside.calls inside.isrs inside.obeyed c.self.invariant c.task.inside.number label here
