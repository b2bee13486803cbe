use Rattle.std.proofs.Common.{◌∙◌, refl, subst}
use Rattle.model.specs.declared.op.Op.TheVariants.{EnterCritical}
use Rattle.model.specs.State.{Progress}
use Rattle.model.specs.Step.{act, judge}
use Rattle.machine.specs.StandsFor.{At}
use Rattle.ops.proofs.Held.{unheld_by_tasks}
use Rattle.kernel.proofs.Held.{acted_at, no_misuse}
use Rattle.kernel.proofs.suspended.call_enter_critical.Goals as goal

pub returns : goal.returns
returns c = λ log s h.
    let P : Progress → Type 0 = λ p.
    At c.judge.new.machine log (judge c.args.task p.op_index (act c.args.app.now c.args.task EnterCritical s)) in
    acted_at c.args.app.now c.judge.new.machine log s c.args.task EnterCritical
    (no_misuse s c.args.task EnterCritical
    (unheld_by_tasks c.args.machine.now s h.stands c.requires.tick.depth) refl)
    (subst P (c.behind-machine.view_is ∙ c.progress.ensures ∙ h.stands.rest.progress c.args.task)
    (c.judge.ensures _ _ (c.enter_critical.ensures log s h)))
