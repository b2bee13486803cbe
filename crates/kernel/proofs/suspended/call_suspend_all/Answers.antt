use Rattle.std.proofs.Common.{◌∙◌, refl, subst}
use Rattle.ops.proofs.Held.{unheld_by_tasks}
use Rattle.model.specs.declared.op.Op.TheVariants.{SuspendAll}
use Rattle.model.specs.State.{Progress}
use Rattle.model.specs.Step.{act, judge}
use Rattle.machine.specs.StandsFor.{At}
use Rattle.kernel.proofs.Held.{acted_at, no_misuse}
use Rattle.kernel.proofs.suspended.call_suspend_all.Goals as goal

pub returns : goal.returns
returns g c = record {
  at = λ s h.
      let P : Progress → Type 0 = λ p.
      At c.judge.new.machine (g.L.Log.logged c.suspend_all.new.log).told
      (judge c.args.task p.op_index (act c.args.app.now c.args.task SuspendAll s)) in
      acted_at c.args.app.now c.judge.new.machine _ s c.args.task SuspendAll (no_misuse s c.args.task SuspendAll
      (unheld_by_tasks c.args.machine.now s h.stands c.requires.can.tick.depth) refl)
      (subst P (c.behind-machine.view_is ∙ c.progress.ensures ∙ h.stands.rest.progress c.args.task)
      (c.judge.ensures _ _ (c.suspend_all.ensures.at s h)));
  few = c.suspend_all.ensures.few;
  before = c.suspend_all.ensures.before;
}
