use Rattle.std.proofs.Common.{ap, sym, ◌∙◌, arith}
use Rattle.model.specs.Ops.{one_if}
use Rattle.sched.proofs.Standing as on_sched
use Rattle.machine.proofs.Acting.{within}
use Rattle.ops.proofs.Suspending.{called_suspend}
use Rattle.ops.proofs.suspension.call_suspend.Goals as goal

pub returns : goal.returns
returns g c = record {
  at = λ s h.
      let runs = c.requires.can.runs in
      called_suspend c.args.app.now c.preempt.new.self _ s c.args.task c.args.other _
      (sym (on_sched.ready_same c.args.machine.now.sched s c.args.task h.stands.sched) ∙ runs.ready)
      (within c.args.machine.now _ s h c.args.task runs.current)
      (c.one_if.ensures ∙ ap one_if (c.can_suspend-did.ensures s h.stands))
      (c.preempt.ensures.does.at _ (c.suspend.ensures.does _ _ (c.answer.ensures.does.at s h)));
  few = let a = c.answer.ensures.does.few in let b = c.preempt.ensures.does.few in omega arith;
  before = c.preempt.ensures.does.before ∙ c.answer.ensures.does.before;
}
