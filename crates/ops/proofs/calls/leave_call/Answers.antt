use Rattle.std.proofs.Common.{true, false, ap, sym, ◌∙◌}
use Rattle.model.specs.State.{Progress}
use Rattle.ops.proofs.Waits.{left_after, left_before}
use Rattle.ops.proofs.calls.leave_call.Goals as goal

pub returns-then-waits : goal.returns-then-waits
returns-then-waits g c = record {
  at = λ s h.
      let told = (g.L.Log.logged c.args.log.now).told in
      let view =
      ap (λ (p : Progress). p.call.waits) (c.behind-machine.view_is ∙ c.progress.ensures ∙ h.stands.rest.progress c.args.task) in
      left_after c.choose.new.self (g.L.Log.logged c.choose.new.log).told s c.args.task (sym view ∙ c.if-waits.true)
      (c.choose.ensures.at _ (c.end_hold.ensures.does told s h));
  few = c.choose.ensures.few;
  before = c.choose.ensures.before;
}

pub returns-else-waits : goal.returns-else-waits
returns-else-waits g c = record {
  at = λ s h.
      let told = (g.L.Log.logged c.args.log.now).told in
      let view =
      ap (λ (p : Progress). p.call.waits) (c.behind-machine.view_is ∙ c.progress.ensures ∙ h.stands.rest.progress c.args.task) in
      left_before c.preempt.new.self (g.L.Log.logged c.preempt.new.log).told s c.args.task (sym view ∙ c.if-waits.false)
      (c.preempt.ensures.does.at _ (c.end_hold.ensures.does told s h));
  few = c.preempt.ensures.does.few;
  before = c.preempt.ensures.does.before;
}
