use Rattle.std.proofs.Common.{ap, ap₂, List, ℕ, refl, sym, ◌∙◌, arith}
use Rattle.model.specs.State.{Progress}
use Rattle.model.specs.Notifications.{lacks_notify_value, notify_answer, notify_with_number}
use Rattle.machine.specs.StandsFor.Stands.{Placed}
use Rattle.machine.proofs.Either.{variables_are}
use Rattle.ops.proofs.Notifying.{called_notify}
use Rattle.ops.proofs.notifications.call_notify.Goals as goal

pub returns-then-lacks_value : goal.returns-then-lacks_value
returns-then-lacks_value g c = record {
  at = λ s h.
      let same = h.stands.rest.progress c.args.task in
      let kept = sym (sym (c.behind-machine.view_is ∙ c.progress.ensures)) ∙ same in
      let lacks = sym (c.lacks_value.ensures ∙ ap (λ (p : Progress). lacks_notify_value p.answer c.args.action.now) kept)
      ∙ c.if-lacks_value.true in
      rw lacks (c.fail_check.ensures.does _ s h);
  few = omega arith;
  before = refl;
}

pub returns : goal.returns
returns g c = record {
  at = λ s h.
      let same = h.stands.rest.progress c.args.task in
      let kept = sym (sym (c.behind-machine.view_is ∙ c.progress.ensures)) ∙ same in
      let lacks = sym (c.lacks_value.ensures ∙ ap (λ (p : Progress). lacks_notify_value p.answer c.args.action.now) kept)
      ∙ c.if-lacks_value.false in
      let number = c.with_number-action.ensures ∙ ap₂ (λ (xs : List ℕ) (p : Progress).
      notify_with_number xs p.answer c.args.action.now)
      (c.values.ensures ∙ variables_are c.args.machine.now s (Placed h.stands)) kept in
      let told = c.answer-answer.ensures
      ∙ ap (notify_answer c.with_number-action.result) (c.notification.ensures.state s (Placed h.stands)) in
      called_notify c.args.app.now c.preempt.new.self (g.L.Log.logged c.preempt.new.log).told s c.args.task c.args.other
      c.args.action.now c.with_number-action.result c.answer-answer.result lacks number told
      (c.preempt.ensures.does.at _ (c.answer.ensures.does.at _ (c.notify.ensures.does _ s h)));
  few = let a = c.answer.ensures.does.few in let b = c.preempt.ensures.does.few in omega arith;
  before = c.preempt.ensures.does.before ∙ c.answer.ensures.does.before;
}
