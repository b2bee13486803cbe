use Rattle.std.proofs.Common.{ℕ, Option, Some, sym, subst, refl, ◌∙◌, arith}
use Rattle.model.specs.Objects.{attempt}
use Rattle.model.specs.Ops.{answer}
use Rattle.model.specs.Step.{call_with_number}
use Rattle.machine.specs.StandsFor.{At}
use Rattle.machine.specs.StandsFor.Stands.{Placed}
use Rattle.ops.proofs.Waits.{did}
use Rattle.ops.proofs.queues.do_now.Goals as goal

pub returns-then-lacks_item : goal.returns-then-lacks_item
returns-then-lacks_item g c = record {
  at = λ s h. rw (sym (c.if-lacks_item.ensures s (Placed h.stands))) (c.fail_check.ensures.does _ s h);
  few = omega arith;
  before = refl;
}

pub returns : goal.returns
returns g c = record {
  at = λ s h.
      let app = c.args.app.now in
      let i : ℕ = c.args.task in
      let a = call_with_number s i c.args.access.now in
      let told = (g.L.Log.logged c.answer_given.new.log).told in
      let there = c.answer_given.ensures.does.at _ (c.attempt_by_value-answer.ensures.does _ s h) in
      rw (sym (c.if-lacks_item.ensures s (Placed h.stands)))
      (did app c.preempt.new.self (g.L.Log.logged c.preempt.new.log).told s i c.args.object a
      (c.preempt.ensures.does.at _
      (subst (λ (x : Option ℕ). At c.answer_given.new.self told (answer app i x (attempt (Some i) c.args.object a s)))
      (c.attempt_by_value-answer.ensures.answer s (Placed h.stands)) there)));
  few = let a = c.answer_given.ensures.does.few in let b = c.preempt.ensures.does.few in omega arith;
  before = c.preempt.ensures.does.before ∙ c.answer_given.ensures.does.before;
}
