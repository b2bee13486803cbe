use Rattle.std.proofs.Common.{ℕ, [], Option, Some, None, ap, sym, subst, ◌∙◌, arith, refl}
use Rattle.model.specs.declared.call.Phase.TheVariants.{Decide}
use Rattle.model.specs.declared.op.Access.{Access}
use Rattle.model.specs.State.{object_at, progress_at}
use Rattle.model.specs.Ops.{answer}
use Rattle.model.specs.Objects.{allows, answer_to, fulfil}
use Rattle.model.specs.Mutexes.{after_timeout}
use Rattle.model.specs.Step.{call_with_number}
use Rattle.model.specs.Switching.{preempt}
use Rattle.machine.specs.StandsFor.{At, progress_in}
use Rattle.machine.specs.Can.{HasRoom}
use Rattle.machine.specs.StandsFor.Stands.{Placed}
use Rattle.objects.specs.Items.{object_in}
use Rattle.ops.proofs.Calling.{allowed_by_number, replied_alike}
use Rattle.ops.proofs.Ranking.{still_running}
use Rattle.ops.proofs.Waits.{tried, tried_late, tried_on}
use Rattle.machine.proofs.Continuing.{gone_on}
use Rattle.ops.proofs.calls.try_call.Goals as goal

pub fulfil-answer-requires-clause-possible : goal.fulfil-answer-requires-clause-possible
fulfil-answer-requires-clause-possible g c =
    let o = object_in c.args.machine.now.objects.objects c.args.object in
    ap (λ (x : Access ℕ). allows o x) c.call_with_number-access.ensures.kernel
    ∙ allowed_by_number o c.args.machine.now.variables (progress_in c.args.machine.now.progress c.args.task).answer
    c.args.access.now
    c.without_item-any_item.result _ c.without_item-any_item.ensures (sym c.possible.ensures.possible ∙ c.if-possible.true)

pub fulfil-answer-requires-clause-room : goal.fulfil-answer-requires-clause-room
fulfil-answer-requires-clause-room g c =
    let variables = c.args.machine.now.variables in
    let last = (progress_in c.args.machine.now.progress c.args.task).answer in
    subst (λ (a : Access ℕ). HasRoom c.args.machine.now c.args.object a) (sym c.call_with_number-access.ensures.kernel)
    (c.requires.can variables last).room

pub after_timeout-requires-clause-depth : goal.after_timeout-requires-clause-depth
after_timeout-requires-clause-depth g c = (c.requires.can [] None).depth

pub after_timeout-requires-clause-free : goal.after_timeout-requires-clause-free
after_timeout-requires-clause-free g c = (c.requires.can [] None).free

pub answer_given-requires-then-is_expired-clause-runs : goal.answer_given-requires-then-is_expired-clause-runs
answer_given-requires-then-is_expired-clause-runs g c =
    still_running c.args.machine.now c.after_timeout.new.machine c.args.task c.after_timeout.ensures.reranks
    (c.requires.can [] None).runs

pub returns-then-possible : goal.returns-then-possible
returns-then-possible g c = record {
  at = λ s h.
      let app = c.args.app.now in
      let i : ℕ = c.args.task in
      let o : ℕ = c.args.object in
      let told = (g.L.Log.logged c.preempt.new.log).told in
      let new = c.preempt.new.self in
      let there = c.preempt.ensures.does.at _ (c.answer_given.ensures.does.at _ (c.fulfil-answer.ensures.does _ s h)) in
      tried app new told s i o (call_with_number s i c.args.access.now)
      (allowed_by_number (object_at s o) s.variables (progress_at s i).answer c.args.access.now c.without_item-any_item.result _
      c.without_item-any_item.ensures (sym (c.possible.ensures.stands s None h.stands.rest.objects) ∙ c.if-possible.true))
      (subst (λ (a : Access ℕ). At new told (preempt (answer app i (answer_to s o a) (fulfil (Some i) o a s))))
      (c.call_with_number-access.ensures.state s (Placed h.stands))
      (subst (λ (a : Option ℕ). At new told (preempt (answer app i a (fulfil (Some i) o c.call_with_number-access.result s))))
      (c.fulfil-answer.ensures.answer s (Placed h.stands)) there));
  few = let a = c.answer_given.ensures.does.few in let b = c.preempt.ensures.does.few in omega arith;
  before = c.preempt.ensures.does.before ∙ c.answer_given.ensures.does.before;
}

pub returns-then-is_expired : goal.returns-then-is_expired
returns-then-is_expired g c = record {
  at = λ s h.
      let app = c.args.app.now in
      let i : ℕ = c.args.task in
      let o : ℕ = c.args.object in
      let told = (g.L.Log.logged c.answer_given-then-is_expired.new.log).told in
      let variables = s.variables in
      let last = (progress_at s i).answer in
      let off = sym (c.possible.ensures.stands s None h.stands.rest.objects) ∙ c.if-possible.false in
      tried_late app c.answer_given-then-is_expired.new.self told s i o (call_with_number s i c.args.access.now)
      (allowed_by_number (object_at s o) variables last c.args.access.now
      c.without_item-any_item.result _ c.without_item-any_item.ensures off)
      (sym (c.is_expired.ensures s h.stands) ∙ c.if-is_expired.true)
      (subst (λ (a : Option ℕ). At c.answer_given-then-is_expired.new.self told (answer app i a (after_timeout i o s)))
      (c.refusal.ensures (object_at s o) off ∙ rw c.without_item-any_item.ensures
      (replied_alike (object_at s o) variables last c.args.access.now))
      (c.answer_given-then-is_expired.ensures.does.at _ (c.after_timeout.ensures.does _ s h)));
  few = let a = c.answer_given-then-is_expired.ensures.does.few in omega arith;
  before = c.answer_given-then-is_expired.ensures.does.before;
}

pub returns-else-is_expired : goal.returns-else-is_expired
returns-else-is_expired g c = record {
  at = λ s h.
      tried_on c.args.app.now c.set_phase.new.self (g.L.Log.logged c.args.log.now).told s c.args.task c.args.object
      (call_with_number s c.args.task c.args.access.now)
      (allowed_by_number (object_at s c.args.object) s.variables (progress_at s c.args.task).answer c.args.access.now
      c.without_item-any_item.result _
      c.without_item-any_item.ensures (sym (c.possible.ensures.stands s None h.stands.rest.objects) ∙ c.if-possible.false))
      (sym (c.is_expired.ensures s h.stands) ∙ c.if-is_expired.false)
      (gone_on c.args.machine.now c.set_phase.new.self (g.L.Log.logged c.args.log.now).told s h
      c.args.task (c.requires.can [] None).runs.current Decide c.set_phase.ensures (λ e. absurd (cc)));
  few = omega arith;
  before = refl;
}
