use Rattle.std.proofs.Common.{ℕ, Some, ap, sym, subst, ◌∙◌}
use Rattle.model.specs.declared.op.Access.{Access}
use Rattle.model.specs.Objects.{allows, answer_to, fulfil}
use Rattle.model.specs.State.{object_at, progress_at}
use Rattle.model.specs.Step.{call_with_number}
use Rattle.machine.specs.Can.{HasRoom}
use Rattle.machine.specs.StandsFor.{At, progress_in}
use Rattle.machine.specs.StandsFor.Stands.{Placed}
use Rattle.objects.specs.Items.{object_in}
use Rattle.ops.proofs.Calling.{allowed_by_number, attempted, declined, is_possible, replied_alike}
use Rattle.ops.proofs.queues.attempt_by_value.Goals as goal

pub fulfil-requires-clause-possible : goal.fulfil-requires-clause-possible
fulfil-requires-clause-possible c =
    let o = object_in c.args.machine.now.objects.objects c.args.object in
    ap (λ (x : Access ℕ). allows o x) c.call_with_number-access.ensures.kernel
    ∙ allowed_by_number o c.args.machine.now.variables (progress_in c.args.machine.now.progress c.args.task).answer
    c.args.access.now
    c.without_item-any_item.result _ c.without_item-any_item.ensures (sym c.possible.ensures.possible ∙ c.if-possible.true)

pub fulfil-requires-clause-room : goal.fulfil-requires-clause-room
fulfil-requires-clause-room c =
    subst (λ (a : Access ℕ). HasRoom c.args.machine.now c.args.object a) (sym c.call_with_number-access.ensures.kernel)
    (c.requires.room c.args.machine.now.variables (progress_in c.args.machine.now.progress c.args.task).answer)

pub returns-then-possible-clause-does : goal.returns-then-possible-clause-does
returns-then-possible-clause-does c = λ log s h.
    let i : ℕ = c.args.task in
    let a = call_with_number s i c.args.access.now in
    attempted c.fulfil.new.machine log s (Some i) c.args.object a
    (is_possible c.args.machine.now s c.args.object a _ (Placed h.stands)
    (allowed_by_number (object_in c.args.machine.now.objects.objects c.args.object) s.variables (progress_at s i).answer
    c.args.access.now
    c.without_item-any_item.result _ c.without_item-any_item.ensures (sym c.possible.ensures.possible ∙ c.if-possible.true)))
    (subst (λ (x : Access ℕ). At c.fulfil.new.machine log (fulfil (Some i) c.args.object x s))
    (c.call_with_number-access.ensures.state s (Placed h.stands)) (c.fulfil.ensures.does log s h))

pub returns-then-possible-clause-answer : goal.returns-then-possible-clause-answer
returns-then-possible-clause-answer c = λ s h.
    c.fulfil.ensures.answer s h
    ∙ ap (λ (x : Access ℕ). answer_to s c.args.object x) (c.call_with_number-access.ensures.state s h)

pub returns-else-possible-clause-does : goal.returns-else-possible-clause-does
returns-else-possible-clause-does c = λ log s h.
    let i : ℕ = c.args.task in
    let a = call_with_number s i c.args.access.now in
    declined c.args.machine.now log s (Some i) c.args.object a
    (is_possible c.args.machine.now s c.args.object a _ (Placed h.stands)
    (allowed_by_number (object_in c.args.machine.now.objects.objects c.args.object) s.variables (progress_at s i).answer
    c.args.access.now
    c.without_item-any_item.result _ c.without_item-any_item.ensures (sym c.possible.ensures.possible ∙ c.if-possible.false)))
    h

pub returns-else-possible-clause-answer : goal.returns-else-possible-clause-answer
returns-else-possible-clause-answer c = λ s h.
    c.refusal.ensures (object_at s c.args.object)
    (is_possible c.args.machine.now s c.args.object
    c.without_item-any_item.result _ h (sym c.possible.ensures.possible ∙ c.if-possible.false))
    ∙ rw c.without_item-any_item.ensures
    (replied_alike (object_at s c.args.object) s.variables (progress_at s c.args.task).answer c.args.access.now)
