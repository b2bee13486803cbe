use Rattle.std.proofs.Common.{◌≡◌, ◌∙◌, ◌++◌, ℕ, List, arith, subst, sym}
use Rattle.model.specs.Step.{step}
use Rattle.machine.specs.Logged.{all_of}
use Rattle.machine.specs.StandsFor.{Stands}
use Rattle.machine.proofs.Pending.{none_of_any}
use Rattle.std.proofs.lemmas.Result.{on_err_weaker, on_ok_weaker}
use Rattle.kernel.proofs.Ended.{empty}
use Rattle.kernel.proofs.Running.{told_after}
use Rattle.kernel.proofs.steps.step_to_trail.Goals as goal

pub step_without_handlers-requires-clause-none : goal.step_without_handlers-requires-clause-none
step_without_handlers-requires-clause-none c =
    none_of_any c.args.kernel.now.sources.pending (sym c.any_pending.ensures ∙ c.if-not-any_pending.true)

pub returns-then-not-any_pending-clause-stands : goal.returns-then-not-any_pending-clause-stands
returns-then-not-any_pending-clause-stands c = λ s h.
    subst (λ (hs : List ℕ). Stands c.step_without_handlers.new.machine (step c.args.app.now c.args.limits.now hs s))
    (sym (empty c.args.handlers.now (sym c.is_empty.ensures ∙ c.if-is_empty.true))) (c.step_without_handlers.ensures.stands s h)

pub returns-then-not-any_pending-clause-told : goal.returns-then-not-any_pending-clause-told
returns-then-not-any_pending-clause-told c = λ s h.
    subst (λ (hs : List ℕ).
    all_of c.step_without_handlers.new.log ≡ all_of c.args.trail.now ++ (step c.args.app.now c.args.limits.now hs s).log)
    (sym (empty c.args.handlers.now (sym c.is_empty.ensures ∙ c.if-is_empty.true)))
    (told_after c.step_without_handlers.new.log _ _ (c.step_without_handlers.ensures.before ∙ c.begin.ensures.before)
    (c.step_without_handlers.ensures.told s h))

pub returns-then-make_room_for-clause-told : goal.returns-then-make_room_for-clause-told
returns-then-make_room_for-clause-told c = λ s h.
    told_after c.step_with_handlers.new.log _ _
    (c.step_with_handlers.ensures.before ∙ c.make_room_for.ensures.before ∙ c.begin.ensures.before)
    (c.step_with_handlers.ensures.told s h)

pub returns-clause-told : goal.returns-clause-told
returns-clause-told c =
    on_ok_weaker c.step_through_log.result
    (λ told s h.
    told_after c.step_through_log.new.trail _ _
    (c.step_through_log.ensures.before ∙ c.make_room_for.ensures.before ∙ c.begin.ensures.before) (told s h))
    c.step_through_log.ensures.told

pub returns-clause-memory : goal.returns-clause-memory
returns-clause-memory c =
    on_err_weaker c.step_through_log.result (λ more s h. let m = more s h in omega arith) c.step_through_log.ensures.memory
