use Rattle.std.proofs.Common.{◌≡◌, ◌<◌, ◌≤◌, ◌++◌, ℕ, List, length, ap, subst, sym, ◌∙◌}
use Rattle.std.proofs.lemmas.Result.{err_from_is_err_and}
use Rattle.model.specs.Step.{step}
use Rattle.machine.specs.Logged.{all_of}
use Rattle.kernel.proofs.Planned.{no_more, stands_as}
use Rattle.kernel.proofs.steps.step_by_plan.Goals as goal

pub split_at-requires : goal.split_at-requires
split_at-requires c =
    subst (λ (n : ℕ). n ≤ length c.args.injections.now)
    (sym (c.len.ensures.value ∙ ap (λ (hs : List ℕ). length hs) c.handlers_at-handlers.ensures))
    (no_more c.args.injections.now c.args.kernel.now.steps)

pub returns-in_err-step_to_trail-clause-stands : goal.returns-in_err-step_to_trail-clause-stands
returns-in_err-step_to_trail-clause-stands c =
    stands_as c.args.app.now c.args.limits.now c.args.kernel.now c.step_to_trail.new.kernel c.as_slice.result.now
    _ (c.as_slice.ensures.value ∙ c.handlers_at-handlers.ensures) c.in_err-step_to_trail.ensures.stands

pub returns-in_err-step_to_trail-clause-memory : goal.returns-in_err-step_to_trail-clause-memory
returns-in_err-step_to_trail-clause-memory c =
    let p = err_from_is_err_and c.from_residual.result c.from_residual.ensures.1 in
    rw p.1 (λ s h.
    subst (λ (hs : List ℕ). 0 < length (step c.args.app.now c.args.limits.now hs s).log)
    (c.as_slice.ensures.value ∙ c.handlers_at-handlers.ensures) (c.in_err-step_to_trail.ensures.memory s h))

pub returns-clause-stands : goal.returns-clause-stands
returns-clause-stands c =
    stands_as c.args.app.now c.args.limits.now c.args.kernel.now c.step_to_trail.new.kernel c.as_slice.result.now
    _ (c.as_slice.ensures.value ∙ c.handlers_at-handlers.ensures) c.in_ok-step_to_trail.ensures.stands

pub returns-clause-told : goal.returns-clause-told
returns-clause-told c = λ s h.
    subst (λ (hs : List ℕ).
    all_of c.step_to_trail.new.trail ≡ all_of c.args.trail.now ++ (step c.args.app.now c.args.limits.now hs s).log)
    (c.as_slice.ensures.value ∙ c.handlers_at-handlers.ensures) (c.in_ok-step_to_trail.ensures.told s h)
