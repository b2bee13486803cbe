use Rattle.std.proofs.Common.{◌∙◌, ◌<◌, ◌++◌, List, ap, subst, length}
use Rattle.std.proofs.lemmas.Result.{on_ok_weaker, on_err_weaker}
use Rattle.model.specs.declared.event.Event.{Event}
use Rattle.kernel.proofs.steps.step_through_log.Goals as goal

pub returns-clause-told : goal.returns-clause-told
returns-clause-told c =
    on_ok_weaker c.append.result
    (λ told s h.
    told ∙ ap (λ (l : List Event). l ++ c.as_slice.result.now) c.requires.begun
    ∙ c.as_slice.ensures.value ∙ c.step_with_handlers.ensures.told s h)
    c.append.ensures.told

pub returns-clause-memory : goal.returns-clause-memory
returns-clause-memory c =
    on_err_weaker c.append.result
    (λ some s h. let P : List Event → Type 0 = λ l. c.args.trail.now.room < length l in
    subst P (c.as_slice.ensures.value ∙ c.step_with_handlers.ensures.told s h) some)
    c.append.ensures.memory
