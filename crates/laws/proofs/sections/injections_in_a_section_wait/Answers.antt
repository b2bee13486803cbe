use Rattle.std.proofs.Common.{◌≡◌, ◌∙◌, suc, [], ◌∷◌, length, ap, refl, sym, arith}
use Rattle.model.specs.State.{State}
use Rattle.model.specs.Handlers.{can_come, pend}
use Rattle.model.specs.Step.{step}
use Rattle.model.proofs.Sorting.{by_test}
use Rattle.laws.specs.Sections.{alone}
use Rattle.laws.proofs.Inside.{comes_at_the_exit, none_alone, nothing_meanwhile, pending_meanwhile, state_alone}
use Rattle.laws.proofs.sections.injections_in_a_section_wait.Goals as goal

pub returns : goal.returns
returns c = λ app formed limits handler steps s h none there open_ shut same.
    let t : State = alone app limits (suc steps) s in
    let many : length t.sources ≡ length s.sources =
    (let a = (state_alone app formed limits (suc steps) s h).sound.sources in let b = h.sound.sources in omega arith) in
    let pended : alone app limits steps (step app limits (handler ∷ []) s) ≡ pend app handler t =
    by_test (can_come s handler)
    (λ can. pending_meanwhile app formed limits handler steps s h open_ can ∙ sym (rw (same ∙ can) refl))
    (λ not. nothing_meanwhile app formed limits handler steps s h open_ not ∙ sym (rw (same ∙ not) refl)) in
    ap (step app limits []) pended
    ∙ comes_at_the_exit app limits handler t (omega (arith, many, there)) (none_alone app limits (suc steps) s none) shut
