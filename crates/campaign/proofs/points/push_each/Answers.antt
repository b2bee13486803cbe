use Rattle.std.proofs.Common.{◌≡◌, ◌+◌, ◌-◌, ◌++◌, ◌∷◌, [], ℕ, List, ap, sym, ◌∙◌, append_assoc, arith, map}
use Rattle.std.specs.List.{range_with_len}
use Rattle.std.proofs.lemmas.List.FromFn.{map-range_with_len_more}
use Rattle.model.specs.declared.plan.Injection.{Injection}
use Rattle.model.specs.Campaign.{one_point}
use Rattle.campaign.proofs.points.push_each.Goals as goal

pub loop-step-preserved : goal.loop-step-preserved
loop-step-preserved c =
    let at : ℕ → List Injection = one_point c.args.range.handler in
    let first = c.args.range.first in
    let before = c.loop-step.step - first in
    let above = c.loop-step.invariant.from in
    let on = c.loop-step-test.true in
    let this : first + before ≡ c.loop-step.step = omega arith in
    let more : c.loop-step.step + 1 - first ≡ before + 1 = omega arith in
    let one_more = ap (λ count. map at (range_with_len first count)) more
    ∙ map-range_with_len_more at first before c.loop-step.step this in
    record {
      steps = c.in_ok-push_point.ensures ∙ ap (λ (point : List Injection). c.loop-step.points.items ++ point ∷ []) c.one.ensures
          ∙ ap (λ points. points ++ at c.loop-step.step ∷ []) c.loop-step.invariant.steps
          ∙ append_assoc c.args.points.now.items (map at (range_with_len first before)) (at c.loop-step.step ∷ [])
          ∙ ap (λ points. c.args.points.now.items ++ points)
          (sym one_more);
      from = omega arith;
      within = omega arith;
    }
