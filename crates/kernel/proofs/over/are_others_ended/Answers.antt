use Rattle.std.proofs.Common.{◌≡◌, ◌||◌, ℕ, Bool, true, false, refl, ap, sym, ◌∙◌, arith}
use Rattle.std.specs.List.{list_all}
use Rattle.std.specs.Prelude.{◌&&◌}
use Rattle.model.specs.Application.{is_endless, without_endless}
use Rattle.model.specs.State.{Task, status_at}
use Rattle.model.specs.Step.{is_ended}
use Rattle.kernel.proofs.Ending.{each_below, few_tasks, not_passed}
use Rattle.kernel.proofs.Ended.{all_but, not_all_but}
use Rattle.kernel.proofs.over.are_others_ended.Goals.{else-not-is_endless-via-then-not-is_endless+else-not-is_ended}
use Rattle.kernel.proofs.over.are_others_ended.Goals.{else-not-is_endless-via-else-not-is_endless}
use Rattle.kernel.proofs.over.are_others_ended.Goals as goal

pub returns-then-not-is_ended : goal.returns-then-not-is_ended
returns-then-not-is_ended c = λ s h.
    sym (not_passed c.args.app.now s (not_all_but c.args.app.now.tasks s.tasks c.loop-number.number
    (sym c.is_endless.ensures ∙ c.if-not-is_endless.true) (sym (c.is_ended.ensures s h) ∙ c.if-not-is_ended.true)))

pub loop-number-preserved : goal.loop-number-preserved
loop-number-preserved c = λ s h.
    each_below (λ (i : ℕ). is_endless c.args.app.now i || is_ended (status_at s i))
    c.loop-number.number (c.loop-number.invariant s h) (elim c.else-not-is_endless.branch [
      | else-not-is_endless-via-then-not-is_endless+else-not-is_ended w ↦
          rw (sym (w.is_ended.ensures s h) ∙ w.if-not-is_ended.false) (or_true (is_endless c.args.app.now c.loop-number.number))
      | else-not-is_endless-via-else-not-is_endless w ↦ rw (sym c.is_endless.ensures ∙ w.if-not-is_endless.false) refl
    ]) where
      or_true : (a : Bool) → a || true ≡ true
      or_true true = refl
      or_true false = refl

pub returns : goal.returns
returns c = λ s h.
    let few = few_tasks c.args.machine.now s h in
    let end = c.loop-number-test.false in
    let all = all_but c.args.app.now.tasks s.tasks (λ i l. c.loop-number.invariant s h i (omega arith)) in
    sym (ap (λ (b : Bool). b && list_all (λ (t : Task). is_ended t.status) (without_endless c.args.app.now.tasks s.tasks))
    (sym c.is_any_awaited.ensures ∙ c.if-not-is_any_awaited.false)
    ∙ all)
