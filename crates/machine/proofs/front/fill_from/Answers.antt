use Rattle.std.proofs.Common.{◌++◌, ◌∙◌, List, length, drop, min, ap, arith, inl, inr}
use Rattle.std.proofs.lemmas.Bool.{cases_lt}
use Rattle.std.proofs.Math.ListN.{get_or-eq_default}
use Rattle.model.specs.State.{Progress, no_progress}
use Rattle.machine.proofs.Fronts.{filled}
use Rattle.machine.proofs.front.fill_from.Goals as goal

pub returns : goal.returns
returns c = λ blank.
    let front = c.args.front.now in
    let cleared = c.clear_between.new.progress in
    let full = c.clear_between.ensures.full in
    ap (λ (first : List Progress). first ++ drop (length front) cleared) c.copy_from_slice.ensures.after
    ∙ filled front cleared c.requires full (λ task from. elim (cases_lt task (min c.args.tasks 32)) [
      | inl there ↦ c.clear_between.ensures.cleared task from there
      | inr past ↦ elim (cases_lt task c.args.tasks) [
        | inl below ↦ get_or-eq_default cleared no_progress (omega (arith, past, below, full))
        | inr behind ↦ c.clear_between.ensures.same task behind ∙ blank task behind
      ]
    ])
