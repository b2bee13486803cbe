use Rattle.std.proofs.Common.{◌≡◌, ◌≤◌, inl, inr, length, true, get_or, ap, sym, ◌∙◌, arith, below_more}
use Rattle.std.specs.Option.{is_some}
use Rattle.std.proofs.lemmas.Bool.{cases_lt}
use Rattle.std.proofs.lemmas.List.{get_or_past}
use Rattle.lists.specs.Lists.{place_of}
use Rattle.lists.proofs.Compared.{same_told}
use Rattle.groups.specs.EventGroups.{EventGroups, no_condition, wanted_by}
use Rattle.groups.proofs.Compared.{same_condition}
use Rattle.groups.proofs.groups.Groups.has_same_wants.Goals as goal

pub loop-task-preserved-then-not-contains : goal.loop-task-preserved-then-not-contains
loop-task-preserved-then-not-contains c =
    below_more _ _ c.loop-task.invariant
    (λ some. absurd (let is = c.contains.ensures.contains in let out = c.if-not-contains.true in cc (is, out, some)))

pub loop-task-preserved : goal.loop-task-preserved
loop-task-preserved c = below_more _ _ c.loop-task.invariant (λ some. sym (same_told _ same_condition _ _ c.if-ne.ensures))

pub returns : goal.returns
returns c = λ told task some.
    let wants = c.self.inside.wants in
    let others = c.other.inside.wants in
    let many : length wants ≡ 32 = c.self.invariant.0.as_many in
    let as_many : length others ≡ 32 = c.other.invariant.0.as_many in
    let end : 32 ≤ c.loop-task.task = c.loop-task-test.false in
    let placed : is_some (place_of c.self.inside.lists task) ≡ true =
    ap (λ (v : EventGroups). is_some (place_of v.waiting task)) c.self.view_is ∙ some in
    let same : get_or others task no_condition ≡ get_or wants task no_condition = elim (cases_lt task 32) [
      | inl below ↦ c.loop-task.invariant task (omega (arith, below, end)) placed
      | inr past ↦
          get_or_past others task no_condition (omega (arith, as_many, past))
          ∙ sym (get_or_past wants task no_condition (omega (arith, many, past)))
    ] in
    sym (ap (λ (v : EventGroups). wanted_by v.wants task) c.other.view_is) ∙ same
    ∙ ap (λ (v : EventGroups). wanted_by v.wants task) c.self.view_is
