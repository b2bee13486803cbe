use Rattle.std.proofs.Common.{◌≡◌, ◌∙◌, ◌+◌, ℕ, List, ap, refl, subst}
use Rattle.model.specs.declared.event.End.{End}
use Rattle.model.specs.Placements.{Found}
use Rattle.explorer.specs.Finding.{HasEnd, HaveOthers}
use Rattle.explorer.proofs.Tallying.{has_end, tally_at, tally_new}
use Rattle.explorer.proofs.Totals.{count_at, count_new}
use Rattle.explorer.proofs.findings.count_end.Goals as goal

pub returns-in-Some-clause-tallies : goal.returns-in-Some-clause-tallies
returns-in-Some-clause-tallies c = λ all plans tally number among none.
    let old = c.args.found.now.items in
    let least = c.args.more.least in
    let add = c.add_at.ensures in
    let end : c.more.inside.end ≡ least.end = ap (λ (f : Found). f.least.end) c.more.view_is in
    let found : HasEnd old least.end c.in-Some.number =
    subst (λ (e : End). HasEnd old e c.in-Some.number) end
    (subst (λ (fs : List Found). HasEnd fs c.more.inside.end c.in-Some.number) c.as_slice.ensures.value c.in-Some.ensures) in
    tally_at all least plans among none add.one add.added (has_end old least.end c.in-Some.number found add.one add.is)
    (add.counted.number ∙ ap (λ (n : ℕ). add.one.number + n) number) add.counted.least
    old c.add_at.new.found.items c.in-Some.number found.within add.is add.new_is tally

pub returns-in_ok-push-in-None-clause-tallies : goal.returns-in_ok-push-in-None-clause-tallies
returns-in_ok-push-in-None-clause-tallies c = λ all plans tally number among none.
    let old = c.args.found.now.items in
    let least = c.args.more.least in
    let end : c.more.inside.end ≡ least.end = ap (λ (f : Found). f.least.end) c.more.view_is in
    let others : HaveOthers old least.end =
    subst (HaveOthers old) end
    (subst (λ (fs : List Found). HaveOthers fs c.more.inside.end) c.as_slice.ensures.value c.in-None.ensures) in
    tally_new all least plans among none old c.push.new.self.items c.args.more refl number
    others c.in_ok-push-in-None.ensures.items tally

pub returns-in-Some-clause-count : goal.returns-in-Some-clause-count
returns-in-Some-clause-count c =
    let old = c.args.found.now.items in
    let add = c.add_at.ensures in
    let found : HasEnd old c.more.inside.end c.in-Some.number =
    subst (λ (fs : List Found). HasEnd fs c.more.inside.end c.in-Some.number) c.as_slice.ensures.value c.in-Some.ensures in
    count_at old c.add_at.new.found.items c.in-Some.number add.one add.added c.args.more.number found.within add.is add.new_is
    add.counted.number

pub returns-in_ok-push-in-None-clause-count : goal.returns-in_ok-push-in-None-clause-count
returns-in_ok-push-in-None-clause-count c =
    count_new c.args.found.now.items c.push.new.self.items c.args.more c.in_ok-push-in-None.ensures.items
