use Rattle.std.proofs.Common.{List, ap, sym, ◌∙◌}
use Rattle.std.specs.Prelude.{Bool, ◌&&◌}
use Rattle.std.specs.List.{list_all}
use Rattle.model.specs.Application.{without_endless}
use Rattle.model.specs.State.{Task}
use Rattle.model.specs.Step.{is_ended}
use Rattle.kernel.proofs.Ended.{all_awaited, all_meant}
use Rattle.kernel.proofs.over.are_all_ended_beside.Goals as goal

pub returns-then-not-has_endless : goal.returns-then-not-has_endless
returns-then-not-has_endless c = λ s h.
    let none = sym c.has_endless.ensures ∙ c.if-not-has_endless.true in
    let meant = all_meant c.args.app.now.tasks s.tasks none in
    let awaited = all_awaited c.args.app.now.tasks c.well_formed-then-not-has_endless.ensures.some none in
    c.is_nobody_left.ensures s h
    ∙ ap (λ (ts : List Task). list_all (λ (t : Task). is_ended t.status) ts) (sym meant)
    ∙ ap (λ (b : Bool). b && list_all (λ (t : Task). is_ended t.status) (without_endless c.args.app.now.tasks s.tasks))
    (sym awaited)

pub returns-then-is_awaited : goal.returns-then-is_awaited
returns-then-is_awaited c = λ s h. sym (c.is_awaited.ensures s h c.if-is_awaited.true)

pub returns-then-is_awaited-2 : goal.returns-then-is_awaited-2
returns-then-is_awaited-2 c = λ s h. sym (c.is_awaited-2.ensures s h c.if-is_awaited-2.true)
