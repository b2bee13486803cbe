use Rattle.std.proofs.Common.{List, ap, sym, ◌∙◌}
use Rattle.std.specs.Prelude.{Bool, ◌&&◌}
use Rattle.std.specs.List.{list_all}
use Rattle.model.specs.Application.{without_endless}
use Rattle.model.specs.State.{Task}
use Rattle.model.specs.Step.{is_ended}
use Rattle.kernel.proofs.Ended.{all_awaited, all_meant}
use Rattle.kernel.proofs.over.are_all_ended.Goals as goal

pub returns : goal.returns
returns c = λ s h.
    let none = sym c.has_endless.ensures ∙ c.if-has_endless.false in
    let meant = all_meant c.args.app.now.tasks s.tasks none in
    let awaited = all_awaited c.args.app.now.tasks c.well_formed-2.ensures.some none in
    c.is_nobody_left.ensures s h
    ∙ ap (λ (ts : List Task). list_all (λ (t : Task). is_ended t.status) ts) (sym meant)
    ∙ ap (λ (b : Bool). b && list_all (λ (t : Task). is_ended t.status) (without_endless c.args.app.now.tasks s.tasks))
    (sym awaited)
