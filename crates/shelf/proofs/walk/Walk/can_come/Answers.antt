use Rattle.std.proofs.Common.{◌≡◌, ◌∙◌, ℕ, [], List, ap, subst, sym}
use Rattle.model.specs.declared.plan.Injection.{Injection}
use Rattle.model.specs.Handlers.{can_come}
use Rattle.model.specs.Points.{first_handler, first_step}
use Rattle.model.specs.Run.{state_after}
use Rattle.machine.specs.StandsFor.{Stands}
use Rattle.shelf.proofs.walk.Walk.can_come.Goals as goal

pub returns : goal.returns
returns c = λ app limits walk there.
    let first : first_handler c.args.point.now ≡ c.first.result.handler =
    ap (λ (point : List Injection). first_handler point) c.first.ensures.1 in
    c.can_come.ensures _
    (subst (λ (n : ℕ). Stands c.args.self.now.kernel (state_after app limits [] n)) there walk.way.stands)
    ∙ ap (can_come (state_after app limits [] (first_step c.args.point.now))) (sym first)
