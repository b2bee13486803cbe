use Rattle.std.proofs.Common.{◌≡◌, ◌+◌, ◌-◌, ◌∙◌, ℕ, [], length, ap, refl, subst, arith}
use Rattle.machine.specs.Logged.{all_of}
use Rattle.model.specs.Run.{events_after}
use Rattle.shelf.specs.Shelves.{Shelved}
use Rattle.shelf.proofs.Along.{shares_few}
use Rattle.shelf.proofs.Walking.{is_walk}
use Rattle.shelf.proofs.shelf.Shelf.walk_to.Goals as goal

pub overflow_add-walk : goal.overflow_add-walk
overflow_add-walk c =
    let there = c.in_ok-go_to.ensures.there ∙ c.first_step.ensures in
    let on =
    is_walk c.args.app.now c.self.inside.limits c.args.self.now.limits (ap (λ (s : Shelved). s.limits) c.self.view_is)
    c.come_near.new.walk c.come_near.ensures.walk c.go_to.new.self.kernel (all_of c.args.simulation.now.trail)
    (all_of c.go_to.new.simulation.trail)
    c.in_ok-go_to.ensures.led c.in_ok-go_to.ensures.way (c.go_to.new.self.before + (c.len.result - c.len-kept.result))
    (rw (c.in_ok-go_to.ensures.before, c.len.ensures, c.len-kept.ensures) refl) in
    let counted =
    subst (λ (n : ℕ). c.go_to.new.self.before + (c.len.result - c.len-kept.result)
    ≡ length (events_after c.args.app.now c.args.self.now.limits [] n))
    there on.before in
    let few = shares_few c.args.app.now _ c.args.self.now c.self.view_is c.requires.shelf c.args.point.now c.requires.reached in
    let all = c.count_events.ensures in
    let fits = c.count_events.type_inv in
    omega (arith, counted, few, all, fits)
