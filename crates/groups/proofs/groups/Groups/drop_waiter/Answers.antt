use Rattle.std.proofs.Common.{◌≡◌, ◌∙◌, None, ap, ℕ, List, sym, subst}
use Rattle.model.specs.State.{Suspended, with_status}
use Rattle.model.specs.Switching.{make_ready}
use Rattle.lists.specs.Lists.{place_of}
use Rattle.lists.proofs.Laws.{map-without-None}
use Rattle.groups.specs.EventGroups.{EventGroups}
use Rattle.groups.specs.StandsFor.{StandsFor}
use Rattle.groups.proofs.Standing.{stands_readied, stands_suspended}
use Rattle.groups.proofs.groups.Groups.drop_waiter.Goals as goal

pub returns-clause-readied : goal.returns-clause-readied
returns-clause-readied c = λ s h l.
    let q = c.self.inside in
    let v : EventGroups = record { bits = q.bits; waiting = q.lists; wants = q.wants } in
    let P : List (List (ℕ × ℕ)) → Type 0 = λ ls. StandsFor (record v { waiting = ls }) (make_ready c.args.task s) in
    subst P (sym c.remove.ensures.removed)
    (stands_readied v s c.args.task (subst (λ (w : EventGroups). StandsFor w s) (sym c.self.view_is) h) l)

pub returns-clause-suspended : goal.returns-clause-suspended
returns-clause-suspended c = λ s h l.
    let q = c.self.inside in
    let v : EventGroups = record { bits = q.bits; waiting = q.lists; wants = q.wants } in
    let P : List (List (ℕ × ℕ)) → Type 0 = λ ls. StandsFor (record v { waiting = ls }) (with_status c.args.task Suspended s) in
    subst P (sym c.remove.ensures.removed)
    (stands_suspended v s c.args.task (subst (λ (w : EventGroups). StandsFor w s) (sym c.self.view_is) h) l)

pub returns-clause-unmoved : goal.returns-clause-unmoved
returns-clause-unmoved c = λ away.
    let q = c.self.inside in
    let free : place_of q.lists c.args.task ≡ None =
    ap (λ (w : EventGroups). place_of w.waiting c.args.task) c.self.view_is ∙ away in
    ap (λ (ls : List (List (ℕ × ℕ))). record { bits = q.bits; waiting = ls; wants = q.wants })
    (c.remove.ensures.removed ∙ map-without-None c.self.invariant.0.sound c.args.task free)
    ∙ c.self.view_is
