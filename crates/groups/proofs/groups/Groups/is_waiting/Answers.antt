use Rattle.std.proofs.Common.{◌∙◌, subst, sym}
use Rattle.groups.specs.EventGroups.{EventGroups}
use Rattle.groups.specs.StandsFor.{StandsFor}
use Rattle.groups.proofs.Standing.{waiting_is}
use Rattle.groups.proofs.groups.Groups.is_waiting.Goals as goal

pub returns-clause-stands : goal.returns-clause-stands
returns-clause-stands c = λ s h.
    let q = c.self.inside in
    let v : EventGroups = record { bits = q.bits; waiting = q.lists; wants = q.wants } in
    c.contains.ensures.contains
    ∙ waiting_is v s (subst (λ (w : EventGroups). StandsFor w s) (sym c.self.view_is) h) c.args.task c.self.invariant.0.sound
