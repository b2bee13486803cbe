use Rattle.std.proofs.Common.{List, subst, sym}
use Rattle.model.specs.declared.event.Event.{Event}
use Rattle.rows.specs.Links.{AreLegs}
use Rattle.campaign.proofs.meeting.runner.Runner.beyond.Goals as goal

pub reached-requires-clause-legs : goal.reached-requires-clause-legs
reached-requires-clause-legs c =
    subst (λ (trail : List Event).
    AreLegs c.args.setup.now.shelf.now.base.events (record { trail = trail; legs = c.args.self.now.legs.items }))
    (sym c.in_ok-comes.ensures.trail) c.requires.legs

pub missed-requires-clause-legs : goal.missed-requires-clause-legs
missed-requires-clause-legs c =
    subst (λ (trail : List Event).
    AreLegs c.args.setup.now.shelf.now.base.events (record { trail = trail; legs = c.args.self.now.legs.items }))
    (sym c.in_ok-comes.ensures.trail) c.requires.legs
