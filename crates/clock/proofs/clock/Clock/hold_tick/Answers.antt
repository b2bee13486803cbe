use Rattle.std.proofs.Common.{◌+◌, sym, subst}
use Rattle.model.specs.Time as time
use Rattle.clock.specs.Timeline.{Timeline}
use Rattle.clock.specs.StandsFor.{StandsFor, StandsBefore}
use Rattle.clock.proofs.Standing.{before_tick_held, held_now, stands_held}
use Rattle.clock.proofs.clock.Clock.hold_tick.Goals as goal

pub returns-clause-stands : goal.returns-clause-stands
returns-clause-stands c = λ s h on.
    subst (λ (t : Timeline). StandsFor t (time.increment_tick s)) (sym
    (held_now c.self.inside.lists _ _ _ c.self.inside.current.number c.self.inside.overflow.number _ _ _ c.self.view_is
    (λ n. n + 1) c.one_more-held.ensures))
    (stands_held c.args.self.now s h on)

pub returns-clause-placing : goal.returns-clause-placing
returns-clause-placing c = λ s task deadline h on.
    subst (λ (t : Timeline). StandsBefore task deadline t (time.increment_tick s))
    (sym (held_now c.self.inside.lists _ _ _ c.self.inside.current.number c.self.inside.overflow.number _ _ _ c.self.view_is
    (λ n. n + 1) c.one_more-held.ensures)) (before_tick_held c.args.self.now s task deadline h on)
