use Rattle.std.proofs.Common.{◌-◌, sym, subst}
use Rattle.clock.specs.Timeline.{Timeline}
use Rattle.clock.specs.StandsFor.{StandsFor, before_held}
use Rattle.clock.proofs.Standing.{held_now, stands_released}
use Rattle.clock.proofs.clock.Clock.release.Goals as goal

pub returns-clause-stands : goal.returns-clause-stands
returns-clause-stands c = λ s h.
    subst (λ (t : Timeline). StandsFor t (before_held s)) (sym
    (held_now c.self.inside.lists _ _ _ c.self.inside.current.number c.self.inside.overflow.number _ _ _ c.self.view_is
    (λ n. n - 1) c.one_less-held.ensures))
    (stands_released c.args.self.now s h c.requires)
