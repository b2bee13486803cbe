use Rattle.std.proofs.Common.{◌+◌, ◌-◌, ◌<◌, subst, sym, arith}
use Rattle.lists.specs.Lists.{Each}
use Rattle.clock.specs.Timeline.{Timeline}
use Rattle.clock.proofs.Quiet.{asleep_to_turn, asleep_to_first, most_to_first}
use Rattle.clock.proofs.clock.Clock.quiet_ticks.Goals as goal

pub returns-in-None-clause-asleep : goal.returns-in-None-clause-asleep
returns-in-None-clause-asleep c =
    subst (λ (t : Timeline). Each (λ e. t.now + (4294967295 - c.self.inside.tick) < e.1) t.delayed_list) c.self.view_is
    (asleep_to_turn c.self.invariant (4294967295 - c.self.inside.tick) (omega arith) c.in-None.ensures.first)

pub returns-in-Some-clause-asleep : goal.returns-in-Some-clause-asleep
returns-in-Some-clause-asleep c =
    subst (λ (t : Timeline). Each (λ e. t.now + (c.value.result - c.self.inside.tick - 1) < e.1) t.delayed_list) c.self.view_is
    (asleep_to_first c.self.invariant c.in-Some.first c.value.result
    c.in-Some.ensures.first (c.value.ensures.value c.self.inside.current.number))

pub returns-in-Some-clause-most : goal.returns-in-Some-clause-most
returns-in-Some-clause-most c = λ n asleep fits.
    most_to_first _ _ c.self.inside.tick c.self.inside.current.number c.self.inside.overflow.number n
    c.in-Some.first c.value.result c.in-Some.ensures.first (c.value.ensures.value c.self.inside.current.number)
    (subst (λ (t : Timeline). Each (λ e. t.now + n < e.1) t.delayed_list) (sym c.self.view_is) asleep)
