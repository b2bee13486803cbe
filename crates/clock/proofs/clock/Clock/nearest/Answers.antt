use Rattle.std.proofs.Common.{◌≡◌, [], ◌≤◌, ◌+◌, ◌-◌, ◌*◌, ◌^◌, subst, arith, rules}
use Rattle.lists.specs.Lists.{Each}
use Rattle.clock.specs.Timeline.{Timeline}
use Rattle.clock.proofs.Quiet.{nearest_here, nearest_next, nobody_asleep}
use Rattle.clock.proofs.clock.Clock.nearest.Goals as goal

pub returns-in-Some-clause-ahead : goal.returns-in-Some-clause-ahead
returns-in-Some-clause-ahead c =
    let near =
    nearest_here c.self.invariant c.in-Some.first c.value.result c.in-Some.ensures.first
    (c.value.ensures.value c.self.inside.current.number) in (
      near.0,
      subst (λ (t : Timeline). Each (λ e. t.now + (c.value.result - c.self.inside.tick) ≤ e.1) t.delayed_list)
          c.self.view_is near.1,
    )

pub returns-clause-ahead : goal.returns-clause-ahead
returns-clause-ahead c =
    let near =
    nearest_next c.self.invariant (omega arith) c.in_default.ensures.first c.in_ok-first.first c.value-2.result
    c.in_ok-first.ensures.first (c.value-2.ensures.value c.self.inside.overflow.number) in
    let more : 4294967295 - c.self.inside.tick + c.value-2.result + 1 ≡ c.value-2.result + 2 ^ 32 - c.self.inside.tick =
    omega arith in (
      omega arith,
      rw more (subst (λ (t : Timeline). Each (λ e. t.now + (c.value-2.result + 2 ^ 32 - c.self.inside.tick) ≤ e.1) t.delayed_list)
          c.self.view_is near),
    )

pub returns-in_err-first-clause-ahead : goal.returns-in_err-first-clause-ahead
returns-in_err-first-clause-ahead c =
    let nobody : c.args.self.now.delayed_list ≡ [] = subst (λ (t : Timeline). t.delayed_list ≡ []) c.self.view_is
    (nobody_asleep c.self.inside.lists (2 ^ 32 * c.self.inside.overflows) c.self.inside.current.number
    c.self.inside.overflow.number c.in_default.ensures.first c.in_err-first.ensures.first) in
    search rules
