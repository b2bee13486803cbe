use Rattle.std.proofs.Common.{◌+◌, ◌*◌, ◌^◌, sym, ◌∙◌, ap, arith, refl}
use Rattle.clock.specs.Timeline.{Timeline}
use Rattle.clock.proofs.Advancing.{advances_if_none, clock_if_none, none_now, some_now, ticked, turned_over}
use Rattle.clock.proofs.Standing.{due_next, stands_advanced}
use Rattle.clock.proofs.clock.Clock.advance_if_none_due.Goals as goal

-- somebody is due

pub returns-then-is_some-clause-none : goal.returns-then-is_some-clause-none
returns-then-is_some-clause-none c = (
  λ t. absurd cc,
  λ later.
      absurd (some_now
      (turned_over c.self.invariant c.self.view_is (2 ^ 32 * (c.self.inside.overflows + 1))
      (omega arith) (omega (arith, c.if-self.true)))
      c.first_due.result c.first_due.ensures.due (sym c.is_some.ensures ∙ c.if-is_some.true) later),
)

pub returns-then-is_some-2-clause-none : goal.returns-then-is_some-2-clause-none
returns-then-is_some-2-clause-none c = (
  λ t. absurd cc,
  λ later.
      absurd (some_now (ticked c.self.invariant c.self.view_is (let ne = c.if-self.false in omega (arith, ne)))
      c.first_due-else-self.result c.first_due-else-self.ensures.due
      (sym c.is_some-else-self.ensures ∙ c.if-is_some-2.true) later),
)

-- nobody is, and the lists are swapped

pub invariant_of-self : goal.invariant_of-self
invariant_of-self c =
    rw (c.swap.ensures.x_after, c.swap.ensures.y_after) (clock_if_none
    (turned_over c.self.invariant c.self.view_is (2 ^ 32 * (c.self.inside.overflows + 1))
    (omega arith) (omega (arith, c.if-self.true)))
    c.first_due.result c.first_due.ensures.due (sym c.is_some.ensures ∙ c.if-is_some.false) c.requires)

pub returns-else-is_some-clause-advances : goal.returns-else-is_some-clause-advances
returns-else-is_some-clause-advances c = λ t.
    rw (c.swap.ensures.x_after, c.swap.ensures.y_after) (advances_if_none
    (turned_over c.self.invariant c.self.view_is (2 ^ 32 * (c.self.inside.overflows + 1))
    (omega arith) (omega (arith, c.if-self.true)))
    _ (ap (λ (t : Timeline). t.held) c.self.view_is) c.first_due.result c.first_due.ensures.due
    (sym c.is_some.ensures ∙ c.if-is_some.false))

pub returns-else-is_some-clause-none : goal.returns-else-is_some-clause-none
returns-else-is_some-clause-none c = (λ t. none_now _ _ (returns-else-is_some-clause-advances c refl), λ later. refl)

pub returns-else-is_some-clause-due : goal.returns-else-is_some-clause-due
returns-else-is_some-clause-due c = λ s t h. due_next c.args.self.now _ s _ (returns-else-is_some-clause-advances c t) h

pub returns-else-is_some-clause-woken : goal.returns-else-is_some-clause-woken
returns-else-is_some-clause-woken c = λ s t h free.
    stands_advanced c.args.self.now _ s _ (returns-else-is_some-clause-advances c t) h free

-- nobody is, and the tick goes on

pub invariant_of-self-else-self : goal.invariant_of-self-else-self
invariant_of-self-else-self c =
    clock_if_none (ticked c.self.invariant c.self.view_is (let ne = c.if-self.false in omega (arith, ne)))
    c.first_due-else-self.result c.first_due-else-self.ensures.due
    (sym c.is_some-else-self.ensures ∙ c.if-is_some-2.false) c.requires

pub returns-else-is_some-2-clause-advances : goal.returns-else-is_some-2-clause-advances
returns-else-is_some-2-clause-advances c = λ t.
    advances_if_none (ticked c.self.invariant c.self.view_is (let ne = c.if-self.false in omega (arith, ne)))
    _ (ap (λ (t : Timeline). t.held) c.self.view_is) c.first_due-else-self.result
    c.first_due-else-self.ensures.due (sym c.is_some-else-self.ensures ∙ c.if-is_some-2.false)

pub returns-else-is_some-2-clause-none : goal.returns-else-is_some-2-clause-none
returns-else-is_some-2-clause-none c = (λ t. none_now _ _ (returns-else-is_some-2-clause-advances c refl), λ later. refl)

pub returns-else-is_some-2-clause-due : goal.returns-else-is_some-2-clause-due
returns-else-is_some-2-clause-due c = λ s t h. due_next c.args.self.now _ s _ (returns-else-is_some-2-clause-advances c t) h

pub returns-else-is_some-2-clause-woken : goal.returns-else-is_some-2-clause-woken
returns-else-is_some-2-clause-woken c = λ s t h free.
    stands_advanced c.args.self.now _ s _ (returns-else-is_some-2-clause-advances c t) h free
