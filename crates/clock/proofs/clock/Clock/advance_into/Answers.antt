use Rattle.std.proofs.Common.{◌≡◌, ◌+◌, ◌*◌, ◌^◌, sym, ap, subst, arith}
use Rattle.clock.specs.Timeline.{Timeline}
use Rattle.clock.specs.declared.clock.Clock.TheInside.{Inside}
use Rattle.clock.proofs.Advancing.{Turned, turned_over, ticked, clock_after, jumps}
use Rattle.clock.proofs.Standing.{due_next, stands_advanced}
use Rattle.clock.proofs.clock.Clock.advance_into.Goals.{then-self, else-self}
use Rattle.clock.proofs.clock.Clock.advance_into.Goals as goal

pub invariant_of-self : goal.invariant_of-self
invariant_of-self c =
    let q = c.self.inside in
    let s = c.if-self.self-inside in
    let P : Inside → Type 0 = λ i.
    Turned i.lists i.age (2 ^ 32 * i.overflows) i.tick i.current.number i.overflow.number c.args.self.now in
    let turned : P s = elim c.if-self.branch [
      | then-self w ↦
          subst P (sym w.self-inside-is) (rw (w.swap.ensures.x_after, w.swap.ensures.y_after)
          (turned_over c.self.invariant c.self.view_is (2 ^ 32 * (q.overflows + 1)) (omega arith) (omega (arith, w.if-self.true))))
      | else-self w ↦
          subst P (sym w.self-inside-is) (ticked c.self.invariant c.self.view_is (let ne = w.if-self.false in omega (arith, ne)))
    ] in
    clock_after turned c.take_due.new.lists _ c.take_due.ensures.due c.take_due.ensures.later
    c.take_due.ensures.others c.take_due.ensures.sound c.requires (omega arith)

pub returns-clause-advances : goal.returns-clause-advances
returns-clause-advances c =
    let q = c.self.inside in
    let s = c.if-self.self-inside in
    let P : Inside → Type 0 = λ i.
    Turned i.lists i.age (2 ^ 32 * i.overflows) i.tick i.current.number i.overflow.number c.args.self.now in
    let turned : P s = elim c.if-self.branch [
      | then-self w ↦
          subst P (sym w.self-inside-is) (rw (w.swap.ensures.x_after, w.swap.ensures.y_after)
          (turned_over c.self.invariant c.self.view_is (2 ^ 32 * (q.overflows + 1)) (omega arith) (omega (arith, w.if-self.true))))
      | else-self w ↦
          subst P (sym w.self-inside-is) (ticked c.self.invariant c.self.view_is (let ne = w.if-self.false in omega (arith, ne)))
    ] in
    let H : Inside → Type 0 = λ i. i.held ≡ c.args.self.now.held in
    let held : H s = elim c.if-self.branch [
      | then-self w ↦ subst H (sym w.self-inside-is) (ap (λ (t : Timeline). t.held) c.self.view_is)
      | else-self w ↦ subst H (sym w.self-inside-is) (ap (λ (t : Timeline). t.held) c.self.view_is)
    ] in
    jumps turned c.take_due.new.lists _ c.take_due.ensures.due c.take_due.ensures.later c.take_due.ensures.others s.held held

pub returns-clause-due : goal.returns-clause-due
returns-clause-due c = λ s h. due_next c.args.self.now _ s _ (returns-clause-advances c) h

pub returns-clause-woken : goal.returns-clause-woken
returns-clause-woken c = λ s h free. stands_advanced c.args.self.now _ s _ (returns-clause-advances c) h free
