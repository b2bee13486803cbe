use Rattle.std.proofs.Common.{◌≡◌, ℕ, ◌≤◌, ◌+◌, ◌*◌, ◌^◌, ◌%◌, sym, ap, subst, arith, refl}
use Rattle.std.proofs.lemmas.Bool.{ltb-true, ltb-false}
use Rattle.clock.specs.Timeline.{IsClock, Jumps, Timeline, timeline_of}
use Rattle.clock.specs.declared.clock.Clock.TheInside.{Inside}
use Rattle.clock.proofs.Advancing.{TurnedBy, jumped_within, jumped_over, clock_after, jumps}
use Rattle.clock.proofs.Standing.{due_jump, stands_jumped}
use Rattle.clock.proofs.clock.Clock.jump_into.Goals.{then-wraps, else-wraps}
use Rattle.clock.proofs.clock.Clock.jump_into.Goals as goal

pub take_due-requires-clause-ahead : goal.take_due-requires-clause-ahead
take_due-requires-clause-ahead c =
    let q = c.self.inside in
    let s = c.if-wraps.self-inside in
    let next = (q.tick + c.args.ticks) % 2 ^ 32 in
    let P : Inside → Type 0 = λ i.
    (i.tick ≡ next) × (i.held ≡ c.args.self.now.held)
    × TurnedBy c.args.ticks i.lists i.age (2 ^ 32 * i.overflows) next i.current.number i.overflow.number c.args.self.now in
    let held : q.held ≡ c.args.self.now.held = ap (λ (t : Timeline). t.held) c.self.view_is in
    let turned : P s = elim c.if-wraps.branch [
      | then-wraps w ↦ subst P (sym w.self-inside-is) (rw (w.swap.ensures.x_after, w.swap.ensures.y_after) (
          let past : 2 ^ 32 ≤ q.tick + c.args.ticks = omega (arith, ltb-true, w.if-wraps.true) in (
            refl,
            held,
            jumped_over c.self.invariant c.self.view_is c.args.ticks c.requires.soon next
                (2 ^ 32 * (q.overflows + 1)) (omega arith) (omega (arith, past)) (omega arith),
          )))
      | else-wraps w ↦ subst P (sym w.self-inside-is) (
          let within : next ≡ q.tick + c.args.ticks = omega (arith, ltb-false, w.if-wraps.false) in
          (refl, held, jumped_within c.self.invariant c.self.view_is c.args.ticks c.requires.soon next within (omega arith)))
    ] in
    turned.2.ahead

pub invariant_of-self : goal.invariant_of-self
invariant_of-self c =
    let q = c.self.inside in
    let s = c.if-wraps.self-inside in
    let next = (q.tick + c.args.ticks) % 2 ^ 32 in
    let P : Inside → Type 0 = λ i.
    (i.tick ≡ next) × (i.held ≡ c.args.self.now.held)
    × TurnedBy c.args.ticks i.lists i.age (2 ^ 32 * i.overflows) next i.current.number i.overflow.number c.args.self.now in
    let held : q.held ≡ c.args.self.now.held = ap (λ (t : Timeline). t.held) c.self.view_is in
    let turned : P s = elim c.if-wraps.branch [
      | then-wraps w ↦ subst P (sym w.self-inside-is) (rw (w.swap.ensures.x_after, w.swap.ensures.y_after) (
          let past : 2 ^ 32 ≤ q.tick + c.args.ticks = omega (arith, ltb-true, w.if-wraps.true) in (
            refl,
            held,
            jumped_over c.self.invariant c.self.view_is c.args.ticks c.requires.soon next
                (2 ^ 32 * (q.overflows + 1)) (omega arith) (omega (arith, past)) (omega arith),
          )))
      | else-wraps w ↦ subst P (sym w.self-inside-is) (
          let within : next ≡ q.tick + c.args.ticks = omega (arith, ltb-false, w.if-wraps.false) in
          (refl, held, jumped_within c.self.invariant c.self.view_is c.args.ticks c.requires.soon next within (omega arith)))
    ] in
    let took = c.take_due.ensures in
    subst (λ (tick : ℕ). IsClock c.take_due.new.lists s.age (2 ^ 32 * s.overflows) tick s.current.number s.overflow.number)
    (sym turned.0)
    (clock_after turned.2 c.take_due.new.lists _ took.due took.later took.others took.sound c.requires.age (omega arith))

pub returns-clause-jumps : goal.returns-clause-jumps
returns-clause-jumps c =
    let q = c.self.inside in
    let s = c.if-wraps.self-inside in
    let next = (q.tick + c.args.ticks) % 2 ^ 32 in
    let P : Inside → Type 0 = λ i.
    (i.tick ≡ next) × (i.held ≡ c.args.self.now.held)
    × TurnedBy c.args.ticks i.lists i.age (2 ^ 32 * i.overflows) next i.current.number i.overflow.number c.args.self.now in
    let held : q.held ≡ c.args.self.now.held = ap (λ (t : Timeline). t.held) c.self.view_is in
    let turned : P s = elim c.if-wraps.branch [
      | then-wraps w ↦ subst P (sym w.self-inside-is) (rw (w.swap.ensures.x_after, w.swap.ensures.y_after) (
          let past : 2 ^ 32 ≤ q.tick + c.args.ticks = omega (arith, ltb-true, w.if-wraps.true) in (
            refl,
            held,
            jumped_over c.self.invariant c.self.view_is c.args.ticks c.requires.soon next
                (2 ^ 32 * (q.overflows + 1)) (omega arith) (omega (arith, past)) (omega arith),
          )))
      | else-wraps w ↦ subst P (sym w.self-inside-is) (
          let within : next ≡ q.tick + c.args.ticks = omega (arith, ltb-false, w.if-wraps.false) in
          (refl, held, jumped_within c.self.invariant c.self.view_is c.args.ticks c.requires.soon next within (omega arith)))
    ] in
    let took = c.take_due.ensures in
    subst (λ (tick : ℕ).
    Jumps c.args.ticks c.args.self.now
    (timeline_of c.take_due.new.lists s.age s.held (2 ^ 32 * s.overflows) tick s.current.number s.overflow.number)
    c.take_due.new.due.items)
    (sym turned.0)
    (jumps turned.2 c.take_due.new.lists _ took.due took.later took.others s.held turned.1)

pub returns-clause-due : goal.returns-clause-due
returns-clause-due c = λ s h. due_jump c.args.ticks c.args.self.now _ s _ (returns-clause-jumps c) h

pub returns-clause-woken : goal.returns-clause-woken
returns-clause-woken c = λ s h. stands_jumped c.args.ticks c.args.self.now _ s _ (returns-clause-jumps c) h
