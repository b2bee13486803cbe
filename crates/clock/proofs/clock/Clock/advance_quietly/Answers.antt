use Rattle.std.proofs.Common.{[], ap, arith}
use Rattle.clock.specs.Timeline.{Timeline}
use Rattle.clock.proofs.Advancing.{ticked}
use Rattle.clock.proofs.Quiet.{clock_quiet, advances_quietly}
use Rattle.clock.proofs.Standing.{due_next, stands_advanced}
use Rattle.clock.proofs.clock.Clock.advance_quietly.Goals as goal

pub invariant_of-self : goal.invariant_of-self
invariant_of-self c =
    let now = ap (λ (t : Timeline). t.now) c.self.view_is in
    let turn = c.requires.turn in
    clock_quiet (ticked c.self.invariant c.self.view_is (omega (arith, now, turn))) c.requires.asleep c.requires.age

pub returns-clause-advances : goal.returns-clause-advances
returns-clause-advances c =
    let now = ap (λ (t : Timeline). t.now) c.self.view_is in
    let turn = c.requires.turn in
    advances_quietly (ticked c.self.invariant c.self.view_is (omega (arith, now, turn)))
    c.requires.asleep _ (ap (λ (t : Timeline). t.held) c.self.view_is)

pub returns-clause-due : goal.returns-clause-due
returns-clause-due c = λ s h. due_next c.args.self.now _ s [] (returns-clause-advances c) h

pub returns-clause-woken : goal.returns-clause-woken
returns-clause-woken c = λ s h free. stands_advanced c.args.self.now _ s [] (returns-clause-advances c) h free
