use Rattle.std.proofs.Common.{subst}
use Rattle.ops.specs.Can.{CanGoOn}
use Rattle.machine.proofs.Either.{all_placed, any}
use Rattle.ops.proofs.Deciding.{none_else}
use Rattle.ops.proofs.calls.go_on_silently.Goals as goal

pub returns-in-Decide-clause-does : goal.returns-in-Decide-clause-does
returns-in-Decide-clause-does c = λ app ticks log s h.
    let can =
    subst (CanGoOn c.args.machine.now c.args.task c.args.object c.args.access c.requires.can.0) c.in-Decide.is c.requires.can.1 in
    rw c.in-Decide.is (c.decide.ensures.does log s (all_placed c.args.machine.now can.agrees log s h))

pub returns-in-Place-clause-does : goal.returns-in-Place-clause-does
returns-in-Place-clause-does c = λ app ticks log s h.
    rw c.in-Place.is (any c.place.new.machine _ _ (c.place.ensures.does log s h))

pub returns-in-Unlock-clause-does : goal.returns-in-Unlock-clause-does
returns-in-Unlock-clause-does c = λ app ticks log s h.
    let can =
    subst (CanGoOn c.args.machine.now c.args.task c.args.object c.args.access c.requires.can.0) c.in-Unlock.is c.requires.can.1 in
    rw c.in-Unlock.is
    (any c.unlock.new.machine _ _ (c.unlock.ensures.does log s (all_placed c.args.machine.now can.agrees log s h)))

pub returns-in_default : goal.returns-in_default
returns-in_default c =
    absurd (none_else c.args.next c.requires.silent c.in_default.not-Decide c.in_default.not-Place c.in_default.not-Unlock)
