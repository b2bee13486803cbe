use Rattle.std.proofs.Common.{◌≡◌, ℕ, true, false, Some, None, sym, subst, refl}
use Rattle.model.specs.declared.call.Phase.TheVariants.{Place}
use Rattle.model.specs.State.{wait_if_awake, status_at}
use Rattle.model.specs.Objects.{list_for}
use Rattle.model.specs.Waiting.{wait_in}
use Rattle.model.specs.Calls.{lock}
use Rattle.sched.specs.StandsFor as sched
use Rattle.objects.specs.Objects as objects
use Rattle.objects.specs.Objects.{CountsNobody}
use Rattle.machine.specs.declared.machine.Machine.{Machine}
use Rattle.machine.specs.StandsFor.{AtAny}
use Rattle.ops.proofs.Deciding.{waits}
use Rattle.ops.proofs.calls.begin_wait.Goals as goal

pub returns-clause-does : goal.returns-clause-does
returns-clause-does c = λ log s h.
    let k = c.args.machine.now in
    let holds : s.call_hold ≡ false → sched.StandsFor c.hold.new.self (record s { call_hold = true }) = λ free.
    c.hold.ensures.stands s h.stands.sched free in
    let locks : ((j : ℕ) → wait_if_awake (status_at s j) ≡ None)
    → objects.StandsFor c.lock.new.self None (record s { locked = Some c.args.object }) = λ nobody.
    c.lock.ensures.stands s None h.stands.rest.objects nobody in
    subst (λ (x : Machine).
    AtAny x log (lock c.args.task c.args.object Place (wait_in c.args.task (list_for c.args.object c.args.access) s)))
    (sym c.set_wait.ensures)
    (waits k log s h c.args.task c.args.object c.requires c.hold.new.self
    c.lock.new.self c.hold.ensures.calm holds c.hold.ensures.schedule locks
    c.args.access (subst CountsNobody (sym c.lock.ensures.lock) (refl, refl)) _ c.list_for-machine.ensures _ refl)
