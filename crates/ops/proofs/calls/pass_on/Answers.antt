use Rattle.std.proofs.Common.{◌≡◌, ℕ, true, false, Some, None, ap, ◌∙◌}
use Rattle.model.specs.declared.call.Phase.TheVariants.{Unlock}
use Rattle.model.specs.State.{wait_if_awake, status_at}
use Rattle.sched.specs.StandsFor as sched
use Rattle.sched.specs.Schedule.{Schedule}
use Rattle.objects.specs.Objects as objects
use Rattle.machine.specs.declared.machine.Machine.{Machine}
use Rattle.machine.proofs.Continuing.{gone_on}
use Rattle.ops.proofs.Deciding.{held_at}
use Rattle.ops.proofs.calls.pass_on.Goals as goal

pub returns-clause-does : goal.returns-clause-does
returns-clause-does c = λ log s h.
    let k = c.args.machine.now in
    let mid : Machine = record k { sched = c.hold.new.self; objects = c.lock.new.self } in
    let holds : s.call_hold ≡ false → sched.StandsFor c.hold.new.self (record s { call_hold = true }) = λ free.
    c.hold.ensures.stands s h.stands.sched free in
    let locks : ((j : ℕ) → wait_if_awake (status_at s j) ≡ None)
    → objects.StandsFor c.lock.new.self None (record s { locked = Some c.args.object }) = λ nobody.
    c.lock.ensures.stands s None h.stands.rest.objects nobody in
    let shut =
    held_at k log s h c.args.task c.args.object c.requires c.hold.new.self
    c.lock.new.self c.hold.ensures.calm holds c.hold.ensures.schedule locks in
    let runs = ap (λ (v : Schedule). v.current) c.hold.ensures.schedule ∙ c.requires.runs.current in
    gone_on mid c.set_phase.new.self log _ shut c.args.task runs Unlock c.set_phase.ensures (λ e. absurd (cc))
