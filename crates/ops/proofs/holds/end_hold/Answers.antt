use Rattle.std.proofs.Common.{◌≡◌, ◌+◌, ◌<◌, ◌^◌, ℕ, true, false, ap, refl, subst, sym, ◌∙◌, arith}
use Rattle.sched.specs.StandsFor as sched
use Rattle.machine.specs.declared.machine.Machine.{Machine}
use Rattle.machine.specs.StandsFor.{progress_in}
use Rattle.machine.proofs.Acting.{within}
use Rattle.ops.proofs.Deciding.{freed}
use Rattle.ops.proofs.Held.{runs_on}
use Rattle.ops.proofs.holds.end_hold.Goals as goal

pub release-requires : goal.release-requires
release-requires c =
    let can = c.requires.can in
    let s = can.call.agrees.0 in
    let h = can.call.agrees.1 in
    let unhold : s.call_hold ≡ true → sched.StandsFor c.unhold.new.self (record s { call_hold = false }) =
    c.unhold.ensures.stands s h.sched in
    let there = freed c.args.machine.now c.set_wait.new.self s.log s (record { stands = h; log = refl })
    c.args.task can c.unhold.new.self unhold c.unhold.ensures.current
    (progress_in c.args.machine.now.progress c.args.task) refl c.args.next c.requires.off c.set_wait.ensures in
    record {
      can = record {
        agrees = (_, there.stands);
        free = ap (λ (k : Machine). k.objects.lock) c.set_wait.ensures ∙ can.free;
        age = subst (λ (n : ℕ). n < 2 ^ 62) (sym (ap (λ (k : Machine). k.clock.age + k.clock.held) c.set_wait.ensures)) can.age;
        depth =
            let e = ap (λ (k : Machine). k.sched.depth) c.set_wait.ensures in
            let d = c.unhold.ensures.depth in
            let one = can.held in
            omega arith;
      };
    }

pub returns-clause-does : goal.returns-clause-does
returns-clause-does c = λ log s h.
    let unhold : s.call_hold ≡ true → sched.StandsFor c.unhold.new.self (record s { call_hold = false }) =
    c.unhold.ensures.stands s h.stands.sched in
    c.release.ensures.does log _ (freed c.args.machine.now c.set_wait.new.self log s h
    c.args.task c.requires.can c.unhold.new.self unhold c.unhold.ensures.current
    (progress_in c.args.machine.now.progress c.args.task) refl c.args.next c.requires.off c.set_wait.ensures)

pub returns-clause-depth : goal.returns-clause-depth
returns-clause-depth c =
    let e = ap (λ (k : Machine). k.sched.depth) c.set_wait.ensures in
    let d = c.unhold.ensures.depth in
    let one = c.requires.can.held in
    let same = c.release.ensures.leaves.depth in
    omega arith

pub returns-clause-runs : goal.returns-clause-runs
returns-clause-runs c = λ r.
    let s = c.requires.can.call.agrees.0 in
    let h = c.requires.can.call.agrees.1 in
    let unhold : s.call_hold ≡ true → sched.StandsFor c.unhold.new.self (record s { call_hold = false }) =
    c.unhold.ensures.stands s h.sched in
    let there = c.release.ensures.does s.log _ (freed c.args.machine.now c.set_wait.new.self s.log s
    (record { stands = h; log = refl })
    c.args.task c.requires.can c.unhold.new.self unhold c.unhold.ensures.current
    (progress_in c.args.machine.now.progress c.args.task) refl c.args.next c.requires.off c.set_wait.ensures) in
    runs_on s c.args.task c.args.next
    (within c.args.machine.now s.log s (record { stands = h; log = refl }) c.args.task c.requires.can.call.current)
    c.args.machine.now c.release.new.machine r h there.stands
