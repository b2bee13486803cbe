use Rattle.std.proofs.Common.{ℕ, List, ◌++◌}
use Rattle.sched.specs.StandsFor as sched
use Rattle.clock.specs.StandsFor as clock
use Rattle.objects.specs.WaitersStand.{opened}
use Rattle.ops.proofs.Unlocking.{are_to_wake, receivers_within, senders_within, front_wakes, none_by, sched_opened, clock_opened}
use Rattle.ops.proofs.Unlocking.{unlocked_at, still_unlocked, in_turn}
use Rattle.machine.proofs.Waking.{still_there}
use Rattle.ops.proofs.calls.unlock_and_wake.Goals as goal

pub wake_all-requires : goal.wake_all-requires
wake_all-requires c =
    let s = c.requires.0 in
    let h = c.requires.1 in
    let a = c.in-Some.ensures.awakened s h.rest.objects in
    let all = are_to_wake c.args.machine.now s h a.0 c.in-Some.unlocked.to_receive.items c.in-Some.unlocked.to_send.items a.2 in
    rw c.as_slice.ensures.value
    (front_wakes c.args.machine.now.sched c.in-Some.unlocked.to_receive.items c.in-Some.unlocked.to_send.items all)

pub wake_all-requires-in-Some : goal.wake_all-requires-in-Some
wake_all-requires-in-Some c =
    let s = c.requires.0 in
    let h = c.requires.1 in
    let a = c.in-Some.ensures.awakened s h.rest.objects in
    let all = are_to_wake c.args.machine.now s h a.0 c.in-Some.unlocked.to_receive.items c.in-Some.unlocked.to_send.items a.2 in
    c.wake_all.ensures.rest c.as_slice-in-Some.result.now (rw (c.as_slice.ensures.value, c.as_slice-in-Some.ensures.value) all)

pub returns-in-Some-clause-does : goal.returns-in-Some-clause-does
returns-in-Some-clause-does c = λ log s h.
    let k = c.args.machine.now in
    let a = c.in-Some.ensures.awakened s h.stands.rest.objects in
    let xs : List ℕ = c.in-Some.unlocked.to_receive.items in
    let ys : List ℕ = c.in-Some.unlocked.to_send.items in
    let xs_in = receivers_within k s h.stands a.0 xs ys a.2 in
    let ys_in = senders_within k s h.stands a.0 xs ys a.2 in
    let on = c.wake_all.ensures.ready (opened s) (sched_opened k log s h) (rw c.as_slice.ensures.value xs_in) in
    let on_both =
    c.wake_all-in-Some.ensures.ready _ on
    (rw c.as_slice-in-Some.ensures.value (still_there (opened s) c.as_slice.result.now ys ys_in)) in
    let awake = c.wake_all.ensures.woken (opened s) (clock_opened k log s h) (rw c.as_slice.ensures.value xs_in) in
    let awake_both =
    c.wake_all-in-Some.ensures.woken _ awake
    (rw c.as_slice-in-Some.ensures.value (still_there (opened s) c.as_slice.result.now ys ys_in)) in
    unlocked_at k log s h (xs ++ ys) c.wake_all-in-Some.new.sched c.wake_all-in-Some.new.clock c.unlock.new.self
    (c.in-Some.ensures.woken s h.stands.rest.objects)
    (in_turn (sched.StandsFor c.wake_all-in-Some.new.sched) (opened s) xs ys
    (rw (c.as_slice.ensures.value, c.as_slice-in-Some.ensures.value) at on_both))
    (in_turn (clock.StandsFor c.wake_all-in-Some.new.clock) (opened s) xs ys
    (rw (c.as_slice.ensures.value, c.as_slice-in-Some.ensures.value) at awake_both))
    (c.in-Some.ensures.stands s h.stands.rest.objects)

pub returns-in_default-clause-does : goal.returns-in_default-clause-does
returns-in_default-clause-does c = λ log s h.
    still_unlocked c.args.machine.now log s h (none_by c.args.machine.now.objects.lock c.in_default.ensures.locked.1)
    c.unlock.new.self (c.in_default.ensures.stands s h.stands.rest.objects)
