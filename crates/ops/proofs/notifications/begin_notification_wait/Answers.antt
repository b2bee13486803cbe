use Rattle.std.proofs.Common.{ℕ, ◌+◌, ◌<◌, length, get_or-set_same, ap, refl, sym, ◌∙◌, arith}
use Rattle.std.specs.Option.{option_map}
use Rattle.model.specs.declared.call.Phase.TheVariants.{Leave}
use Rattle.model.specs.Notifications as definitions
use Rattle.model.specs.State.{Progress}
use Rattle.sched.specs.Schedule.{Schedule}
use Rattle.clock.specs.Timeline.{Timeline}
use Rattle.machine.specs.declared.machine.Machine.{Machine}
use Rattle.machine.specs.StandsFor.{progress_in}
use Rattle.machine.proofs.Acting.{within}
use Rattle.machine.proofs.Continuing.{gone_on}
use Rattle.ops.proofs.Notifying.{timed_from, unasleep, unlisted, waits_notified}
use Rattle.ops.proofs.notifications.begin_notification_wait.Goals as goal

pub place_for_notification-requires : goal.place_for_notification-requires
place_for_notification-requires c =
    let s = c.requires.can.agrees.0 in
    let h = c.requires.can.agrees.1 in
    let w =
    timed_from c.args.machine.now s.log s (record { stands = h; log = refl }) c.args.task c.requires.can c.hold.new.self
    c.hold.ensures.calm c.hold.ensures.schedule (λ free. c.hold.ensures.stands s h.sched free) c.set_deadline.new.self
    c.args.ticks c.set_deadline.ensures.does c.set_deadline.ensures.parts.0 in
    record { free = unlisted c.set_deadline.new.self s.log _ w.at c.args.task w.runs w.ready }

pub place_sleeper_for-requires-clause-awake : goal.place_sleeper_for-requires-clause-awake
place_sleeper_for-requires-clause-awake c =
    let s = c.requires.can.agrees.0 in
    let h = c.requires.can.agrees.1 in
    let w =
    timed_from c.args.machine.now s.log s (record { stands = h; log = refl }) c.args.task c.requires.can c.hold.new.self
    c.hold.ensures.calm c.hold.ensures.schedule (λ free. c.hold.ensures.stands s h.sched free) c.set_deadline.new.self
    c.args.ticks c.set_deadline.ensures.does c.set_deadline.ensures.parts.0 in
    unasleep c.set_deadline.new.self s.log _ w.at c.args.task w.runs w.ready

pub returns-clause-does : goal.returns-clause-does
unfolding definitions.begin_notification_wait
returns-clause-does c = λ log s h.
    let i = c.args.task in
    let timed = c.set_deadline.new.self in
    let w =
    timed_from c.args.machine.now log s h i c.requires.can c.hold.new.self c.hold.ensures.calm c.hold.ensures.schedule
    (λ free. c.hold.ensures.stands s h.stands.sched free) timed c.args.ticks c.set_deadline.ensures.does
    c.set_deadline.ensures.parts.0 in
    let now = ap (λ (t : Timeline). t.now) c.set_deadline.ensures.clock in
    let until = ap (λ (m : ℕ). option_map (λ n. m + n) c.args.ticks) now ∙ sym c.set_deadline.ensures.deadline in
    let waits =
    waits_notified timed log _ w.at i w.runs w.ready w.calm c.block.new.self c.place_sleeper_for.new.clock
    c.place_for_notification.new.self (option_map (λ n. timed.clock.now + n) c.args.ticks) until
    (c.block.ensures.placed _) (c.place_sleeper_for.ensures _)
    (c.place_for_notification.ensures.stands _ w.at.stands.rest.groups w.within) in
    gone_on _ c.set_phase.new.self log _ waits i (ap (λ (v : Schedule). v.current) c.block.ensures.schedule ∙ w.runs)
    Leave c.set_phase.ensures (λ e. absurd (cc))

pub returns-clause-reached : goal.returns-clause-reached
returns-clause-reached c =
    let i : ℕ = c.args.task in
    let s = c.requires.can.agrees.0 in
    let h = c.requires.can.agrees.1 in
    let timed = c.set_deadline.new.self in
    let w =
    timed_from c.args.machine.now s.log s (record { stands = h; log = refl }) i c.requires.can c.hold.new.self
    c.hold.ensures.calm c.hold.ensures.schedule (λ free. c.hold.ensures.stands s h.sched free) timed
    c.args.ticks c.set_deadline.ensures.does c.set_deadline.ensures.parts.0 in
    let there : i < length timed.progress =
    (let n = w.at.stands.rest.full in let few = w.at.stands.sched.table.few in
    let m = within timed s.log _ w.at i w.runs in omega arith) in
    ap (λ (x : Machine). (progress_in x.progress i).call.phase) c.set_phase.ensures
    ∙ ap (λ (p : Progress). p.call.phase) (get_or-set_same timed.progress i _ _ there)
