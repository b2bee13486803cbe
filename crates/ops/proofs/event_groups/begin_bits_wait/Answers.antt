use Rattle.std.proofs.Common.{ℕ, ◌+◌, ◌<◌, Some, length, get_or-set_same, ap, refl, sym, ◌∙◌, arith}
use Rattle.std.specs.Option.{option_map}
use Rattle.model.specs.declared.call.Phase.TheVariants.{Leave}
use Rattle.model.specs.Groups as definitions
use Rattle.model.specs.State.{Progress}
use Rattle.sched.specs.Schedule.{Schedule}
use Rattle.clock.specs.Timeline.{Timeline}
use Rattle.machine.specs.declared.machine.Machine.{Machine}
use Rattle.machine.specs.StandsFor.{progress_in}
use Rattle.machine.proofs.Acting.{within}
use Rattle.machine.proofs.Continuing.{gone_on}
use Rattle.ops.proofs.EventBits.{deadline_in, wanting, waits_at}
use Rattle.ops.proofs.event_groups.begin_bits_wait.Goals as goal

pub place-requires : goal.place-requires
place-requires c =
    let s = c.requires.can.agrees.0 in
    let h = c.requires.can.agrees.1 in
    let w =
    wanting c.args.machine.now s.log s (record { stands = h; log = refl }) c.args.task c.requires.can c.hold.new.self
    c.hold.ensures.calm c.hold.ensures.schedule (λ free. c.hold.ensures.stands s h.sched free) c.set_deadline.new.self
    c.args.ticks c.set_deadline.ensures.does c.set_deadline.ensures.parts.0 c.want.new.self c.args.condition.now c.want.ensures in
    record { free = w.free }

pub place_sleeper_for-requires-clause-awake : goal.place_sleeper_for-requires-clause-awake
place_sleeper_for-requires-clause-awake c =
    let s = c.requires.can.agrees.0 in
    let h = c.requires.can.agrees.1 in
    let w =
    wanting c.args.machine.now s.log s (record { stands = h; log = refl }) c.args.task c.requires.can c.hold.new.self
    c.hold.ensures.calm c.hold.ensures.schedule (λ free. c.hold.ensures.stands s h.sched free) c.set_deadline.new.self
    c.args.ticks c.set_deadline.ensures.does c.set_deadline.ensures.parts.0 c.want.new.self c.args.condition.now c.want.ensures in
    w.awake

pub returns-clause-does : goal.returns-clause-does
unfolding definitions.begin_bits_wait
returns-clause-does c = λ log s h.
    let i = c.args.task in
    let w =
    wanting c.args.machine.now log s h i c.requires.can c.hold.new.self c.hold.ensures.calm c.hold.ensures.schedule
    (λ free. c.hold.ensures.stands s h.stands.sched free) c.set_deadline.new.self c.args.ticks
    c.set_deadline.ensures.does c.set_deadline.ensures.parts.0 c.want.new.self c.args.condition.now c.want.ensures in
    let deadline = ap (λ (x : Machine). (progress_in x.progress i).call.deadline) c.want.ensures
    ∙ deadline_in (Some c.args.condition.now) c.set_deadline.new.self.progress i
    ∙ c.set_deadline.ensures.deadline in
    let now = ap (λ (x : Machine). x.clock.now) c.want.ensures ∙ ap (λ (t : Timeline). t.now) c.set_deadline.ensures.clock in
    let until = ap (λ (m : ℕ). option_map (λ n. m + n) c.args.ticks) now ∙ sym deadline in
    let waits =
    waits_at c.want.new.self log _ w.at i w.runs w.ready c.args.group w.calm c.block.new.self c.place_sleeper_for.new.clock
    c.place.new.self (option_map (λ n. c.want.new.self.clock.now + n) c.args.ticks) until
    (c.block.ensures.placed _) (c.place_sleeper_for.ensures _) (c.place.ensures.stands _ w.groups w.within) in
    gone_on _ c.set_phase.new.self log _ waits i (ap (λ (v : Schedule). v.current) c.block.ensures.schedule ∙ w.runs)
    Leave c.set_phase.ensures (λ e. absurd (cc))

pub returns-clause-reached : goal.returns-clause-reached
returns-clause-reached c =
    let i : ℕ = c.args.task in
    let s = c.requires.can.agrees.0 in
    let h = c.requires.can.agrees.1 in
    let w =
    wanting c.args.machine.now s.log s (record { stands = h; log = refl }) i c.requires.can c.hold.new.self
    c.hold.ensures.calm c.hold.ensures.schedule (λ free. c.hold.ensures.stands s h.sched free) c.set_deadline.new.self
    c.args.ticks c.set_deadline.ensures.does c.set_deadline.ensures.parts.0 c.want.new.self c.args.condition.now c.want.ensures in
    let there : i < length c.want.new.self.progress =
    (let n = w.at.stands.rest.full in let few = w.at.stands.sched.table.few in
    let m = within c.want.new.self s.log _ w.at i w.runs in omega arith) in
    ap (λ (x : Machine). (progress_in x.progress i).call.phase) c.set_phase.ensures
    ∙ ap (λ (p : Progress). p.call.phase) (get_or-set_same c.want.new.self.progress i _ _ there)
