use Rattle.std.proofs.Common.{◌≡◌, ◌<◌, ℕ, List, length, true, ap, get_or-set_same, refl, subst, sym, ◌∙◌, arith}
use Rattle.std.proofs.Math.ListN.{length-set}
use Rattle.model.specs.declared.call.Phase.TheVariants.{Leave}
use Rattle.model.specs.State.{State, Progress}
use Rattle.model.specs.Groups as definitions
use Rattle.model.specs.Groups.{bits_set}
use Rattle.soundness.proofs.Bits.{stays-set}
use Rattle.machine.specs.declared.machine.Machine.{Machine}
use Rattle.machine.specs.StandsFor.{At, progress_in}
use Rattle.machine.specs.Can.{AreToWake}
use Rattle.sched.specs.Schedule.{Schedule}
use Rattle.machine.proofs.Acting.{within}
use Rattle.machine.proofs.Continuing.{gone_on}
use Rattle.ops.proofs.EventBits.{held_then, met_wake, kept_length, kept_place, kept_there, placed_in, sched_kept, clock_kept}
use Rattle.ops.proofs.EventBits.{set_at, left_at}
use Rattle.ops.proofs.event_groups.begin_set.Goals as goal

pub wake_met-requires : goal.wake_met-requires
wake_met-requires c =
    let k = c.args.machine.now in
    let s = c.requires.agrees.0 in
    let h = c.requires.agrees.1 in
    let held : State = record s { call_hold = true } in
    let there =
    held_then k s.log s (record { stands = h; log = refl }) c.requires.depth
    c.hold.new.self (λ free. c.hold.ensures.stands s h.sched free) in
    record {
      free = subst (AreToWake c.hold.new.self) (sym (c.set.ensures.met held there.stands.rest.groups))
          (met_wake (record k { sched = c.hold.new.self }) held there.stands c.args.group (bits_set c.args.group c.args.mask held));
    }

pub returns-clause-does : goal.returns-clause-does
unfolding definitions.begin_set
returns-clause-does c = λ log s h.
    let k = c.args.machine.now in
    let i : ℕ = c.args.task in
    let group : ℕ = c.args.group in
    let mask : ℕ = c.args.mask in
    let held : State = record s { call_hold = true } in
    let k1 : Machine = record k { sched = c.hold.new.self } in
    let h1 = held_then k log s h c.requires.depth c.hold.new.self (λ free. c.hold.ensures.stands s h.stands.sched free) in
    let is : List ℕ = c.set.new.met.tasks.items in
    let bits : ℕ = c.set.new.met.bits in
    let met = c.set.ensures.met held h1.stands.rest.groups in
    let by = c.set.ensures.with_bits held h1.stands.rest.groups in
    let there = kept_there k1 log held h1 group mask is bits met by in
    let on = c.wake_met.ensures.ready _ (sched_kept k1 log held h1 group mask is bits met by) there in
    let awake = c.wake_met.ensures.woken _ (clock_kept k1 log held h1 group mask is bits met by) there in
    let then : At c.wake_met.new.machine log (definitions.set group mask held) =
    subst (λ (x : Machine). At x log (definitions.set group mask held)) (sym c.wake_met.ensures.kept)
    (set_at k1 log held h1 group mask is bits met by c.wake_met.new.machine.sched c.wake_met.new.machine.clock
    c.set.new.self on awake (c.set.ensures.stands held h1.stands.rest.groups)) in
    let runs =
    then.stands.sched.current ∙ (stays-set group mask held).current ∙ sym h.stands.sched.current ∙ c.requires.runs.current in
    let answered =
    left_at c.wake_met.new.machine c.keep_answer.new.self log _
    then i runs c.set.new.met.left _ (c.set.ensures.kept held h1.stands.rest.groups) c.keep_answer.ensures in
    gone_on c.keep_answer.new.self c.set_phase.new.self log _ answered i
    (ap (λ (x : Machine). x.sched.current) c.keep_answer.ensures ∙ runs) Leave c.set_phase.ensures (λ e. absurd (cc))

pub returns-clause-remains : goal.returns-clause-remains
returns-clause-remains c =
    let i : ℕ = c.args.task in
    record {
      current =
          ap (λ (x : Machine). x.sched.current) c.set_phase.ensures
          ∙ ap (λ (x : Machine). x.sched.current) c.keep_answer.ensures
          ∙ c.wake_met.ensures.current
          ∙ ap (λ (v : Schedule). v.current) c.hold.ensures.schedule;
      op_index =
          ap (λ (x : Machine). (progress_in x.progress i).op_index) c.set_phase.ensures
          ∙ placed_in _ c.keep_answer.new.self.progress i
          ∙ ap (λ (x : Machine). (progress_in x.progress i).op_index) c.keep_answer.ensures
          ∙ placed_in _ c.wake_met.new.machine.progress i
          ∙ ap (λ (x : Machine). (progress_in x.progress i).op_index) c.wake_met.ensures.kept
          ∙ kept_place c.set.new.met.bits c.set.new.met.tasks.items c.args.machine.now.progress i;
      suspensions =
          ap (λ (x : Machine). x.sched.suspensions) c.set_phase.ensures
          ∙ ap (λ (x : Machine). x.sched.suspensions) c.keep_answer.ensures
          ∙ c.wake_met.ensures.suspensions
          ∙ ap (λ (v : Schedule). v.suspensions) c.hold.ensures.schedule;
    }

pub returns-clause-reached : goal.returns-clause-reached
returns-clause-reached c =
    let i : ℕ = c.args.task in
    let k : Machine = c.args.machine.now in
    let s = c.requires.agrees.0 in
    let h = c.requires.agrees.1 in
    let long : length c.keep_answer.new.self.progress ≡ length k.progress =
    ap (λ (x : Machine). length x.progress) c.keep_answer.ensures
    ∙ length-set c.wake_met.new.machine.progress i _
    ∙ ap (λ (x : Machine). length x.progress) c.wake_met.ensures.kept
    ∙ kept_length c.set.new.met.bits c.set.new.met.tasks.items k.progress in
    let there : i < length c.keep_answer.new.self.progress =
    (let n = h.rest.full in let few = h.sched.table.few in
    let m = within k s.log s (record { stands = h; log = refl }) i c.requires.runs.current in omega arith) in
    ap (λ (x : Machine). (progress_in x.progress i).call.phase) c.set_phase.ensures
    ∙ ap (λ (p : Progress). p.call.phase) (get_or-set_same c.keep_answer.new.self.progress i _ _ there)
