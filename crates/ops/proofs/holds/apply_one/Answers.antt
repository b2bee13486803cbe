use Rattle.std.proofs.Common.{ap, arith, refl}
use Rattle.clock.specs.Timeline.{Timeline}
use Rattle.machine.proofs.Waking.{ticks_not_held}
use Rattle.ops.proofs.Held.{released, applied_now}
use Rattle.ops.proofs.holds.apply_one.Goals as goal

pub advance-requires : goal.advance-requires
advance-requires c =
    let can = c.requires.can in
    let s = can.agrees.0 in
    let back =
    released c.args.machine.now s.log s (record { stands = can.agrees.1; log = refl })
    c.release.new.self (let held = can.agrees.1.rest.clock.held in let some = c.requires.some in omega (arith, held, some))
    (c.release.ensures.stands s can.agrees.1.rest.clock) in
    record {
      agrees = (_, back.stands);
      free = can.free;
      age = let e = ap (λ (t : Timeline). t.age) c.release.ensures.released in let l = can.age in omega arith;
      depth = can.depth;
    }

pub returns-clause-does : goal.returns-clause-does
returns-clause-does c = λ log s h.
    let some = c.requires.some in
    let e = h.stands.rest.clock.age in
    applied_now c.advance.new.self log s
    (ticks_not_held c.args.machine.now.sched s h.stands.sched c.requires.can.depth) (omega arith)
    (c.advance.ensures.does log _
    (released c.args.machine.now log s h c.release.new.self
    (let held = h.stands.rest.clock.held in omega (arith, held, some)) (c.release.ensures.stands s h.stands.rest.clock)))

pub returns-clause-leaves : goal.returns-clause-leaves
returns-clause-leaves c =
    record { depth = c.advance.ensures.leaves.depth; objects = c.advance.ensures.leaves.objects }
