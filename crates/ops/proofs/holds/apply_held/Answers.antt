use Rattle.std.proofs.Common.{◌≡◌, ℕ, subst, arith}
use Rattle.model.specs.Time.{apply_held}
use Rattle.machine.specs.StandsFor.{At}
use Rattle.ops.proofs.Calling.{leaves_same, leaves_both}
use Rattle.ops.proofs.Held.{can_apply, held_left, applied_more}
use Rattle.ops.proofs.holds.apply_held.Goals as goal

pub loop-init : goal.loop-init
loop-init c = record { does = λ log s h. h; leaves = leaves_same c.args.machine.now }

pub apply_one-requires-clause-some : goal.apply_one-requires-clause-some
apply_one-requires-clause-some c =
    let left =
    held_left c.args.machine.now c.loop.machine c.requires.can c.loop.counter c.loop.invariant.does c.loop.invariant.leaves in
    let l = c.loop-test.true in
    let e = c.held-end.ensures.held in
    omega arith

pub apply_one-requires-clause-can : goal.apply_one-requires-clause-can
apply_one-requires-clause-can c =
    can_apply c.args.machine.now c.loop.machine c.requires.can c.loop.counter c.loop.invariant.does c.loop.invariant.leaves

pub loop-preserved : goal.loop-preserved
loop-preserved c = record {
  does = λ log s h.
      applied_more c.apply_one.new.machine log c.loop.counter s (c.apply_one.ensures.does log _ (c.loop.invariant.does log s h));
  leaves = leaves_both c.args.machine.now c.loop.machine c.apply_one.new.machine c.loop.invariant.leaves c.apply_one.ensures.leaves;
}

pub returns-clause-does : goal.returns-clause-does
returns-clause-does c = λ log s h.
    let end = c.loop.auto.counter-end in
    let past = c.loop-test.false in
    let many = c.held-end.ensures.held in
    let held = h.stands.rest.clock.held in
    let same : c.loop.counter ≡ s.held_ticks = omega arith in
    subst (λ (n : ℕ). At c.loop.machine log (apply_held n s)) same (c.loop.invariant.does log s h)

pub returns-clause-leaves : goal.returns-clause-leaves
returns-clause-leaves c = c.loop.invariant.leaves
