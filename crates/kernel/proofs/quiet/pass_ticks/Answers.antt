use Rattle.std.proofs.Common.{◌≡◌, ◌+◌, ◌-◌, ◌<◌, ℕ, suc, [], refl, subst, arith}
use Rattle.model.specs.Run.{state_after}
use Rattle.kernel.specs.Along.{IsFree}
use Rattle.kernel.specs.Quiet.{IsQuiet}
use Rattle.kernel.proofs.Along.{free_next, tells_a_step, tells_nothing, tells_then}
use Rattle.kernel.proofs.Ticking.{asleep_once, one_passed, quiet_on, quiet_stays, silent, stands_passed, turn_once, used_once}
use Rattle.kernel.proofs.quiet.pass_ticks.Goals as goal

pub pass_tick-requires-clause-age : goal.pass_tick-requires-clause-age
pass_tick-requires-clause-age c =
    let on = c.loop-test.true in
    let low = (c.loop.invariant.quiet (c.args.count - c.loop.counter - 1) (omega arith)).ticks in
    let most = c.well_formed-3.ensures.1 in
    omega arith

pub pass_tick-requires-clause-asleep : goal.pass_tick-requires-clause-asleep
pass_tick-requires-clause-asleep c =
    let on = c.loop-test.true in
    asleep_once c.args.app.now c.args.limits.now (c.args.count - c.loop.counter - 1)
    c.loop.kernel (c.loop.invariant.quiet (c.args.count - c.loop.counter - 1) (omega arith))

pub pass_tick-requires-clause-turn : goal.pass_tick-requires-clause-turn
pass_tick-requires-clause-turn c =
    let on = c.loop-test.true in
    turn_once c.args.app.now c.args.limits.now (c.args.count - c.loop.counter - 1) c.loop.kernel
    (c.loop.invariant.quiet (c.args.count - c.loop.counter - 1) (omega arith))

pub pass_tick-requires-clause-used : goal.pass_tick-requires-clause-used
pass_tick-requires-clause-used c =
    let on = c.loop-test.true in
    used_once c.args.app.now c.args.limits.now (c.args.count - c.loop.counter - 1) c.loop.kernel
    (c.loop.invariant.quiet (c.args.count - c.loop.counter - 1) (omega arith))

pub loop-init : goal.loop-init
loop-init c = record {
  along = tells_nothing refl;
  quiet = λ n e.
      subst (λ (m : ℕ). IsQuiet c.args.app.now c.args.limits.now m c.args.kernel.now)
      (let same : c.args.count ≡ suc n = omega arith in same) (c.requires.quiet (omega arith));
  steps = omega arith;
}

pub loop-preserved : goal.loop-preserved
loop-preserved c =
    let on = c.loop-test.true in
    let at = c.loop.invariant.steps in
    let left : ℕ = c.args.count - c.loop.counter - 1 in
    let q : IsQuiet c.args.app.now c.args.limits.now (suc left) c.loop.kernel = c.loop.invariant.quiet left (omega arith) in
    let free : IsFree c.args.app.now c.args.limits.now
    (c.args.kernel.now.steps + c.args.count) c.loop.kernel c.args.injections.now =
    free_next c.loop.invariant.along.to c.requires.free in
    let short : c.loop.kernel.steps < c.args.kernel.now.steps + c.args.count = omega arith in
    let more = one_passed c.args.app.now c.args.limits.now left c.loop.kernel c.pass_tick.new.machine q c.pass_tick.ensures in
    record {
      along = tells_then c.loop.invariant.along
          (tells_a_step c.args.app.now c.well_formed-2.ensures c.args.limits.now c.well_formed-3.ensures
          (c.args.kernel.now.steps + c.args.count) c.loop.kernel c.pass_tick.new.machine short
          (λ plan f.
          quiet_on c.args.app.now c.args.limits.now left c.loop.kernel q
          (state_after c.args.app.now c.args.limits.now plan c.loop.kernel.steps) f.way.stands)
          (stands_passed c.args.app.now c.args.limits.now left c.loop.kernel c.pass_tick.new.machine q c.pass_tick.ensures)
          free [] []
          (silent c.args.app.now c.args.limits.now left c.loop.kernel q c.pass_tick.new.machine.clock c.pass_tick.ensures.clock));
      quiet = λ n e.
          subst (λ (m : ℕ). IsQuiet c.args.app.now c.args.limits.now m c.pass_tick.new.machine)
          (let same : left ≡ suc n = omega arith in same)
          (quiet_stays c.args.app.now c.args.limits.now left c.loop.kernel c.pass_tick.new.machine q c.pass_tick.ensures
          (state_after c.args.app.now c.args.limits.now c.args.injections.now c.loop.kernel.steps) free.way.stands);
      steps = omega arith;
    }
