use Rattle.std.proofs.Common.{◌≡◌, ◌≢◌, ◌≤◌, suc, None, List, length, sym, ap, subst, ◌∙◌, arith}
use Rattle.std.proofs.lemmas.Result.{err_from_is_err_and}
use Rattle.model.specs.Application.{Definition}
use Rattle.model.specs.Run.{end_of, state_after}
use Rattle.machine.specs.declared.machine.Machine.{Machine}
use Rattle.machine.specs.Logged.{all_of}
use Rattle.machine.specs.Can.{IsUnderWay}
use Rattle.machine.proofs.Either.{elapsed_is, steps_are}
use Rattle.machine.proofs.Pending.{none_of_any}
use Rattle.kernel.specs.Along.{IsFree}
use Rattle.kernel.specs.Leads.{IsLed, IsPast}
use Rattle.kernel.proofs.Along.{free_of_limits}
use Rattle.kernel.proofs.Alike.{blank_on_the_way}
use Rattle.kernel.proofs.Holds.{below_limits}
use Rattle.kernel.proofs.Leading.{end_here, led_here, led_on, led_step, led_then, one_there, past_on, some_there, way_there}
use Rattle.kernel.proofs.Running.{can_step, extends_on, moves_on, no_further, told_some}
use Rattle.kernel.proofs.rests.go_far.Goals as goal

pub steps-init : goal.steps-init
steps-init c =
    let seen = ap (λ (k : Machine). k.steps) c.kernel.view_is in
    let ahead = c.requires.ahead in
    record {
      led =
          subst (λ (k : Machine).
          IsLed c.args.app.now c.args.limits.now c.args.kernel.now k (all_of c.args.trail.now) (all_of c.args.trail.now))
          (sym c.kernel.view_is)
          (led_here c.args.app.now c.args.limits.now c.args.kernel.now (all_of c.args.trail.now));
      far = omega (arith, seen, ahead);
      meter = omega (arith, seen);
    }

pub returns-in-Some-clause-end : goal.returns-in-Some-clause-end
returns-in-Some-clause-end c =
    end_here c.args.app.now c.args.limits.now c.steps.machine c.elapsed.result
    c.elapsed.ensures.elapsed c.in-Some.end c.in-Some.ensures

pub returns-then-machine-until-clause-goes : goal.returns-then-machine-until-clause-goes
returns-then-machine-until-clause-goes c =
    let way : IsUnderWay c.args.app.now c.args.injections.now c.args.limits.now c.steps.machine =
    c.steps.invariant.led.leads.way c.args.injections.now (record { way = c.requires.way; past = c.requires.past }) in
    λ none.
    ap (λ n. end_of c.args.app.now c.args.limits.now (state_after c.args.app.now c.args.limits.now c.args.injections.now n))
    (sym c.if-machine-until.true)
    ∙ sym (c.in_default.ensures _ way.stands)

pub go_on-requires-clause-free : goal.go_on-requires-clause-free
go_on-requires-clause-free c =
    let on = c.steps.invariant.led.leads.on in
    free_of_limits c.args.app.now c.args.limits.now c.free_until-stop.result c.steps.machine c.args.injections.now
    (c.steps.invariant.led.leads.way c.args.injections.now (record { way = c.requires.way; past = c.requires.past }))
    (λ n from below. c.requires.past n (omega arith)) c.free_until-stop.ensures.ticks c.free_until-stop.ensures.steps
    (none_of_any c.steps.machine.sources.pending (sym c.any_pending.ensures ∙ c.if-any_pending.false))

pub steps-smaller : goal.steps-smaller
steps-smaller c =
    let way : IsUnderWay c.args.app.now c.args.injections.now c.args.limits.now c.steps.machine =
    c.steps.invariant.led.leads.way c.args.injections.now (record { way = c.requires.way; past = c.requires.past }) in
    let on : end_of c.args.app.now c.args.limits.now
    (state_after c.args.app.now c.args.limits.now c.args.injections.now c.steps.machine.steps)
    ≡ None =
    sym (c.in_default.ensures _ way.stands) in
    let far = c.steps.invariant.far in
    let short : c.steps.machine.steps ≢ c.args.until = c.if-machine-until.false in
    let limits =
    below_limits c.args.app.now c.args.limits.now
    (state_after c.args.app.now c.args.limits.now c.args.injections.now c.steps.machine.steps) on in
    let early = limits.0 in
    let few = limits.1 in
    let elapsed =
    elapsed_is c.steps.machine
    (state_after c.args.app.now c.args.limits.now c.args.injections.now c.steps.machine.steps) way.stands in
    let done =
    steps_are c.steps.machine
    (state_after c.args.app.now c.args.limits.now c.args.injections.now c.steps.machine.steps) way.stands in
    let more : suc c.steps.machine.steps ≤ c.free_until-stop.result =
    c.free_until-stop.ensures.most (suc c.steps.machine.steps) (omega arith) (omega arith) (omega arith) (omega arith) in
    let passed = c.go_on.ensures.to.on in
    let moved =
    moves_on c.args.app.now c.args.injections.now c.args.limits.now c.steps.machine c.go_on.new.kernel
    c.free_until-stop.result (omega arith) (omega arith) on c.in_ok-go_on.ensures.there in
    let stop = c.go_on.ensures.to.far c.free_until-stop.ensures.ahead in
    let until = c.free_until-stop.ensures.far in
    omega arith

pub steps-preserved : goal.steps-preserved
steps-preserved c =
    let led = c.steps.invariant.led in
    let past : IsPast c.args.app.now c.args.limits.now c.steps.machine c.args.injections.now =
    past_on c.args.app.now c.args.limits.now c.args.kernel.now c.steps.machine led.own led.leads
    c.args.injections.now (record { way = c.requires.way; past = c.requires.past }) in
    let before = c.steps.invariant.meter in
    let after = c.go_on.ensures.meter in
    let stop = c.go_on.ensures.to.far c.free_until-stop.ensures.ahead in
    let until = c.free_until-stop.ensures.far in
    record {
      led =
          led_then c.args.app.now c.args.limits.now c.args.kernel.now c.steps.machine c.go_on.new.kernel
          (all_of c.args.trail.now) (all_of c.steps.trail) (all_of c.go_on.new.trail) led
          (led_on c.args.app.now c.args.limits.now c.free_until-stop.result c.steps.machine c.go_on.new.kernel
          (all_of c.steps.trail) (all_of c.go_on.new.trail) c.free_until-stop.ensures.ticks
          c.free_until-stop.ensures.steps c.in_ok-go_on.ensures.along
          (none_of_any c.steps.machine.sources.pending (sym c.any_pending.ensures ∙ c.if-any_pending.false))
          c.args.injections.now past);
      far = omega arith;
      meter = omega arith;
    }

pub returns-in_err-go_on-clause-way : goal.returns-in_err-go_on-clause-way
returns-in_err-go_on-clause-way c =
    let on = c.steps.invariant.led.leads.on in
    let free : IsFree c.args.app.now c.args.limits.now c.free_until-stop.result c.steps.machine c.args.injections.now =
    free_of_limits c.args.app.now c.args.limits.now c.free_until-stop.result c.steps.machine c.args.injections.now
    (c.steps.invariant.led.leads.way c.args.injections.now (record { way = c.requires.way; past = c.requires.past }))
    (λ n from below. c.requires.past n (omega arith)) c.free_until-stop.ensures.ticks c.free_until-stop.ensures.steps
    (none_of_any c.steps.machine.sources.pending (sym c.any_pending.ensures ∙ c.if-any_pending.false)) in
    c.go_on.ensures.to.way c.args.injections.now free

pub returns-in_err-go_on-clause-kept : goal.returns-in_err-go_on-clause-kept
returns-in_err-go_on-clause-kept c =
    let p = err_from_is_err_and c.from_residual-in_err-go_on.result c.from_residual-in_err-go_on.ensures.1 in
    let led = c.steps.invariant.led in
    rw p.1 (extends_on (all_of c.args.trail.now) (all_of c.steps.trail)
    (all_of c.go_on.new.trail) led.own led.kept c.in_err-go_on.ensures.kept)

pub returns-in_err-go_on-clause-refused : goal.returns-in_err-go_on-clause-refused
returns-in_err-go_on-clause-refused c =
    let on = c.steps.invariant.led.leads.on in
    let free : IsFree c.args.app.now c.args.limits.now c.free_until-stop.result c.steps.machine c.args.injections.now =
    free_of_limits c.args.app.now c.args.limits.now c.free_until-stop.result c.steps.machine c.args.injections.now
    (c.steps.invariant.led.leads.way c.args.injections.now (record { way = c.requires.way; past = c.requires.past }))
    (λ n from below. c.requires.past n (omega arith)) c.free_until-stop.ensures.ticks c.free_until-stop.ensures.steps
    (none_of_any c.steps.machine.sources.pending (sym c.any_pending.ensures ∙ c.if-any_pending.false)) in
    let way : IsUnderWay c.args.app.now c.args.injections.now c.args.limits.now c.go_on.new.kernel =
    c.go_on.ensures.to.way c.args.injections.now free in
    let p = err_from_is_err_and c.from_residual-in_err-go_on.result c.from_residual-in_err-go_on.ensures.1 in
    rw p.1 (λ run is. (
      no_further c.args.app.now c.args.injections.now c.args.limits.now c.go_on.new.kernel way run is,
      told_some c.args.app.now c.args.injections.now c.args.limits.now c.go_on.new.kernel way run is c.in_err-go_on.ensures.memory,
    ))

pub invariant_of-kernel : goal.invariant_of-kernel
invariant_of-kernel c = λ task behind.
    blank_on_the_way c.args.app.now c.well_formed-2.ensures c.args.limits.now c.args.injections.now c.steps.machine
    (c.steps.invariant.led.leads.way c.args.injections.now (record { way = c.requires.way; past = c.requires.past }))
    task (subst (λ (ts : List Definition). length ts ≤ task) c.tasks.ensures behind)

pub invariant_of-kernel-then-machine-until : goal.invariant_of-kernel-then-machine-until
invariant_of-kernel-then-machine-until c = λ task behind.
    blank_on_the_way c.args.app.now c.well_formed-2.ensures c.args.limits.now c.args.injections.now c.steps.machine
    (c.steps.invariant.led.leads.way c.args.injections.now (record { way = c.requires.way; past = c.requires.past }))
    task (subst (λ (ts : List Definition). length ts ≤ task) c.tasks.ensures behind)

pub invariant_of-kernel-in_err-go_on : goal.invariant_of-kernel-in_err-go_on
invariant_of-kernel-in_err-go_on c = λ task behind.
    let on = c.steps.invariant.led.leads.on in
    let free : IsFree c.args.app.now c.args.limits.now c.free_until-stop.result c.steps.machine c.args.injections.now =
    free_of_limits c.args.app.now c.args.limits.now c.free_until-stop.result c.steps.machine c.args.injections.now
    (c.steps.invariant.led.leads.way c.args.injections.now (record { way = c.requires.way; past = c.requires.past }))
    (λ n from below. c.requires.past n (omega arith)) c.free_until-stop.ensures.ticks c.free_until-stop.ensures.steps
    (none_of_any c.steps.machine.sources.pending (sym c.any_pending.ensures ∙ c.if-any_pending.false)) in
    blank_on_the_way c.args.app.now c.well_formed-2.ensures c.args.limits.now c.args.injections.now c.go_on.new.kernel
    (c.go_on.ensures.to.way c.args.injections.now free) task
    (subst (λ (ts : List Definition). length ts ≤ task) c.tasks.ensures behind)

-- ---- a step with what is pending

pub step_to_trail-requires-clause-going : goal.step_to_trail-requires-clause-going
step_to_trail-requires-clause-going c =
    let way : IsUnderWay c.args.app.now c.args.injections.now c.args.limits.now c.steps.machine =
    c.steps.invariant.led.leads.way c.args.injections.now (record { way = c.requires.way; past = c.requires.past }) in
    can_step c.args.app.now c.well_formed-2.ensures c.args.injections.now c.args.limits.now c.well_formed-3.ensures
    c.steps.machine way (sym (c.in_default.ensures _ way.stands))

pub returns-in_err-step_to_trail-clause-way : goal.returns-in_err-step_to_trail-clause-way
returns-in_err-step_to_trail-clause-way c =
    let led = c.steps.invariant.led in
    let is : IsPast c.args.app.now c.args.limits.now c.steps.machine c.args.injections.now =
    past_on c.args.app.now c.args.limits.now c.args.kernel.now c.steps.machine led.own led.leads
    c.args.injections.now (record { way = c.requires.way; past = c.requires.past }) in
    way_there c.args.app.now c.args.limits.now c.well_formed-2.ensures c.well_formed-3.ensures c.steps.machine
    c.step_to_trail.new.kernel c.in_default.ensures c.in_err-step_to_trail.ensures.stands c.args.injections.now is

pub returns-in_err-step_to_trail-clause-on : goal.returns-in_err-step_to_trail-clause-on
returns-in_err-step_to_trail-clause-on c =
    let led = c.steps.invariant.led in
    let is : IsPast c.args.app.now c.args.limits.now c.steps.machine c.args.injections.now =
    past_on c.args.app.now c.args.limits.now c.args.kernel.now c.steps.machine led.own led.leads
    c.args.injections.now (record { way = c.requires.way; past = c.requires.past }) in
    let one =
    one_there c.args.app.now c.args.limits.now c.well_formed-2.ensures c.well_formed-3.ensures c.steps.machine
    c.step_to_trail.new.kernel c.in_default.ensures c.in_err-step_to_trail.ensures.stands c.args.injections.now is in
    let on = led.leads.on in
    omega arith

pub returns-in_err-step_to_trail-clause-far : goal.returns-in_err-step_to_trail-clause-far
returns-in_err-step_to_trail-clause-far c =
    let led = c.steps.invariant.led in
    let is : IsPast c.args.app.now c.args.limits.now c.steps.machine c.args.injections.now =
    past_on c.args.app.now c.args.limits.now c.args.kernel.now c.steps.machine led.own led.leads
    c.args.injections.now (record { way = c.requires.way; past = c.requires.past }) in
    let one =
    one_there c.args.app.now c.args.limits.now c.well_formed-2.ensures c.well_formed-3.ensures c.steps.machine
    c.step_to_trail.new.kernel c.in_default.ensures c.in_err-step_to_trail.ensures.stands c.args.injections.now is in
    let far = c.steps.invariant.far in
    let short : c.steps.machine.steps ≢ c.args.until = c.if-machine-until.false in
    omega (arith, one, far, short)

pub returns-in_err-step_to_trail-clause-meter : goal.returns-in_err-step_to_trail-clause-meter
returns-in_err-step_to_trail-clause-meter c =
    let led = c.steps.invariant.led in
    let is : IsPast c.args.app.now c.args.limits.now c.steps.machine c.args.injections.now =
    past_on c.args.app.now c.args.limits.now c.args.kernel.now c.steps.machine led.own led.leads
    c.args.injections.now (record { way = c.requires.way; past = c.requires.past }) in
    let one =
    one_there c.args.app.now c.args.limits.now c.well_formed-2.ensures c.well_formed-3.ensures c.steps.machine
    c.step_to_trail.new.kernel c.in_default.ensures c.in_err-step_to_trail.ensures.stands c.args.injections.now is in
    let e = c.in_err-step_to_trail.ensures.meter in
    let f = c.steps.invariant.meter in
    omega (arith, one, e, f)

pub returns-in_err-step_to_trail-clause-refused : goal.returns-in_err-step_to_trail-clause-refused
returns-in_err-step_to_trail-clause-refused c =
    let led = c.steps.invariant.led in
    let is : IsPast c.args.app.now c.args.limits.now c.steps.machine c.args.injections.now =
    past_on c.args.app.now c.args.limits.now c.args.kernel.now c.steps.machine led.own led.leads
    c.args.injections.now (record { way = c.requires.way; past = c.requires.past }) in
    let way : IsUnderWay c.args.app.now c.args.injections.now c.args.limits.now c.step_to_trail.new.kernel =
    way_there c.args.app.now c.args.limits.now c.well_formed-2.ensures c.well_formed-3.ensures c.steps.machine
    c.step_to_trail.new.kernel c.in_default.ensures c.in_err-step_to_trail.ensures.stands c.args.injections.now is in
    let p = err_from_is_err_and c.from_residual.result c.from_residual.ensures.1 in
    rw p.1 (λ run is_run. (
      no_further c.args.app.now c.args.injections.now c.args.limits.now c.step_to_trail.new.kernel way run is_run,
      told_some c.args.app.now c.args.injections.now c.args.limits.now c.step_to_trail.new.kernel way run is_run
          (some_there c.args.app.now c.args.limits.now c.well_formed-2.ensures c.well_formed-3.ensures c.steps.machine
          c.step_to_trail.new.kernel c.in_default.ensures c.in_err-step_to_trail.ensures.stands c.args.injections.now is
          c.in_err-step_to_trail.ensures.memory),
    ))

pub returns-in_err-step_to_trail-clause-memory : goal.returns-in_err-step_to_trail-clause-memory
returns-in_err-step_to_trail-clause-memory c =
    let led = c.steps.invariant.led in
    let is : IsPast c.args.app.now c.args.limits.now c.steps.machine c.args.injections.now =
    past_on c.args.app.now c.args.limits.now c.args.kernel.now c.steps.machine led.own led.leads
    c.args.injections.now (record { way = c.requires.way; past = c.requires.past }) in
    let p = err_from_is_err_and c.from_residual.result c.from_residual.ensures.1 in
    rw p.1 (some_there c.args.app.now c.args.limits.now c.well_formed-2.ensures c.well_formed-3.ensures c.steps.machine
    c.step_to_trail.new.kernel c.in_default.ensures c.in_err-step_to_trail.ensures.stands c.args.injections.now is
    c.in_err-step_to_trail.ensures.memory)

pub invariant_of-kernel-in_err-step_to_trail : goal.invariant_of-kernel-in_err-step_to_trail
invariant_of-kernel-in_err-step_to_trail c = λ task behind.
    let led = c.steps.invariant.led in
    let is : IsPast c.args.app.now c.args.limits.now c.steps.machine c.args.injections.now =
    past_on c.args.app.now c.args.limits.now c.args.kernel.now c.steps.machine led.own led.leads
    c.args.injections.now (record { way = c.requires.way; past = c.requires.past }) in
    blank_on_the_way c.args.app.now c.well_formed-2.ensures c.args.limits.now c.args.injections.now c.step_to_trail.new.kernel
    (way_there c.args.app.now c.args.limits.now c.well_formed-2.ensures c.well_formed-3.ensures c.steps.machine
    c.step_to_trail.new.kernel c.in_default.ensures c.in_err-step_to_trail.ensures.stands c.args.injections.now is) task
    (subst (λ (ts : List Definition). length ts ≤ task) c.tasks.ensures behind)

pub steps-smaller-in-Continue-1 : goal.steps-smaller-in-Continue-1
steps-smaller-in-Continue-1 c =
    let led = c.steps.invariant.led in
    let is : IsPast c.args.app.now c.args.limits.now c.steps.machine c.args.injections.now =
    past_on c.args.app.now c.args.limits.now c.args.kernel.now c.steps.machine led.own led.leads
    c.args.injections.now (record { way = c.requires.way; past = c.requires.past }) in
    let one =
    one_there c.args.app.now c.args.limits.now c.well_formed-2.ensures c.well_formed-3.ensures c.steps.machine
    c.step_to_trail.new.kernel c.in_default.ensures c.step_to_trail.ensures.stands c.args.injections.now is in
    let far = c.steps.invariant.far in
    let short : c.steps.machine.steps ≢ c.args.until = c.if-machine-until.false in
    omega (arith, one, far, short)

pub steps-preserved-in-Continue-1 : goal.steps-preserved-in-Continue-1
steps-preserved-in-Continue-1 c =
    let led = c.steps.invariant.led in
    let is : IsPast c.args.app.now c.args.limits.now c.steps.machine c.args.injections.now =
    past_on c.args.app.now c.args.limits.now c.args.kernel.now c.steps.machine led.own led.leads
    c.args.injections.now (record { way = c.requires.way; past = c.requires.past }) in
    let one =
    one_there c.args.app.now c.args.limits.now c.well_formed-2.ensures c.well_formed-3.ensures c.steps.machine
    c.step_to_trail.new.kernel c.in_default.ensures c.step_to_trail.ensures.stands c.args.injections.now is in
    let far = c.steps.invariant.far in
    let short : c.steps.machine.steps ≢ c.args.until = c.if-machine-until.false in
    let before = c.steps.invariant.meter in
    let after = c.step_to_trail.ensures.meter in
    record {
      led =
          led_then c.args.app.now c.args.limits.now c.args.kernel.now c.steps.machine c.step_to_trail.new.kernel
          (all_of c.args.trail.now) (all_of c.steps.trail) (all_of c.step_to_trail.new.trail) led
          (led_step c.args.app.now c.args.limits.now c.well_formed-2.ensures c.well_formed-3.ensures c.steps.machine
          c.step_to_trail.new.kernel c.in_default.ensures c.step_to_trail.ensures.stands (all_of c.steps.trail)
          (all_of c.step_to_trail.new.trail) c.in_ok-step_to_trail.ensures.told c.args.injections.now is);
      far = omega (arith, one, far, short);
      meter = omega (arith, one, before, after);
    }
