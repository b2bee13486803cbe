use Rattle.std.proofs.Common.{◌∙◌, refl, sym, arith}
use Rattle.std.proofs.lemmas.Result.{err_from_is_err_and}
use Rattle.machine.specs.Logged.{all_of}
use Rattle.kernel.specs.Along.{IsFree, GoesTo, GoesOn}
use Rattle.kernel.specs.Rows.{events_from}
use Rattle.kernel.proofs.Along.{free_next, going_free, goes_a_step, goes_then, one_further, some_further, tells_a_step}
use Rattle.kernel.proofs.Along.{tells_nothing, tells_then}
use Rattle.kernel.proofs.Running.{can_step}
use Rattle.kernel.proofs.runs.go_on.Goals as goal

pub steps-init : goal.steps-init
steps-init c = record { along = tells_nothing refl; meter = omega arith }

pub go_on_in_room-requires : goal.go_on_in_room-requires
go_on_in_room-requires c = free_next c.steps.invariant.along.to c.requires.free

pub count_steps-requires : goal.count_steps-requires
count_steps-requires c = omega (arith, c.steps.invariant.meter, c.requires.meter, c.go_on_in_room.ensures.to.on)

pub step_to_trail-requires-clause-going : goal.step_to_trail-requires-clause-going
step_to_trail-requires-clause-going c =
    let free : IsFree c.args.app.now c.args.limits.now c.args.until c.go_on_in_room.new.kernel c.args.injections.now =
    free_next (goes_then c.steps.invariant.along.to c.go_on_in_room.ensures.to) c.requires.free in
    can_step c.args.app.now c.well_formed-2.ensures c.args.injections.now c.args.limits.now c.well_formed-3.ensures
    c.go_on_in_room.new.kernel free.way (going_free c.if-until-kernel.false c.if-is_over.ensures c.args.injections.now free)

pub step_to_trail-requires-clause-meter : goal.step_to_trail-requires-clause-meter
step_to_trail-requires-clause-meter c =
    omega (arith, c.count_steps.ensures, c.steps.invariant.meter, c.requires.meter, c.if-until-kernel.false)

pub steps-smaller : goal.steps-smaller
steps-smaller c =
    let free : IsFree c.args.app.now c.args.limits.now c.args.until c.go_on_in_room.new.kernel c.args.injections.now =
    free_next (goes_then c.steps.invariant.along.to c.go_on_in_room.ensures.to) c.requires.free in
    let one =
    one_further c.args.app.now c.well_formed-2.ensures c.args.limits.now c.well_formed-3.ensures c.args.until
    c.go_on_in_room.new.kernel c.step_to_trail.new.kernel c.if-until-kernel.false
    (going_free c.if-until-kernel.false c.if-is_over.ensures) c.step_to_trail.ensures.stands c.args.injections.now free in
    let went = c.go_on_in_room.ensures.to.on in
    let far = c.if-until-kernel.false in
    omega arith

pub steps-preserved : goal.steps-preserved
steps-preserved c =
    let there : GoesOn c.args.app.now c.args.limits.now c.args.until c.args.kernel.now
    c.go_on_in_room.new.kernel (all_of c.args.trail.now) (all_of c.go_on_in_room.new.trail) =
    tells_then c.steps.invariant.along c.go_on_in_room.ensures in
    let free : IsFree c.args.app.now c.args.limits.now c.args.until c.go_on_in_room.new.kernel c.args.injections.now =
    free_next there.to c.requires.free in
    let one =
    one_further c.args.app.now c.well_formed-2.ensures c.args.limits.now c.well_formed-3.ensures c.args.until
    c.go_on_in_room.new.kernel c.step_to_trail.new.kernel c.if-until-kernel.false
    (going_free c.if-until-kernel.false c.if-is_over.ensures) c.step_to_trail.ensures.stands c.args.injections.now free in
    let went = c.go_on_in_room.ensures.to.on in
    let counted = c.count_steps.ensures in
    let before = c.steps.invariant.meter in
    let after = c.step_to_trail.ensures.meter in
    record {
      along = tells_then there
          (tells_a_step c.args.app.now c.well_formed-2.ensures c.args.limits.now c.well_formed-3.ensures
          c.args.until c.go_on_in_room.new.kernel c.step_to_trail.new.kernel c.if-until-kernel.false
          (going_free c.if-until-kernel.false c.if-is_over.ensures) c.step_to_trail.ensures.stands free
          (all_of c.go_on_in_room.new.trail) (all_of c.step_to_trail.new.trail) c.in_ok-step_to_trail.ensures.told);
      meter = omega arith;
    }

pub returns-in_err-step_to_trail-clause-to : goal.returns-in_err-step_to_trail-clause-to
returns-in_err-step_to_trail-clause-to c =
    let there : GoesTo c.args.app.now c.args.limits.now c.args.until c.args.kernel.now c.go_on_in_room.new.kernel =
    goes_then c.steps.invariant.along.to c.go_on_in_room.ensures.to in
    let free : IsFree c.args.app.now c.args.limits.now c.args.until c.go_on_in_room.new.kernel c.args.injections.now =
    free_next there c.requires.free in
    goes_then there (goes_a_step c.args.app.now c.well_formed-2.ensures c.args.limits.now c.well_formed-3.ensures
    c.args.until c.go_on_in_room.new.kernel c.step_to_trail.new.kernel c.if-until-kernel.false
    (going_free c.if-until-kernel.false c.if-is_over.ensures) c.step_to_trail.ensures.stands free)

pub returns-in_err-step_to_trail-clause-meter : goal.returns-in_err-step_to_trail-clause-meter
returns-in_err-step_to_trail-clause-meter c =
    let free : IsFree c.args.app.now c.args.limits.now c.args.until c.go_on_in_room.new.kernel c.args.injections.now =
    free_next (goes_then c.steps.invariant.along.to c.go_on_in_room.ensures.to) c.requires.free in
    let one =
    one_further c.args.app.now c.well_formed-2.ensures c.args.limits.now c.well_formed-3.ensures c.args.until
    c.go_on_in_room.new.kernel c.step_to_trail.new.kernel c.if-until-kernel.false
    (going_free c.if-until-kernel.false c.if-is_over.ensures) c.step_to_trail.ensures.stands c.args.injections.now free in
    let went = c.go_on_in_room.ensures.to.on in
    let counted = c.count_steps.ensures in
    let before = c.steps.invariant.meter in
    let after = c.step_to_trail.ensures.meter in
    omega arith

pub returns-in_err-step_to_trail-clause-memory : goal.returns-in_err-step_to_trail-clause-memory
returns-in_err-step_to_trail-clause-memory c =
    let free : IsFree c.args.app.now c.args.limits.now c.args.until c.go_on_in_room.new.kernel c.args.injections.now =
    free_next (goes_then c.steps.invariant.along.to c.go_on_in_room.ensures.to) c.requires.free in
    let p = err_from_is_err_and c.from_residual.result c.from_residual.ensures.1 in
    rw p.1 (some_further c.args.app.now c.well_formed-2.ensures c.args.limits.now
    c.well_formed-3.ensures c.args.until c.go_on_in_room.new.kernel c.step_to_trail.new.kernel
    c.if-until-kernel.false (going_free c.if-until-kernel.false c.if-is_over.ensures)
    c.step_to_trail.ensures.stands c.args.injections.now free c.in_err-step_to_trail.ensures.memory)

pub returns-in_err-step_to_trail-clause-kept : goal.returns-in_err-step_to_trail-clause-kept
returns-in_err-step_to_trail-clause-kept c =
    let there : GoesOn c.args.app.now c.args.limits.now c.args.until c.args.kernel.now
    c.go_on_in_room.new.kernel (all_of c.args.trail.now) (all_of c.go_on_in_room.new.trail) =
    tells_then c.steps.invariant.along c.go_on_in_room.ensures in
    let p = err_from_is_err_and c.from_residual.result c.from_residual.ensures.1 in
    rw p.1 (
      events_from c.args.app.now c.args.limits.now c.args.injections.now c.args.kernel.now.steps c.go_on_in_room.new.kernel.steps,
      c.in_err-step_to_trail.ensures.kept ∙ there.events c.args.injections.now c.requires.free,
    )

pub returns-then-until-kernel-clause-to : goal.returns-then-until-kernel-clause-to
returns-then-until-kernel-clause-to c = goes_then c.steps.invariant.along.to c.go_on_in_room.ensures.to

pub returns-then-until-kernel-clause-there : goal.returns-then-until-kernel-clause-there
returns-then-until-kernel-clause-there c = λ short. absurd (omega (arith, short, c.if-until-kernel.true))

pub returns-then-until-kernel-clause-along : goal.returns-then-until-kernel-clause-along
returns-then-until-kernel-clause-along c = tells_then c.steps.invariant.along c.go_on_in_room.ensures

pub returns-then-until-kernel-clause-meter : goal.returns-then-until-kernel-clause-meter
returns-then-until-kernel-clause-meter c =
    omega (arith, c.count_steps.ensures, c.steps.invariant.meter, c.go_on_in_room.ensures.to.on)

pub returns-then-is_over-clause-to : goal.returns-then-is_over-clause-to
returns-then-is_over-clause-to c = goes_then c.steps.invariant.along.to c.go_on_in_room.ensures.to

pub returns-then-is_over-clause-there : goal.returns-then-is_over-clause-there
returns-then-is_over-clause-there c =
    let free : IsFree c.args.app.now c.args.limits.now c.args.until c.go_on_in_room.new.kernel c.args.injections.now =
    free_next (goes_then c.steps.invariant.along.to c.go_on_in_room.ensures.to) c.requires.free in
    λ short. sym (c.if-is_over.ensures _ free.way.stands)

pub returns-then-is_over-clause-along : goal.returns-then-is_over-clause-along
returns-then-is_over-clause-along c = tells_then c.steps.invariant.along c.go_on_in_room.ensures

pub returns-then-is_over-clause-meter : goal.returns-then-is_over-clause-meter
returns-then-is_over-clause-meter c = omega (arith, c.count_steps.ensures, c.steps.invariant.meter, c.go_on_in_room.ensures.to.on)
