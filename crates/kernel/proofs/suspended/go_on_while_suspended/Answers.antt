use Rattle.std.proofs.Common.{◌≡◌, ◌<◌, ◌∙◌, suc, sym, arith, append-nil}
use Rattle.machine.specs.Logged.{all_of}
use Rattle.kernel.specs.Along.{IsFree}
use Rattle.kernel.proofs.Along.{free_next, going_free, one_further, tells_a_step, tells_nothing, tells_then}
use Rattle.kernel.proofs.Amid.{all_before}
use Rattle.kernel.proofs.Running.{can_step, told_after}
use Rattle.kernel.proofs.suspended.go_on_while_suspended.Goals as goal

pub step_while_suspended-requires-clause-going : goal.step_while_suspended-requires-clause-going
step_while_suspended-requires-clause-going c =
    let short : c.steps.kernel.steps < c.args.until =
    (let test = c.steps-test.true in let last = c.saturating_sub-last.ensures in omega arith) in
    let free : IsFree c.args.app.now c.args.limits.now c.args.until c.steps.kernel c.args.injections.now =
    free_next c.steps.invariant.along.to c.requires in
    can_step c.args.app.now c.well_formed-2.ensures c.args.injections.now
    c.args.limits.now c.well_formed-3.ensures c.steps.kernel free.way
    (going_free short c.if-is_over_running.ensures c.args.injections.now free)

pub step_while_suspended-requires-clause-none : goal.step_while_suspended-requires-clause-none
step_while_suspended-requires-clause-none c =
    let free : IsFree c.args.app.now c.args.limits.now c.args.until c.steps.kernel c.args.injections.now =
    free_next c.steps.invariant.along.to c.requires in
    free.none (let test = c.steps-test.true in let last = c.saturating_sub-last.ensures in omega arith)

pub steps-smaller : goal.steps-smaller
steps-smaller c =
    let short : c.steps.kernel.steps < c.args.until =
    (let test = c.steps-test.true in let last = c.saturating_sub-last.ensures in omega arith) in
    let free : IsFree c.args.app.now c.args.limits.now c.args.until c.steps.kernel c.args.injections.now =
    free_next c.steps.invariant.along.to c.requires in
    let one : c.step_while_suspended.new.machine.steps ≡ suc c.steps.kernel.steps =
    one_further c.args.app.now c.well_formed-2.ensures c.args.limits.now c.well_formed-3.ensures c.args.until c.steps.kernel
    c.step_while_suspended.new.machine short (going_free short c.if-is_over_running.ensures)
    c.step_while_suspended.ensures.stands c.args.injections.now free in
    omega arith

pub steps-preserved : goal.steps-preserved
steps-preserved c =
    let short : c.steps.kernel.steps < c.args.until =
    (let test = c.steps-test.true in let last = c.saturating_sub-last.ensures in omega arith) in
    let free : IsFree c.args.app.now c.args.limits.now c.args.until c.steps.kernel c.args.injections.now =
    free_next c.steps.invariant.along.to c.requires in
    let one : c.step_while_suspended.new.machine.steps ≡ suc c.steps.kernel.steps =
    one_further c.args.app.now c.well_formed-2.ensures c.args.limits.now c.well_formed-3.ensures c.args.until c.steps.kernel
    c.step_while_suspended.new.machine short (going_free short c.if-is_over_running.ensures)
    c.step_while_suspended.ensures.stands c.args.injections.now free in
    let begun = tells_nothing (told_after c.begin.new.self _ _ c.begin.ensures.before c.begin.ensures.told ∙ append-nil _) in
    record {
      along = tells_then (tells_then c.steps.invariant.along begun)
          (tells_a_step c.args.app.now c.well_formed-2.ensures c.args.limits.now c.well_formed-3.ensures c.args.until c.steps.kernel
          c.step_while_suspended.new.machine short (going_free short c.if-is_over_running.ensures)
          c.step_while_suspended.ensures.stands free
          (all_of c.begin.new.self) (all_of c.step_while_suspended.new.log)
          (λ s h.
          told_after c.step_while_suspended.new.log _ _
          (c.step_while_suspended.ensures.before ∙ sym (all_before c.begin.new.self c.begin.ensures.told))
          (c.step_while_suspended.ensures.told s h)));
      soon = λ within. let test = c.steps-test.true in let last = c.saturating_sub-last.ensures in omega arith;
    }
