use Rattle.std.proofs.Common.{◌<◌, ◌∙◌, sym, arith}
use Rattle.machine.specs.Logged.{all_of}
use Rattle.kernel.proofs.Along.{ends_not, further_on, goes_further, one_step, still_free}
use Rattle.kernel.proofs.Amid.{all_before}
use Rattle.kernel.proofs.Running.{can_step, told_after}
use Rattle.kernel.proofs.runs.steps_without_op.Goals as goal

pub step_without_op-following-requires-clause-going : goal.step_without_op-following-requires-clause-going
step_without_op-following-requires-clause-going c =
    let g = c.requires.going in
    let short : c.args.kernel.now.steps < c.args.until = (let soon = c.requires.soon in omega arith) in
    can_step c.args.app.now c.well_formed-2.ensures c.args.injections.now c.args.limits.now
    c.well_formed-3.ensures c.args.kernel.now g.free.way (ends_not short g)

pub go_on_while_suspended-requires : goal.go_on_while_suspended-requires
go_on_while_suspended-requires c =
    let g = c.requires.going in
    let short : c.args.kernel.now.steps < c.args.until = (let soon = c.requires.soon in omega arith) in
    let further =
    goes_further c.args.app.now c.well_formed-2.ensures c.args.limits.now c.well_formed-3.ensures c.args.until c.args.kernel.now
    c.step_without_op-following.new.machine short c.step_without_op-following.ensures.stands
    g (all_of c.args.trail.now) (all_of c.step_without_op-following.new.log)
    (λ s h.
    told_after c.step_without_op-following.new.log _ _
    (c.step_without_op-following.ensures.before ∙ sym (all_before c.args.trail.now c.requires.begun))
    (c.step_without_op-following.ensures.told s h)) in
    still_free further g

pub returns-then-suspensions-gt0-clause-along : goal.returns-then-suspensions-gt0-clause-along
returns-then-suspensions-gt0-clause-along c =
    let g = c.requires.going in
    let short : c.args.kernel.now.steps < c.args.until = (let soon = c.requires.soon in omega arith) in
    let further =
    goes_further c.args.app.now c.well_formed-2.ensures c.args.limits.now c.well_formed-3.ensures c.args.until c.args.kernel.now
    c.step_without_op-following.new.machine short c.step_without_op-following.ensures.stands
    g (all_of c.args.trail.now) (all_of c.step_without_op-following.new.log)
    (λ s h.
    told_after c.step_without_op-following.new.log _ _
    (c.step_without_op-following.ensures.before ∙ sym (all_before c.args.trail.now c.requires.begun))
    (c.step_without_op-following.ensures.told s h)) in
    further_on further c.go_on_while_suspended.ensures.along

pub returns-then-suspensions-gt0-clause-on : goal.returns-then-suspensions-gt0-clause-on
returns-then-suspensions-gt0-clause-on c =
    let g = c.requires.going in
    let short : c.args.kernel.now.steps < c.args.until = (let soon = c.requires.soon in omega arith) in
    let one =
    one_step c.args.app.now c.well_formed-2.ensures c.args.limits.now c.well_formed-3.ensures c.args.until c.args.kernel.now
    c.step_without_op-following.new.machine short c.step_without_op-following.ensures.stands g in
    let on = c.go_on_while_suspended.ensures.along.to.on in
    omega arith

pub returns-then-suspensions-gt0-clause-soon : goal.returns-then-suspensions-gt0-clause-soon
returns-then-suspensions-gt0-clause-soon c =
    let g = c.requires.going in
    let short : c.args.kernel.now.steps < c.args.until = (let soon = c.requires.soon in omega arith) in
    let one =
    one_step c.args.app.now c.well_formed-2.ensures c.args.limits.now c.well_formed-3.ensures c.args.until c.args.kernel.now
    c.step_without_op-following.new.machine short c.step_without_op-following.ensures.stands g in
    let soon = c.requires.soon in
    c.go_on_while_suspended.ensures.soon (omega arith)

pub returns-else-suspensions-gt0-clause-along : goal.returns-else-suspensions-gt0-clause-along
returns-else-suspensions-gt0-clause-along c =
    let g = c.requires.going in
    let short : c.args.kernel.now.steps < c.args.until = (let soon = c.requires.soon in omega arith) in
    goes_further c.args.app.now c.well_formed-2.ensures c.args.limits.now c.well_formed-3.ensures c.args.until c.args.kernel.now
    c.step_without_op-following.new.machine short c.step_without_op-following.ensures.stands
    g (all_of c.args.trail.now) (all_of c.step_without_op-following.new.log)
    (λ s h.
    told_after c.step_without_op-following.new.log _ _
    (c.step_without_op-following.ensures.before ∙ sym (all_before c.args.trail.now c.requires.begun))
    (c.step_without_op-following.ensures.told s h))

pub returns-else-suspensions-gt0-clause-on : goal.returns-else-suspensions-gt0-clause-on
returns-else-suspensions-gt0-clause-on c =
    let g = c.requires.going in
    let short : c.args.kernel.now.steps < c.args.until = (let soon = c.requires.soon in omega arith) in
    let one =
    one_step c.args.app.now c.well_formed-2.ensures c.args.limits.now c.well_formed-3.ensures c.args.until c.args.kernel.now
    c.step_without_op-following.new.machine short c.step_without_op-following.ensures.stands g in
    omega arith

pub returns-else-suspensions-gt0-clause-soon : goal.returns-else-suspensions-gt0-clause-soon
returns-else-suspensions-gt0-clause-soon c =
    let g = c.requires.going in
    let short : c.args.kernel.now.steps < c.args.until = (let soon = c.requires.soon in omega arith) in
    let one =
    one_step c.args.app.now c.well_formed-2.ensures c.args.limits.now c.well_formed-3.ensures c.args.until c.args.kernel.now
    c.step_without_op-following.new.machine short c.step_without_op-following.ensures.stands g in
    let soon = c.requires.soon in
    omega arith
