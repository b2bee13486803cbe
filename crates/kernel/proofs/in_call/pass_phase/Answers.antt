use Rattle.std.proofs.Common.{◌+◌, [], sym, arith}
use Rattle.kernel.proofs.Along.{ends_not, goes_further, still_going}
use Rattle.kernel.proofs.Running.{can_step}
use Rattle.kernel.proofs.in_call.pass_phase.Goals as goal

pub step_in_call-requires-clause-going : goal.step_in_call-requires-clause-going
step_in_call-requires-clause-going c =
    let going = c.requires.going in (
      c.args.limits.now,
      can_step c.args.app.now c.well_formed-2.ensures c.args.injections.now c.args.limits.now
          c.well_formed-3.ensures c.args.kernel.now going.free.way (ends_not (omega arith) going),
    )

pub returns-clause-along : goal.returns-clause-along
returns-clause-along c =
    goes_further c.args.app.now c.well_formed-2.ensures c.args.limits.now c.well_formed-3.ensures
    (c.args.kernel.now.steps + 1) c.args.kernel.now c.step_in_call.new.machine (omega arith)
    (c.step_in_call.ensures.stands c.args.limits.now) c.requires.going [] []
    (λ s h. sym (c.step_in_call.ensures.silent c.args.limits.now s h))

pub returns-clause-going : goal.returns-clause-going
returns-clause-going c = λ plan g.
    still_going c.args.app.now c.well_formed-2.ensures c.args.limits.now c.well_formed-3.ensures
    (c.args.kernel.now.steps + 1) c.args.kernel.now c.step_in_call.new.machine (omega arith)
    (c.step_in_call.ensures.stands c.args.limits.now) g (c.step_in_call.ensures.on c.args.limits.now)
