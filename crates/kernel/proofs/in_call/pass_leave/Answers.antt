use Rattle.std.proofs.Common.{◌<◌, ◌∙◌, refl, append-nil, arith}
use Rattle.machine.specs.Logged.{all_of}
use Rattle.kernel.proofs.Along.{ends_not, further_nowhere, goes_further}
use Rattle.kernel.proofs.Running.{can_step, told_after}
use Rattle.kernel.proofs.in_call.pass_leave.Goals as goal

pub step_leaving-requires-clause-going : goal.step_leaving-requires-clause-going
step_leaving-requires-clause-going c =
    let going = c.requires.going in (
      c.args.limits.now,
      can_step c.args.app.now c.well_formed-2.ensures c.args.injections.now
          c.args.limits.now c.well_formed-3.ensures c.args.kernel.now going.free.way
          (ends_not (omega (arith, c.if-until-kernel.false)) going),
    )

pub returns-then-until-kernel : goal.returns-then-until-kernel
returns-then-until-kernel c = further_nowhere refl

pub returns-then-is_err : goal.returns-then-is_err
returns-then-is_err c = further_nowhere (told_after c.begin.new.self _ _ c.begin.ensures.before c.begin.ensures.told ∙ append-nil _)

pub returns : goal.returns
returns c =
    let short : c.args.kernel.now.steps < c.args.until = omega (arith, c.if-until-kernel.false) in
    goes_further c.args.app.now c.well_formed-2.ensures c.args.limits.now
    c.well_formed-3.ensures c.args.until c.args.kernel.now c.step_leaving.new.machine short
    (c.step_leaving.ensures.stands c.args.limits.now) c.requires.going (all_of c.args.trail.now) (all_of c.step_leaving.new.log)
    (λ s h.
    told_after c.step_leaving.new.log _ _ (c.step_leaving.ensures.before ∙ c.begin.ensures.before)
    (c.step_leaving.ensures.told c.args.limits.now s h))
