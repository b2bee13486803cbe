use Rattle.std.proofs.Common.{[], sym, arith}
use Rattle.kernel.proofs.Along.{ends_not, goes_further, one_step, still_going}
use Rattle.kernel.proofs.Running.{can_step}
use Rattle.kernel.proofs.commands.pass_set.Goals as goal

pub step_setting-requires-clause-going : goal.step_setting-requires-clause-going
step_setting-requires-clause-going c =
    let going = c.requires.going in (
      c.args.limits.now,
      can_step c.args.app.now c.well_formed-2.ensures c.args.injections.now c.args.limits.now
          c.well_formed-3.ensures c.args.kernel.now going.free.way (ends_not c.requires.soon going),
    )

pub returns-clause-along : goal.returns-clause-along
returns-clause-along c =
    goes_further c.args.app.now c.well_formed-2.ensures c.args.limits.now c.well_formed-3.ensures
    c.args.until c.args.kernel.now c.step_setting.new.machine c.requires.soon
    (c.step_setting.ensures.stands c.args.limits.now) c.requires.going [] []
    (λ s h. sym (c.step_setting.ensures.silent c.args.limits.now s h))

pub returns-clause-going : goal.returns-clause-going
returns-clause-going c = λ plan g.
    still_going c.args.app.now c.well_formed-2.ensures c.args.limits.now c.well_formed-3.ensures
    c.args.until c.args.kernel.now c.step_setting.new.machine c.requires.soon
    (c.step_setting.ensures.stands c.args.limits.now) g (c.step_setting.ensures.on c.args.limits.now)

pub returns-clause-one : goal.returns-clause-one
returns-clause-one c =
    let one =
    one_step c.args.app.now c.well_formed-2.ensures c.args.limits.now c.well_formed-3.ensures c.args.until
    c.args.kernel.now c.step_setting.new.machine c.requires.soon
    (c.step_setting.ensures.stands c.args.limits.now) c.requires.going in
    omega arith
