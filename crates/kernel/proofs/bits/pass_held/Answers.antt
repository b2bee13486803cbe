use Rattle.std.proofs.Common.{◌∙◌, sym, arith}
use Rattle.machine.specs.Logged.{all_of}
use Rattle.kernel.proofs.Along.{ends_not, goes_further, one_step}
use Rattle.kernel.proofs.Amid.{all_before}
use Rattle.kernel.proofs.Running.{can_step, told_after}
use Rattle.kernel.proofs.bits.pass_held.Goals as goal

pub step_letting_go-requires-clause-going : goal.step_letting_go-requires-clause-going
step_letting_go-requires-clause-going c =
    let going = c.requires.going in (
      c.args.limits.now,
      can_step c.args.app.now c.well_formed-2.ensures c.args.injections.now
          c.args.limits.now c.well_formed-3.ensures c.args.kernel.now going.free.way (ends_not c.requires.soon going),
    )

pub returns-clause-along : goal.returns-clause-along
returns-clause-along c =
    goes_further c.args.app.now c.well_formed-2.ensures c.args.limits.now c.well_formed-3.ensures
    c.args.until c.args.kernel.now c.step_letting_go.new.machine c.requires.soon
    (c.step_letting_go.ensures.stands c.args.limits.now) c.requires.going
    (all_of c.args.trail.now) (all_of c.step_letting_go.new.log)
    (λ s h.
    told_after c.step_letting_go.new.log _ _ (c.step_letting_go.ensures.before ∙ sym (all_before c.args.trail.now c.requires.begun))
    (c.step_letting_go.ensures.told c.args.limits.now s h))

pub returns-clause-one : goal.returns-clause-one
returns-clause-one c =
    let one =
    one_step c.args.app.now c.well_formed-2.ensures c.args.limits.now c.well_formed-3.ensures c.args.until
    c.args.kernel.now c.step_letting_go.new.machine c.requires.soon
    (c.step_letting_go.ensures.stands c.args.limits.now) c.requires.going in
    omega arith
