use Rattle.std.proofs.Common.{◌<◌, ◌∙◌, ℕ, List, length, Option, sym, subst}
use Rattle.std.specs.Option.{IfSome}
use Rattle.model.specs.declared.event.Event.{Event}
use Rattle.model.specs.Run.{state_after}
use Rattle.model.specs.Invariant.{hold_of}
use Rattle.soundness.proofs.Reached.{reached_after}
use Rattle.machine.specs.Logged.{all_of}
use Rattle.kernel.specs.Along.{GoesFurther, GoesOn, IsGoing}
use Rattle.kernel.proofs.Along.{behind, goes_still, tells_further, tells_on}
use Rattle.kernel.proofs.Amid.{begun_anew}
use Rattle.kernel.proofs.Bounds.{runs_there}
use Rattle.kernel.proofs.commands.pass_command.Goals as goal

pub set_received-requires-clause-there : goal.set_received-requires-clause-there
set_received-requires-clause-there c =
    let s = state_after c.args.app.now c.args.limits.now c.args.injections.now c.args.kernel.now.steps in
    subst (λ (o : Option ℕ). IfSome o (λ task. task < length c.args.app.now.tasks)) (sym c.current.ensures.current ∙ c.in-Some.is)
    (runs_there c.args.app.now c.args.kernel.now s (hold_of s) c.requires.free.way.stands
    (reached_after c.args.app.now c.well_formed-2.ensures c.args.limits.now c.args.injections.now c.args.kernel.now.steps).sound)

pub pass_set-requires-clause-going : goal.pass_set-requires-clause-going
pass_set-requires-clause-going c =
    record { free = c.requires.free; going = sym (c.if-is_over_running.ensures _ c.requires.free.way.stands) }

pub pass_held-requires-clause-going : goal.pass_held-requires-clause-going
pass_held-requires-clause-going c =
    let going : IsGoing c.args.app.now c.args.limits.now c.args.until c.args.kernel.now c.args.injections.now =
    record { free = c.requires.free; going = sym (c.if-is_over_running.ensures _ c.requires.free.way.stands) } in
    goes_still c.pass_set.ensures.along going (c.pass_set.ensures.going c.args.injections.now going)

pub returns-then-is_err : goal.returns-then-is_err
returns-then-is_err c =
    subst (GoesOn c.args.app.now c.args.limits.now c.args.until c.args.kernel.now c.pass_set.new.kernel (all_of c.args.trail.now))
    (sym (begun_anew c.args.trail.now c.begin.new.self c.begin.ensures.before c.begin.ensures.told))
    (behind (all_of c.args.trail.now)
    (tells_further (λ plan f. sym (c.if-is_over_running.ensures _ f.way.stands)) c.pass_set.ensures.along))

pub returns : goal.returns
returns c =
    tells_on
    (behind (all_of c.args.trail.now)
    (tells_further (λ plan f. sym (c.if-is_over_running.ensures _ f.way.stands)) c.pass_set.ensures.along))
    (λ plan f.
    c.pass_set.ensures.going plan (record { free = f; going = sym (c.if-is_over_running.ensures _ f.way.stands) }))
    (subst (λ (es : List Event). GoesFurther c.args.app.now c.args.limits.now c.args.until
    c.pass_set.new.kernel c.pass_held.new.kernel es (all_of c.pass_held.new.trail))
    (begun_anew c.args.trail.now c.begin.new.self c.begin.ensures.before c.begin.ensures.told) c.pass_held.ensures.along)
