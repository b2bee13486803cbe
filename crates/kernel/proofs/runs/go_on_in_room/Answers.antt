use Rattle.std.proofs.Common.{◌∙◌, append-nil}
use Rattle.model.specs.Invariant.{hold_of}
use Rattle.model.specs.Run.{state_after}
use Rattle.soundness.proofs.Reached.{reached_after}
use Rattle.kernel.specs.Along.{IsFree, NoneIsOver}
use Rattle.kernel.proofs.Along.{free_next, tells_further, tells_nothing, tells_then}
use Rattle.kernel.proofs.Amid.{suspensions_hold}
use Rattle.kernel.proofs.Bounds.{runs_there}
use Rattle.kernel.proofs.Running.{told_after}
use Rattle.kernel.proofs.runs.go_on_in_room.Goals as goal

pub op_if_going-requires-clause-there : goal.op_if_going-requires-clause-there
op_if_going-requires-clause-there c =
    let free : IsFree c.args.app.now c.args.limits.now c.args.until c.steps.kernel c.args.injections.now =
    free_next c.steps.invariant.to c.requires in
    let s = state_after c.args.app.now c.args.limits.now c.args.injections.now c.steps.kernel.steps in
    runs_there c.args.app.now c.steps.kernel s (hold_of s) free.way.stands
    (reached_after c.args.app.now c.well_formed-2.ensures c.args.limits.now c.args.injections.now c.steps.kernel.steps).sound

pub op_if_going-requires-clause-depth : goal.op_if_going-requires-clause-depth
op_if_going-requires-clause-depth c =
    let free : IsFree c.args.app.now c.args.limits.now c.args.until c.steps.kernel c.args.injections.now =
    free_next c.steps.invariant.to c.requires in
    suspensions_hold c.steps.kernel _ free.way.stands

pub next_steps-following-requires-clause-going : goal.next_steps-following-requires-clause-going
next_steps-following-requires-clause-going c =
    let free : IsFree c.args.app.now c.args.limits.now c.args.until c.steps.kernel c.args.injections.now =
    free_next c.steps.invariant.to c.requires in
    record {
      free = free;
      going =
          c.in-Some.ensures.going _ free.way.stands
          (reached_after c.args.app.now c.well_formed-2.ensures c.args.limits.now c.args.injections.now c.steps.kernel.steps);
    }

pub pass_more-requires-clause-free : goal.pass_more-requires-clause-free
pass_more-requires-clause-free c =
    let free : IsFree c.args.app.now c.args.limits.now c.args.until c.steps.kernel c.args.injections.now =
    free_next c.steps.invariant.to c.requires in
    let none : NoneIsOver c.args.app.now c.args.limits.now c.args.until c.steps.kernel c.steps.kernel = λ plan f.
    c.in-Some.ensures.going _ f.way.stands
    (reached_after c.args.app.now c.well_formed-2.ensures c.args.limits.now plan c.steps.kernel.steps) in
    free_next (tells_further none c.next_steps-following.ensures.along).to free

pub steps-preserved : goal.steps-preserved
steps-preserved c =
    let none : NoneIsOver c.args.app.now c.args.limits.now c.args.until c.steps.kernel c.steps.kernel = λ plan f.
    c.in-Some.ensures.going _ f.way.stands
    (reached_after c.args.app.now c.well_formed-2.ensures c.args.limits.now plan c.steps.kernel.steps) in
    tells_then (tells_then c.steps.invariant
    (tells_nothing (told_after c.begin.new.self _ _ c.begin.ensures.before c.begin.ensures.told ∙ append-nil _)))
    (tells_then (tells_further none c.next_steps-following.ensures.along) c.pass_more.ensures)
