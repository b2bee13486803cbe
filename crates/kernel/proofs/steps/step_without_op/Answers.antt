use Rattle.std.proofs.Common.{[], ◌∙◌, arith}
use Rattle.model.specs.Step.{step}
use Rattle.machine.proofs.Either.{steps_are}
use Rattle.kernel.proofs.Bounds.{can_act_after, there_after}
use Rattle.kernel.proofs.Holds.{below_limits}
use Rattle.kernel.proofs.Counting.{steps_still}
use Rattle.kernel.proofs.Ending.{begun, begun_with_none, stepped}
use Rattle.machine.proofs.Pending.{none_by}
use Rattle.kernel.proofs.steps.step_without_op.Goals as goal

pub act_without_op-following-requires-clause-there : goal.act_without_op-following-requires-clause-there
act_without_op-following-requires-clause-there g c =
    let going = c.requires.going in
    there_after c.args.app.now c.well_formed-2.ensures c.args.machine.now going [] c.args.machine.now
    (begun_with_none c.args.app.now _ (none_by c.args.machine.now _ c.requires.none going.stands) c.args.machine.now _
    (begun c.args.machine.now (g.L.Log.logged c.args.log.now).told _ going.stands c.requires.begun)).stands

pub act_without_op-following-requires-clause-can : goal.act_without_op-following-requires-clause-can
act_without_op-following-requires-clause-can g c =
    let going = c.requires.going in
    can_act_after c.args.app.now c.well_formed-2.ensures c.args.machine.now going [] (omega arith) c.args.machine.now
    (begun_with_none c.args.app.now _ (none_by c.args.machine.now _ c.requires.none going.stands) c.args.machine.now _
    (begun c.args.machine.now (g.L.Log.logged c.args.log.now).told _ going.stands c.requires.begun)).stands

pub overflow_add-machine : goal.overflow_add-machine
overflow_add-machine g c =
    let going = c.requires.going in
    let a =
    c.settle.ensures.at _ (c.act_without_op-following.ensures.does.at _
    (begun_with_none c.args.app.now going.state (none_by c.args.machine.now going.state c.requires.none going.stands)
    c.args.machine.now _
    (begun c.args.machine.now (g.L.Log.logged c.args.log.now).told going.state going.stands c.requires.begun))) in
    let still =
    steps_still c.args.app.now c.args.limits.now [] going.state c.args.machine.now
    c.settle.new.self (g.L.Log.logged c.settle.new.log).told going.stands a in
    let is = steps_are c.args.machine.now going.state going.stands in
    let low = below_limits c.args.app.now c.args.limits.now going.state going.goes_on in
    let few = low.1 in
    let most = going.are.3 in
    omega arith

pub returns-clause-stands : goal.returns-clause-stands
returns-clause-stands g c = λ s h.
    let a =
    c.settle.ensures.at _ (c.act_without_op-following.ensures.does.at _
    (begun_with_none c.args.app.now s (none_by c.args.machine.now s c.requires.none h) c.args.machine.now _
    (begun c.args.machine.now (g.L.Log.logged c.args.log.now).told s h c.requires.begun))) in
    let still =
    steps_still c.args.app.now c.args.limits.now [] s c.args.machine.now
    c.settle.new.self (g.L.Log.logged c.settle.new.log).told h a in
    stepped c.args.app.now c.args.limits.now [] s c.settle.new.self (g.L.Log.logged c.settle.new.log).told
    c.settle.new.self.steps (still ∙ steps_are c.args.machine.now s h) a

pub returns-clause-told : goal.returns-clause-told
unfolding step
returns-clause-told g c = λ s h.
    (c.settle.ensures.at _
    (c.act_without_op-following.ensures.does.at _
    (begun_with_none c.args.app.now s (none_by c.args.machine.now s c.requires.none h) c.args.machine.now _
    (begun c.args.machine.now (g.L.Log.logged c.args.log.now).told s h c.requires.begun)))).log
