use Rattle.std.proofs.Common.{◌∙◌, arith}
use Rattle.model.specs.Step.{step}
use Rattle.machine.proofs.Either.{steps_are}
use Rattle.kernel.proofs.Bounds.{can_act_after, can_come, there_after}
use Rattle.kernel.proofs.Holds.{below_limits}
use Rattle.kernel.proofs.Counting.{steps_still}
use Rattle.kernel.proofs.Ending.{begun, begun_with, stepped}
use Rattle.kernel.proofs.steps.step_with_handlers.Goals as goal

pub come_before-came-requires-clause-can : goal.come_before-came-requires-clause-can
come_before-came-requires-clause-can g c = can_come c.args.app.now c.well_formed-2.ensures c.args.machine.now c.requires.going

pub act_once-requires-clause-there : goal.act_once-requires-clause-there
act_once-requires-clause-there g c =
    let going = c.requires.going in
    there_after c.args.app.now c.well_formed-2.ensures c.args.machine.now going c.args.handlers.now c.come_before-came.new.machine
    (begun_with c.args.app.now c.args.handlers.now going.state c.come_before-came.new.machine _
    (c.come_before-came.ensures.does.at _
    (begun c.args.machine.now (g.L.Log.logged c.args.log.now).told going.state going.stands c.requires.begun))).stands

pub act_once-requires-clause-can : goal.act_once-requires-clause-can
act_once-requires-clause-can g c =
    let going = c.requires.going in
    can_act_after c.args.app.now c.well_formed-2.ensures c.args.machine.now going c.args.handlers.now c.requires.few
    c.come_before-came.new.machine
    (begun_with c.args.app.now c.args.handlers.now going.state c.come_before-came.new.machine _
    (c.come_before-came.ensures.does.at _
    (begun c.args.machine.now (g.L.Log.logged c.args.log.now).told going.state going.stands c.requires.begun))).stands

pub settle-requires : goal.settle-requires
settle-requires g c =
    let a = c.come_before-came.ensures.does.few in let b = c.act_once.ensures.few in let room = c.requires.room in omega arith

pub overflow_add-machine : goal.overflow_add-machine
overflow_add-machine g c =
    let going = c.requires.going in
    let a =
    c.settle.ensures.at _ (c.act_once.ensures.at _
    (begun_with c.args.app.now c.args.handlers.now going.state c.come_before-came.new.machine _
    (c.come_before-came.ensures.does.at _
    (begun c.args.machine.now (g.L.Log.logged c.args.log.now).told going.state going.stands c.requires.begun)))) in
    let still =
    steps_still c.args.app.now c.args.limits.now c.args.handlers.now going.state c.args.machine.now
    c.settle.new.self (g.L.Log.logged c.settle.new.log).told going.stands a in
    let is = steps_are c.args.machine.now going.state going.stands in
    let low = below_limits c.args.app.now c.args.limits.now going.state going.goes_on in
    let few = low.1 in
    let most = going.are.3 in
    omega arith

pub returns-clause-stands : goal.returns-clause-stands
returns-clause-stands g c = λ s h.
    let a =
    c.settle.ensures.at _ (c.act_once.ensures.at _
    (begun_with c.args.app.now c.args.handlers.now s c.come_before-came.new.machine _
    (c.come_before-came.ensures.does.at _ (begun c.args.machine.now (g.L.Log.logged c.args.log.now).told s h c.requires.begun)))) in
    let still =
    steps_still c.args.app.now c.args.limits.now c.args.handlers.now s c.args.machine.now
    c.settle.new.self (g.L.Log.logged c.settle.new.log).told h a in
    stepped c.args.app.now c.args.limits.now c.args.handlers.now s c.settle.new.self
    (g.L.Log.logged c.settle.new.log).told c.settle.new.self.steps (still ∙ steps_are c.args.machine.now s h) a

pub returns-clause-told : goal.returns-clause-told
unfolding step
returns-clause-told g c = λ s h.
    (c.settle.ensures.at _ (c.act_once.ensures.at _
    (begun_with c.args.app.now c.args.handlers.now s c.come_before-came.new.machine _
    (c.come_before-came.ensures.does.at _ (begun c.args.machine.now
    (g.L.Log.logged c.args.log.now).told s h c.requires.begun))))).log

pub returns-clause-came : goal.returns-clause-came
returns-clause-came g c = λ s h.
    c.come_before-came.ensures.came _ (begun c.args.machine.now (g.L.Log.logged c.args.log.now).told s h c.requires.begun)
