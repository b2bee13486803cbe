use Rattle.std.proofs.Common.{[], ◌∙◌, arith}
use Rattle.model.specs.Step.{step}
use Rattle.model.specs.declared.call.Phase.TheVariants.{Leave}
use Rattle.kernel.proofs.Bounds.{can_do}
use Rattle.kernel.proofs.Holds.{below_limits}
use Rattle.kernel.proofs.Counting.{steps_still}
use Rattle.machine.proofs.Either.{steps_are}
use Rattle.kernel.proofs.Ending.{begun, begun_with_none, stepped}
use Rattle.kernel.proofs.InCall.{can_in_phase, leaves}
use Rattle.machine.proofs.Pending.{none_by}
use Rattle.kernel.proofs.in_call.step_leaving.Goals as goal

pub leave_call-requires-clause-can : goal.leave_call-requires-clause-can
leave_call-requires-clause-can g c =
    let call = c.requires.leaving.2 in
    can_in_phase c.args.app.now c.requires.going.0 c.args.machine.now
    c.args.task c.requires.leaving.0 c.requires.leaving.1 Leave call
    (can_do c.args.app.now c.well_formed-2.ensures c.args.machine.now
    c.requires.going.1 c.args.task call.current call.awake call.op call.at)

pub overflow_add-machine : goal.overflow_add-machine
overflow_add-machine g c =
    let limits = c.requires.going.0 in
    let going = c.requires.going.1 in
    let call = c.requires.leaving.2 in
    let can =
    can_in_phase c.args.app.now c.requires.going.0 c.args.machine.now
    c.args.task c.requires.leaving.0 c.requires.leaving.1 Leave call
    (can_do c.args.app.now c.well_formed-2.ensures c.args.machine.now
    c.requires.going.1 c.args.task call.current call.awake call.op call.at) in
    let does =
    leaves c.args.app.now limits c.args.machine.now c.leave_call.new.machine c.args.task c.requires.leaving
    can (g.L.Log.logged c.args.log.now) (g.L.Log.logged c.leave_call.new.log) c.leave_call.ensures in
    let a =
    c.settle.ensures.at _
    (does.at _ (begun_with_none c.args.app.now going.state (none_by c.args.machine.now going.state c.requires.none going.stands)
    c.args.machine.now _
    (begun c.args.machine.now (g.L.Log.logged c.args.log.now).told going.state going.stands c.requires.begun))) in
    let still =
    steps_still c.args.app.now limits [] going.state c.args.machine.now
    c.settle.new.self (g.L.Log.logged c.settle.new.log).told going.stands a in
    let is = steps_are c.args.machine.now going.state going.stands in
    let low = below_limits c.args.app.now limits going.state going.goes_on in
    let few = low.1 in
    let most = going.are.3 in
    omega arith

pub returns-clause-stands : goal.returns-clause-stands
returns-clause-stands g c = λ limits s h.
    let call = c.requires.leaving.2 in
    let can =
    can_in_phase c.args.app.now c.requires.going.0 c.args.machine.now
    c.args.task c.requires.leaving.0 c.requires.leaving.1 Leave call
    (can_do c.args.app.now c.well_formed-2.ensures c.args.machine.now
    c.requires.going.1 c.args.task call.current call.awake call.op call.at) in
    let does =
    leaves c.args.app.now limits c.args.machine.now c.leave_call.new.machine c.args.task c.requires.leaving
    can (g.L.Log.logged c.args.log.now) (g.L.Log.logged c.leave_call.new.log) c.leave_call.ensures in
    let a =
    c.settle.ensures.at _
    (does.at _ (begun_with_none c.args.app.now s (none_by c.args.machine.now s c.requires.none h) c.args.machine.now _
    (begun c.args.machine.now (g.L.Log.logged c.args.log.now).told s h c.requires.begun))) in
    let still =
    steps_still c.args.app.now limits [] s c.args.machine.now c.settle.new.self (g.L.Log.logged c.settle.new.log).told h a in
    stepped c.args.app.now limits [] s c.settle.new.self (g.L.Log.logged c.settle.new.log).told
    c.settle.new.self.steps (still ∙ steps_are c.args.machine.now s h) a

pub returns-clause-told : goal.returns-clause-told
unfolding step
returns-clause-told g c = λ limits s h.
    let call = c.requires.leaving.2 in
    let can =
    can_in_phase c.args.app.now c.requires.going.0 c.args.machine.now
    c.args.task c.requires.leaving.0 c.requires.leaving.1 Leave call
    (can_do c.args.app.now c.well_formed-2.ensures c.args.machine.now
    c.requires.going.1 c.args.task call.current call.awake call.op call.at) in
    let does =
    leaves c.args.app.now limits c.args.machine.now c.leave_call.new.machine c.args.task c.requires.leaving
    can (g.L.Log.logged c.args.log.now) (g.L.Log.logged c.leave_call.new.log) c.leave_call.ensures in
    (c.settle.ensures.at _
    (does.at _ (begun_with_none c.args.app.now s (none_by c.args.machine.now s c.requires.none h) c.args.machine.now _
    (begun c.args.machine.now (g.L.Log.logged c.args.log.now).told s h c.requires.begun)))).log
