use Rattle.std.proofs.Common.{[], ◌∙◌, arith}
use Rattle.model.specs.Step.{step}
use Rattle.machine.proofs.Either.{steps_are}
use Rattle.kernel.proofs.Bounds.{can_do}
use Rattle.kernel.proofs.Holds.{below_limits}
use Rattle.kernel.proofs.Counting.{steps_still}
use Rattle.kernel.proofs.Ending.{begun, begun_with_none, stepped}
use Rattle.machine.proofs.Pending.{none_by}
use Rattle.kernel.proofs.bits.step_letting_go.Goals as goal

pub let_go-requires-clause-can : goal.let_go-requires-clause-can
let_go-requires-clause-can g c =
    let letting = c.requires.letting in
    can_do c.args.app.now c.well_formed-2.ensures c.args.machine.now c.requires.going.1
    c.args.task letting.current letting.awake c.args.op.now letting.at

pub overflow_add-machine : goal.overflow_add-machine
overflow_add-machine g c =
    let limits = c.requires.going.0 in
    let going = c.requires.going.1 in
    let a =
    c.settle.ensures.at _
    ((c.let_go.ensures limits).at _
    (begun_with_none c.args.app.now going.state (none_by c.args.machine.now going.state c.requires.none going.stands)
    c.args.machine.now
    _ (begun c.args.machine.now (g.L.Log.logged c.args.log.now).told going.state going.stands c.requires.begun))) in
    let still =
    steps_still c.args.app.now limits [] going.state c.args.machine.now
    c.settle.new.self (g.L.Log.logged c.settle.new.log).told going.stands a in
    let is = steps_are c.args.machine.now going.state going.stands in
    let low = below_limits c.args.app.now limits going.state going.goes_on in
    let few = low.1 in
    let most = going.are.3 in
    omega arith

pub returns-clause-stands : goal.returns-clause-stands
returns-clause-stands g c = λ limits s h.
    let a =
    c.settle.ensures.at _
    ((c.let_go.ensures limits).at _ (begun_with_none c.args.app.now s (none_by c.args.machine.now s c.requires.none h)
    c.args.machine.now
    _ (begun c.args.machine.now (g.L.Log.logged c.args.log.now).told s h c.requires.begun))) in
    let still =
    steps_still c.args.app.now limits [] s c.args.machine.now c.settle.new.self (g.L.Log.logged c.settle.new.log).told h a in
    stepped c.args.app.now limits [] s c.settle.new.self (g.L.Log.logged c.settle.new.log).told
    c.settle.new.self.steps (still ∙ steps_are c.args.machine.now s h) a

pub returns-clause-told : goal.returns-clause-told
unfolding step
returns-clause-told g c = λ limits s h.
    (c.settle.ensures.at _
    ((c.let_go.ensures limits).at _
    (begun_with_none c.args.app.now s (none_by c.args.machine.now s c.requires.none h) c.args.machine.now _
    (begun c.args.machine.now (g.L.Log.logged c.args.log.now).told s h c.requires.begun)))).log

pub settle-requires : goal.settle-requires
settle-requires g c =
    let few = (c.let_go.ensures c.requires.going.0).few in
    let room = c.requires.room in
    omega arith

pub returns-clause-before : goal.returns-clause-before
returns-clause-before g c = c.settle.ensures.before ∙ (c.let_go.ensures c.requires.going.0).before
