use Rattle.std.proofs.Common.{[], ◌∙◌, ◌<◌, ◌≡◌, true, refl, ap, arith}
use Rattle.model.specs.Step.{step}
use Rattle.machine.proofs.Either.{steps_are}
use Rattle.kernel.specs.InScript.{is_amid}
use Rattle.kernel.proofs.Amid.{on_amid, reporting, stands_amid, told_amid}
use Rattle.kernel.proofs.Bounds.{can_do}
use Rattle.kernel.proofs.Holds.{below_limits}
use Rattle.kernel.proofs.Counting.{steps_still}
use Rattle.kernel.proofs.Ending.{begun, begun_with_none, stepped}
use Rattle.kernel.proofs.Holding.{letting_begun, on_begun, stands_held, steps_held, told_held}
use Rattle.kernel.proofs.Running.{acts}
use Rattle.machine.proofs.Pending.{none_by}
use Rattle.kernel.proofs.steps.step_of_op.Goals as goal

pub act-requires-clause-can : goal.act-requires-clause-can
act-requires-clause-can g c =
    let at = c.requires.at in
    can_do c.args.app.now c.well_formed-2.ensures c.args.machine.now
    c.requires.going c.args.task at.current at.awake c.args.op.now at.at

pub overflow_add-machine-in-Nothing : goal.overflow_add-machine-in-Nothing
overflow_add-machine-in-Nothing g c =
    let going = c.requires.going in
    let a =
    c.settle-in-Nothing.ensures.at _ ((acts c.args.app.now c.args.limits.now c.args.machine.now c.args.task c.requires.at.current
    c.args.op.now c.requires.at.at c.act.new.machine _ _ c.act.ensures.does).at
    _ (begun_with_none c.args.app.now going.state (none_by c.args.machine.now going.state c.requires.none going.stands)
    c.args.machine.now _
    (begun c.args.machine.now (g.L.Log.logged c.args.log.now).told going.state going.stands c.requires.begun))) in
    let still =
    steps_still c.args.app.now c.args.limits.now [] going.state c.args.machine.now
    c.settle-in-Nothing.new.self (g.L.Log.logged c.settle-in-Nothing.new.log).told going.stands a in
    let is = steps_are c.args.machine.now going.state going.stands in
    let low = below_limits c.args.app.now c.args.limits.now going.state going.goes_on in
    let few = low.1 in
    let most = going.are.3 in
    omega arith

pub returns-in-Nothing-clause-stands : goal.returns-in-Nothing-clause-stands
returns-in-Nothing-clause-stands g c = λ s h.
    let a =
    c.settle-in-Nothing.ensures.at _ ((acts c.args.app.now c.args.limits.now c.args.machine.now c.args.task c.requires.at.current
    c.args.op.now c.requires.at.at c.act.new.machine _ _ c.act.ensures.does).at
    _ (begun_with_none c.args.app.now s (none_by c.args.machine.now s c.requires.none h) c.args.machine.now _
    (begun c.args.machine.now (g.L.Log.logged c.args.log.now).told s h c.requires.begun))) in
    let still =
    steps_still c.args.app.now c.args.limits.now [] s c.args.machine.now
    c.settle-in-Nothing.new.self (g.L.Log.logged c.settle-in-Nothing.new.log).told h a in
    stepped c.args.app.now c.args.limits.now [] s c.settle-in-Nothing.new.self (g.L.Log.logged c.settle-in-Nothing.new.log).told
    c.settle-in-Nothing.new.self.steps (still ∙ steps_are c.args.machine.now s h) a

pub returns-in-Nothing-clause-told : goal.returns-in-Nothing-clause-told
unfolding step
returns-in-Nothing-clause-told g c = λ s h.
    (c.settle-in-Nothing.ensures.at _
    ((acts c.args.app.now c.args.limits.now c.args.machine.now c.args.task c.requires.at.current
    c.args.op.now c.requires.at.at c.act.new.machine _ _ c.act.ensures.does).at
    _ (begun_with_none c.args.app.now s (none_by c.args.machine.now s c.requires.none h) c.args.machine.now _
    (begun c.args.machine.now (g.L.Log.logged c.args.log.now).told s h c.requires.begun)))).log

pub overflow_add-machine : goal.overflow_add-machine
overflow_add-machine g c =
    let going = c.requires.going in
    let a =
    c.settle.ensures.at _ ((acts c.args.app.now c.args.limits.now c.args.machine.now c.args.task c.requires.at.current
    c.args.op.now c.requires.at.at c.act.new.machine _ _ c.act.ensures.does).at
    _ (begun_with_none c.args.app.now going.state (none_by c.args.machine.now going.state c.requires.none going.stands)
    c.args.machine.now _
    (begun c.args.machine.now (g.L.Log.logged c.args.log.now).told going.state going.stands c.requires.begun))) in
    let still =
    steps_still c.args.app.now c.args.limits.now [] going.state c.args.machine.now
    c.settle.new.self (g.L.Log.logged c.settle.new.log).told going.stands a in
    let is = steps_are c.args.machine.now going.state going.stands in
    let low = below_limits c.args.app.now c.args.limits.now going.state going.goes_on in
    let few = low.1 in
    let most = going.are.3 in
    omega arith

pub overflow_add-machine-in_default : goal.overflow_add-machine-in_default
overflow_add-machine-in_default g c =
    let going = c.requires.going in
    let a =
    c.settle-in_default.ensures.at _ ((acts c.args.app.now c.args.limits.now c.args.machine.now c.args.task c.requires.at.current
    c.args.op.now c.requires.at.at c.act.new.machine _ _ c.act.ensures.does).at
    _ (begun_with_none c.args.app.now going.state (none_by c.args.machine.now going.state c.requires.none going.stands)
    c.args.machine.now _
    (begun c.args.machine.now (g.L.Log.logged c.args.log.now).told going.state going.stands c.requires.begun))) in
    let still =
    steps_still c.args.app.now c.args.limits.now [] going.state c.args.machine.now
    c.settle-in_default.new.self (g.L.Log.logged c.settle-in_default.new.log).told going.stands a in
    let is = steps_are c.args.machine.now going.state going.stands in
    let low = below_limits c.args.app.now c.args.limits.now going.state going.goes_on in
    let few = low.1 in
    let most = going.are.3 in
    omega arith

pub returns-in-Steps-clause-stands : goal.returns-in-Steps-clause-stands
returns-in-Steps-clause-stands g c = λ s h.
    let a =
    c.settle.ensures.at _ ((acts c.args.app.now c.args.limits.now c.args.machine.now c.args.task c.requires.at.current
    c.args.op.now c.requires.at.at c.act.new.machine _ _ c.act.ensures.does).at
    _ (begun_with_none c.args.app.now s (none_by c.args.machine.now s c.requires.none h) c.args.machine.now _
    (begun c.args.machine.now (g.L.Log.logged c.args.log.now).told s h c.requires.begun))) in
    let still =
    steps_still c.args.app.now c.args.limits.now [] s c.args.machine.now
    c.settle.new.self (g.L.Log.logged c.settle.new.log).told h a in
    stepped c.args.app.now c.args.limits.now [] s c.settle.new.self (g.L.Log.logged c.settle.new.log).told
    c.settle.new.self.steps (still ∙ steps_are c.args.machine.now s h) a

pub returns-in_default-clause-stands : goal.returns-in_default-clause-stands
returns-in_default-clause-stands g c = λ s h.
    let a =
    c.settle-in_default.ensures.at _ ((acts c.args.app.now c.args.limits.now c.args.machine.now c.args.task c.requires.at.current
    c.args.op.now c.requires.at.at c.act.new.machine _ _ c.act.ensures.does).at
    _ (begun_with_none c.args.app.now s (none_by c.args.machine.now s c.requires.none h) c.args.machine.now _
    (begun c.args.machine.now (g.L.Log.logged c.args.log.now).told s h c.requires.begun))) in
    let still =
    steps_still c.args.app.now c.args.limits.now [] s c.args.machine.now
    c.settle-in_default.new.self (g.L.Log.logged c.settle-in_default.new.log).told h a in
    stepped c.args.app.now c.args.limits.now [] s c.settle-in_default.new.self (g.L.Log.logged c.settle-in_default.new.log).told
    c.settle-in_default.new.self.steps (still ∙ steps_are c.args.machine.now s h) a

pub returns-in-Steps-clause-told : goal.returns-in-Steps-clause-told
unfolding step
returns-in-Steps-clause-told g c = λ s h.
    (c.settle.ensures.at _
    ((acts c.args.app.now c.args.limits.now c.args.machine.now c.args.task c.requires.at.current
    c.args.op.now c.requires.at.at c.act.new.machine _ _ c.act.ensures.does).at
    _ (begun_with_none c.args.app.now s (none_by c.args.machine.now s c.requires.none h) c.args.machine.now _
    (begun c.args.machine.now (g.L.Log.logged c.args.log.now).told s h c.requires.begun)))).log

pub returns-in_default-clause-told : goal.returns-in_default-clause-told
unfolding step
returns-in_default-clause-told g c = λ s h.
    (c.settle-in_default.ensures.at _
    ((acts c.args.app.now c.args.limits.now c.args.machine.now c.args.task c.requires.at.current
    c.args.op.now c.requires.at.at c.act.new.machine _ _ c.act.ensures.does).at
    _ (begun_with_none c.args.app.now s (none_by c.args.machine.now s c.requires.none h) c.args.machine.now _
    (begun c.args.machine.now (g.L.Log.logged c.args.log.now).told s h c.requires.begun)))).log

pub returns-in-NextOp-clause-stands : goal.returns-in-NextOp-clause-stands
returns-in-NextOp-clause-stands g c = λ s h.
    let e : is_amid c.act.result ≡ true = ap is_amid c.in-NextOp.is in
    let does =
    reporting c.args.machine.now c.act.new.machine (g.L.Log.logged c.args.log.now)
    (g.L.Log.logged c.act.new.log) _
    (acts c.args.app.now c.args.limits.now c.args.machine.now c.args.task c.requires.at.current
    c.args.op.now c.requires.at.at c.act.new.machine _ _ c.act.ensures.does)
    c.requires.begun in
    stands_amid c.args.app.now c.args.limits.now c.args.machine.now c.act.new.machine c.args.task
    c.args.op.now c.requires.at c.requires.none (c.act.ensures.plain e) (c.act.ensures.runs e)
    (c.act.ensures.amid e) (g.L.Log.logged c.act.new.log).told does s h

pub returns-in-NextOp-clause-told : goal.returns-in-NextOp-clause-told
returns-in-NextOp-clause-told g c = λ s h.
    let e : is_amid c.act.result ≡ true = ap is_amid c.in-NextOp.is in
    let does =
    reporting c.args.machine.now c.act.new.machine (g.L.Log.logged c.args.log.now)
    (g.L.Log.logged c.act.new.log) _
    (acts c.args.app.now c.args.limits.now c.args.machine.now c.args.task c.requires.at.current
    c.args.op.now c.requires.at.at c.act.new.machine _ _ c.act.ensures.does)
    c.requires.begun in
    told_amid c.args.app.now c.args.limits.now c.args.machine.now c.act.new.machine c.args.task
    c.args.op.now c.requires.at c.requires.none (c.act.ensures.plain e) (c.act.ensures.runs e)
    (c.act.ensures.amid e) (g.L.Log.logged c.act.new.log).told does s h

pub returns-in-NextOp-clause-on : goal.returns-in-NextOp-clause-on
returns-in-NextOp-clause-on g c = λ next s h going.
    let e : is_amid c.act.result ≡ true = ap is_amid c.in-NextOp.is in
    let does =
    reporting c.args.machine.now c.act.new.machine (g.L.Log.logged c.args.log.now)
    (g.L.Log.logged c.act.new.log) _
    (acts c.args.app.now c.args.limits.now c.args.machine.now c.args.task c.requires.at.current
    c.args.op.now c.requires.at.at c.act.new.machine _ _ c.act.ensures.does)
    c.requires.begun in
    on_amid c.args.app.now c.args.limits.now c.args.machine.now c.act.new.machine c.args.task
    c.args.op.now c.requires.at c.requires.none (c.act.ensures.plain e) (c.act.ensures.runs e)
    (c.act.ensures.amid e) (g.L.Log.logged c.act.new.log).told does s h going

pub returns-in-Answered-clause-stands : goal.returns-in-Answered-clause-stands
returns-in-Answered-clause-stands g c = λ s h.
    let e : is_amid c.act.result ≡ true = ap is_amid c.in-Answered.is in
    let does =
    reporting c.args.machine.now c.act.new.machine (g.L.Log.logged c.args.log.now)
    (g.L.Log.logged c.act.new.log) _
    (acts c.args.app.now c.args.limits.now c.args.machine.now c.args.task c.requires.at.current
    c.args.op.now c.requires.at.at c.act.new.machine _ _ c.act.ensures.does)
    c.requires.begun in
    stands_amid c.args.app.now c.args.limits.now c.args.machine.now c.act.new.machine c.args.task
    c.args.op.now c.requires.at c.requires.none (c.act.ensures.plain e) (c.act.ensures.runs e)
    (c.act.ensures.amid e) (g.L.Log.logged c.act.new.log).told does s h

pub returns-in-Answered-clause-told : goal.returns-in-Answered-clause-told
returns-in-Answered-clause-told g c = λ s h.
    let e : is_amid c.act.result ≡ true = ap is_amid c.in-Answered.is in
    let does =
    reporting c.args.machine.now c.act.new.machine (g.L.Log.logged c.args.log.now)
    (g.L.Log.logged c.act.new.log) _
    (acts c.args.app.now c.args.limits.now c.args.machine.now c.args.task c.requires.at.current
    c.args.op.now c.requires.at.at c.act.new.machine _ _ c.act.ensures.does)
    c.requires.begun in
    told_amid c.args.app.now c.args.limits.now c.args.machine.now c.act.new.machine c.args.task
    c.args.op.now c.requires.at c.requires.none (c.act.ensures.plain e) (c.act.ensures.runs e)
    (c.act.ensures.amid e) (g.L.Log.logged c.act.new.log).told does s h

pub returns-in-Answered-clause-on : goal.returns-in-Answered-clause-on
returns-in-Answered-clause-on g c = λ next s h going.
    let e : is_amid c.act.result ≡ true = ap is_amid c.in-Answered.is in
    let does =
    reporting c.args.machine.now c.act.new.machine (g.L.Log.logged c.args.log.now)
    (g.L.Log.logged c.act.new.log) _
    (acts c.args.app.now c.args.limits.now c.args.machine.now c.args.task c.requires.at.current
    c.args.op.now c.requires.at.at c.act.new.machine _ _ c.act.ensures.does)
    c.requires.begun in
    on_amid c.args.app.now c.args.limits.now c.args.machine.now c.act.new.machine c.args.task
    c.args.op.now c.requires.at c.requires.none (c.act.ensures.plain e) (c.act.ensures.runs e)
    (c.act.ensures.amid e) (g.L.Log.logged c.act.new.log).told does s h going

pub overflow_add-machine-in-LettingGo : goal.overflow_add-machine-in-LettingGo
overflow_add-machine-in-LettingGo g c =
    let going = c.requires.going in
    let w = (c.act.ensures.letting c.in-LettingGo.is).0 in
    let held : 0 < c.act.new.machine.sched.depth = (let one = w.takes.held in omega arith) in
    let does =
    reporting c.args.machine.now c.act.new.machine (g.L.Log.logged c.args.log.now)
    (g.L.Log.logged c.act.new.log) _
    (acts c.args.app.now c.args.limits.now c.args.machine.now c.args.task c.requires.at.current
    c.args.op.now c.requires.at.at c.act.new.machine _ _ c.act.ensures.does)
    c.requires.begun in
    let still =
    steps_held c.args.app.now c.args.limits.now c.args.machine.now c.act.new.machine
    c.requires.none (g.L.Log.logged c.act.new.log).told does held going.state going.stands in
    let is = steps_are c.args.machine.now going.state going.stands in
    let low = below_limits c.args.app.now c.args.limits.now going.state going.goes_on in
    let few = low.1 in
    let most = going.are.3 in
    omega arith

pub returns-in-LettingGo-clause-stands : goal.returns-in-LettingGo-clause-stands
returns-in-LettingGo-clause-stands g c = λ s h.
    let w = (c.act.ensures.letting c.in-LettingGo.is).0 in
    let held : 0 < c.act.new.machine.sched.depth = (let one = w.takes.held in omega arith) in
    let does =
    reporting c.args.machine.now c.act.new.machine (g.L.Log.logged c.args.log.now)
    (g.L.Log.logged c.act.new.log) _
    (acts c.args.app.now c.args.limits.now c.args.machine.now c.args.task c.requires.at.current
    c.args.op.now c.requires.at.at c.act.new.machine _ _ c.act.ensures.does)
    c.requires.begun in
    stands_held c.args.app.now c.args.limits.now c.args.machine.now c.act.new.machine
    c.requires.none (g.L.Log.logged c.act.new.log).told does held s h

pub returns-in-LettingGo-clause-told : goal.returns-in-LettingGo-clause-told
returns-in-LettingGo-clause-told g c = λ s h.
    let w = (c.act.ensures.letting c.in-LettingGo.is).0 in
    let held : 0 < c.act.new.machine.sched.depth = (let one = w.takes.held in omega arith) in
    let does =
    reporting c.args.machine.now c.act.new.machine (g.L.Log.logged c.args.log.now)
    (g.L.Log.logged c.act.new.log) _
    (acts c.args.app.now c.args.limits.now c.args.machine.now c.args.task c.requires.at.current
    c.args.op.now c.requires.at.at c.act.new.machine _ _ c.act.ensures.does)
    c.requires.begun in
    told_held c.args.app.now c.args.limits.now c.args.machine.now c.act.new.machine
    c.requires.none (g.L.Log.logged c.act.new.log).told does held s h

pub returns-in-LettingGo-clause-letting : goal.returns-in-LettingGo-clause-letting
returns-in-LettingGo-clause-letting g c = λ e.
    let w = c.act.ensures.letting c.in-LettingGo.is in (
      letting_begun c.args.app.now c.args.limits.now c.args.machine.now c.act.new.machine c.args.task
          c.args.op.now c.requires.at w.0 _,
      w.1,
    )

pub returns-in-LettingGo-clause-held : goal.returns-in-LettingGo-clause-held
returns-in-LettingGo-clause-held g c = λ e s h.
    let w = (c.act.ensures.letting c.in-LettingGo.is).0 in
    let held : 0 < c.act.new.machine.sched.depth = (let one = w.takes.held in omega arith) in
    let does =
    reporting c.args.machine.now c.act.new.machine (g.L.Log.logged c.args.log.now)
    (g.L.Log.logged c.act.new.log) _
    (acts c.args.app.now c.args.limits.now c.args.machine.now c.args.task c.requires.at.current
    c.args.op.now c.requires.at.at c.act.new.machine _ _ c.act.ensures.does)
    c.requires.begun in
    on_begun c.args.app.now c.args.limits.now c.args.machine.now c.act.new.machine c.args.task
    c.args.op.now c.requires.at w c.requires.none _ s h refl (
    stands_held c.args.app.now c.args.limits.now c.args.machine.now c.act.new.machine
    c.requires.none (g.L.Log.logged c.act.new.log).told does held s h)
