use Rattle.std.proofs.Common.{◌≡◌, refl, sym, subst, ◌∙◌}
use Rattle.model.specs.Suspension.{resume}
use Rattle.sched.specs.Schedule.{Schedule}
use Rattle.machine.specs.StandsFor.{At, AtAny}
use Rattle.ops.proofs.Suspending.{unready_in, resumed_at, resumed_any, unresumed_at, unresumed_any}
use Rattle.ops.proofs.suspension.resume.Goals as goal

pub resume-resumed-requires : goal.resume-resumed-requires
resume-resumed-requires c =
    record { free = λ t. unready_in c.args.machine.now c.requires.stands.0 c.requires.stands.1 c.args.task t }

pub returns-then-resumed-clause-does : goal.returns-then-resumed-clause-does
returns-then-resumed-clause-does c = λ log s h.
    rw c.set_resumed.ensures (resumed_at c.args.machine.now log s c.args.task c.resume-resumed.new.self c.now-now.result
    c.now-now.ensures.now (sym c.if-resumed.ensures.answer) h (λ l. c.if-resumed.ensures.stands s h.stands.sched l))

pub returns-then-resumed-clause-any : goal.returns-then-resumed-clause-any
returns-then-resumed-clause-any c = λ log s h.
    rw c.set_resumed.ensures (resumed_any c.args.machine.now log s c.args.task c.resume-resumed.new.self
    c.now-now.result c.now-now.ensures.now (sym c.if-resumed.ensures.answer) h
    (λ l st. c.if-resumed.ensures.stands s st l) (λ task b ne l. c.if-resumed.ensures.placing s task b ne l))

pub returns-else-resumed-clause-does : goal.returns-else-resumed-clause-does
returns-else-resumed-clause-does c = λ log s h.
    let not = sym c.if-resumed.ensures.answer in
    let same : c.resume-resumed.new.self ≡ c.args.machine.now.sched = c.if-resumed.ensures.schedule ∙ rw not refl in
    subst (λ (v : Schedule). At (record c.args.machine.now { sched = v }) log (resume c.args.task s))
    (sym same) (unresumed_at c.args.machine.now log s c.args.task not h)

pub returns-else-resumed-clause-any : goal.returns-else-resumed-clause-any
returns-else-resumed-clause-any c = λ log s h.
    let not = sym c.if-resumed.ensures.answer in
    let same : c.resume-resumed.new.self ≡ c.args.machine.now.sched = c.if-resumed.ensures.schedule ∙ rw not refl in
    subst (λ (v : Schedule). AtAny (record c.args.machine.now { sched = v }) log (resume c.args.task s))
    (sym same) (unresumed_any c.args.machine.now log s c.args.task not h)
