use Rattle.std.proofs.Common.{rules, ◌≡◌, ◌<◌, length, sym, subst}
use Rattle.model.specs.Suspension as suspension
use Rattle.sched.specs.Schedule as mine
use Rattle.sched.specs.Schedule.{IsCalm, Schedule}
use Rattle.sched.specs.StandsFor.{StandsFor, StandsBefore}
use Rattle.sched.proofs.LinedUp.{IsFalling, falling_at_home}
use Rattle.sched.proofs.Suspending.{placing_resumed, stands_resumed}
use Rattle.sched.proofs.sched.Sched.resume.Goals as goal

pub returns-then-not-self-task-clause-stands : goal.returns-then-not-self-task-clause-stands
returns-then-not-self-task-clause-stands c = λ s h l.
    let v : Schedule = c.args.self.now in
    let known : c.args.task < length v.suspended =
    subst (λ (w : Schedule). c.args.task < length w.suspended) c.self.view_is (search rules) in
    let is : v ≡ mine.resume c.args.task v = search rules in
    subst (λ (w : Schedule). StandsFor w (suspension.resume c.args.task s)) (sym is)
    (stands_resumed v s c.args.task (subst IsCalm c.self.view_is c.self.invariant.calm) h l known c.requires.free)

pub returns-then-not-self-task-clause-placing : goal.returns-then-not-self-task-clause-placing
returns-then-not-self-task-clause-placing c = λ s decider h ne l.
    let v : Schedule = c.args.self.now in
    let known : c.args.task < length v.suspended =
    subst (λ (w : Schedule). c.args.task < length w.suspended) c.self.view_is (search rules) in
    let falling : IsFalling v.ready =
    subst (λ (w : Schedule). IsFalling w.ready) c.self.view_is
    (falling_at_home 0 c.self.inside.ready c.self.invariant.lists_are.at_home) in
    let is : v ≡ mine.resume c.args.task v = search rules in
    subst (λ (w : Schedule). StandsBefore decider w (suspension.resume c.args.task s)) (sym is)
    (placing_resumed v s decider c.args.task (subst IsCalm c.self.view_is c.self.invariant.calm)
    falling h ne l known c.requires.free)

pub returns-clause-stands : goal.returns-clause-stands
returns-clause-stands c = λ s h l.
    let v : Schedule = c.args.self.now in
    let known : c.args.task < length v.suspended =
    subst (λ (w : Schedule). c.args.task < length w.suspended) c.self.view_is (search rules) in
    let is : c.wake.new.self ≡ mine.resume c.args.task v = search rules in
    subst (λ (w : Schedule). StandsFor w (suspension.resume c.args.task s)) (sym is)
    (stands_resumed v s c.args.task (subst IsCalm c.self.view_is c.self.invariant.calm) h l known c.requires.free)

pub returns-clause-placing : goal.returns-clause-placing
returns-clause-placing c = λ s decider h ne l.
    let v : Schedule = c.args.self.now in
    let known : c.args.task < length v.suspended =
    subst (λ (w : Schedule). c.args.task < length w.suspended) c.self.view_is (search rules) in
    let falling : IsFalling v.ready =
    subst (λ (w : Schedule). IsFalling w.ready) c.self.view_is
    (falling_at_home 0 c.self.inside.ready c.self.invariant.lists_are.at_home) in
    let is : c.wake.new.self ≡ mine.resume c.args.task v = search rules in
    subst (λ (w : Schedule). StandsBefore decider w (suspension.resume c.args.task s)) (sym is)
    (placing_resumed v s decider c.args.task (subst IsCalm c.self.view_is c.self.invariant.calm)
    falling h ne l known c.requires.free)
