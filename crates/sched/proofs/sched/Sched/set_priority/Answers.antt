use Rattle.std.proofs.Common.{rules, ◌≡◌, ◌<◌, length, ◌∙◌, ap, subst}
use Rattle.sched.specs.Schedule as mine
use Rattle.sched.specs.Schedule.{IsCalm, Schedule, is_ready}
use Rattle.sched.proofs.LinedUp.{ready_prioritised}
use Rattle.sched.proofs.Standing.{does_set_priority}
use Rattle.sched.proofs.sched.Sched.set_priority.Goals as goal

pub returns-then-priority-clause-stands : goal.returns-then-priority-clause-stands
returns-then-priority-clause-stands c =
    let known : c.args.task < length c.args.self.now.priorities =
    subst (λ (v : Schedule). c.args.task < length v.priorities) c.self.view_is (search rules) in
    does_set_priority c.args.task c.args.priority
    (subst IsCalm c.self.view_is c.self.invariant.calm) c.requires.calm known (search rules)

pub returns-clause-stands : goal.returns-clause-stands
returns-clause-stands c =
    let known : c.args.task < length c.args.self.now.priorities =
    subst (λ (v : Schedule). c.args.task < length v.priorities) c.self.view_is (search rules) in
    does_set_priority c.args.task c.args.priority
    (subst IsCalm c.self.view_is c.self.invariant.calm) c.requires.calm known (search rules)

pub returns-clause-ready : goal.returns-clause-ready
returns-clause-ready c =
    let is : c.to_back.new.self ≡ mine.set_priority c.args.task c.args.priority c.args.self.now = search rules in
    λ other. ap (λ (v : Schedule). is_ready v other) is ∙ ready_prioritised c.args.self.now c.args.task c.args.priority other
