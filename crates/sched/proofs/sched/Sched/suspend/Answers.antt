use Rattle.std.proofs.Common.{rules, ◌≡◌, ◌<◌, length, sym, subst}
use Rattle.model.specs.State.{Suspended, with_status}
use Rattle.sched.specs.Schedule as mine
use Rattle.sched.specs.Schedule.{Schedule}
use Rattle.sched.specs.StandsFor.{StandsFor}
use Rattle.sched.proofs.Suspending.{stands_suspended}
use Rattle.sched.proofs.sched.Sched.suspend.Goals as goal

pub returns-clause-stands : goal.returns-clause-stands
returns-clause-stands c = λ s h l.
    let v : Schedule = c.args.self.now in
    let known : c.args.task < length v.suspended =
    subst (λ (w : Schedule). c.args.task < length w.suspended) c.self.view_is (search rules) in
    let is : c.block.new.self ≡ mine.suspend c.args.task v = search rules in
    subst (λ (w : Schedule). StandsFor w (with_status c.args.task Suspended s))
    (sym is) (stands_suspended v s c.args.task h l known)
