use Rattle.std.proofs.Common.{◌∙◌, ap, subst}
use Rattle.sched.specs.Schedule as mine
use Rattle.sched.specs.Schedule.{IsCalm}
use Rattle.sched.specs.ReadyLists.{schedule_of}
use Rattle.sched.proofs.Standing.{does_choose}
use Rattle.sched.proofs.sched.Sched.choose.Goals as goal

pub returns-clause-stands : goal.returns-clause-stands
returns-clause-stands c =
    let q = c.self.inside in
    does_choose (subst IsCalm c.self.view_is c.self.invariant.calm)
    (ap (λ current. schedule_of q.ready q.pending current q.priorities q.base_priorities q.depth q.suspensions q.suspended)
    c.first-self-inside.ensures.first
    ∙ ap mine.choose c.self.view_is)
