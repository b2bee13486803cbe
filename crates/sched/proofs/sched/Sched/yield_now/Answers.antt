use Rattle.std.proofs.Common.{subst, rules}
use Rattle.sched.specs.Schedule.{IsCalm}
use Rattle.sched.proofs.Standing.{does_yield_now}
use Rattle.sched.proofs.sched.Sched.yield_now.Goals as goal

pub returns-clause-stands : goal.returns-clause-stands
returns-clause-stands c = does_yield_now (subst IsCalm c.self.view_is c.self.invariant.calm) (search rules)
