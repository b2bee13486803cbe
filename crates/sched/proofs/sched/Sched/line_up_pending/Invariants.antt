use Rattle.std.proofs.Common.{◌≡◌, length}
use Rattle.sched.specs.Schedule.{line_up_pending}
use Rattle.sched.proofs.sched.Sched.line_up_pending.Given as goal

abbrev pub invariant-loop-task : goal.invariant-loop-task
invariant-loop-task l = line_up_pending l.self ≡ line_up_pending l.fn.self

abbrev pub decreases-loop-task : goal.decreases-loop-task
decreases-loop-task l = length l.self.pending
