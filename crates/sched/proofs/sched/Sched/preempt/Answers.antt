use Rattle.std.proofs.Common.{rules}
use Rattle.sched.proofs.Standing.{does_preempt}
use Rattle.sched.proofs.sched.Sched.preempt.Goals as goal

pub returns-then-outranked-clause-stands : goal.returns-then-outranked-clause-stands
returns-then-outranked-clause-stands c = does_preempt c.is_outranked-outranked.ensures.calm (search rules)

pub returns-else-outranked-clause-stands : goal.returns-else-outranked-clause-stands
returns-else-outranked-clause-stands c = does_preempt c.is_outranked-outranked.ensures.calm (search rules)
