use Rattle.std.proofs.Common.{length}
use Rattle.lists.specs.Lists.{entries_of}
use Rattle.clock.proofs.Taking.{Taking}
use Rattle.clock.proofs.due.take_due.Given as goal

abbrev pub invariant-loop-task : goal.invariant-loop-task
invariant-loop-task l = Taking l.fn.lists l.lists l.list.number l.tick l.due.items

abbrev pub decreases-loop-task : goal.decreases-loop-task
decreases-loop-task l = length (entries_of l.lists l.list.number)
