use Rattle.std.proofs.Common.{◌≡◌, length}
use Rattle.lists.specs.Lists.{entries_of}
use Rattle.groups.proofs.Passing.{Passed, from}
use Rattle.groups.proofs.met.take_met.Given as goal

abbrev pub invariant-loop-at : goal.invariant-loop-at
invariant-loop-at l =
    Passed l.fn.lists l.lists l.fn.list.number l.wants l.bits l.at l.met.tasks.items l.met.left × (l.met.bits ≡ l.bits)

abbrev pub decreases-loop-at : goal.decreases-loop-at
decreases-loop-at l = length (from l.at (entries_of l.lists l.fn.list.number))
