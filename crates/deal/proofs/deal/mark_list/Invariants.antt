use Rattle.std.proofs.Common.{take}
use Rattle.deal.specs.Closing.{Marks}
use Rattle.deal.proofs.deal.mark_list.Given as goal

abbrev pub invariant-loop-number : goal.invariant-loop-number
invariant-loop-number l = Marks (take l.number-index l.list) l.fn.marks l.marks
