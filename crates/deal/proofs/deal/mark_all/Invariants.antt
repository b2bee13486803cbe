use Rattle.std.proofs.Common.{◌≡◌, length, take}
use Rattle.std.specs.List.{concat}
use Rattle.deal.specs.Closing.{IsMarked, items_of}
use Rattle.deal.proofs.deal.mark_all.Given as goal

abbrev pub invariant-loop-list : goal.invariant-loop-list
invariant-loop-list l = (length l.marks ≡ length l.fn.marks) × IsMarked (concat (items_of (take l.list-index l.lists))) l.marks
