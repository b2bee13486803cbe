use Rattle.objects.proofs.Taking.{TakenOut}
use Rattle.objects.proofs.waiting_lists.WaitingLists.take.Given as goal

abbrev pub invariant-loop : goal.invariant-loop
invariant-loop l = TakenOut l.fn.self l.self l.list l.counter l.taken.items
