use Rattle.objects.proofs.Holding.{free_at_first}
use Rattle.objects.proofs.mutexes.Mutexes.new.Goals as goal

pub invariant_of-result : goal.invariant_of-result
invariant_of-result c = free_at_first
