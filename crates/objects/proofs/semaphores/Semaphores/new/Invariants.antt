use Rattle.std.proofs.Common.{ℕ, ◌<◌, get_or}
use Rattle.model.specs.State.{Object}
use Rattle.objects.proofs.Filling.{IsFilled}
use Rattle.objects.proofs.semaphores.Semaphores.new.Given as goal

abbrev pub invariant-loop-index : goal.invariant-loop-index
invariant-loop-index l = record {
  max_counts : IsFilled (λ (o : Object). o.max_count) l.objects l.max_counts l.index;
  counts : IsFilled (λ (o : Object). o.count) l.objects l.counts l.index;
  small : (object : ℕ) → get_or l.max_counts object 0 < 65536;
}
