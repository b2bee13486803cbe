use Rattle.model.specs.State.{Object}
use Rattle.objects.proofs.Filling.{IsFilled}
use Rattle.objects.proofs.items.lengths_of.Given as goal

abbrev pub invariant-loop-index : goal.invariant-loop-index
invariant-loop-index l = IsFilled (λ (o : Object). o.size) l.objects l.lengths l.index
