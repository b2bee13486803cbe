use Rattle.objects.proofs.Laying.{IsLaid}
use Rattle.objects.proofs.items.Items.of_lengths.Given as goal

abbrev pub invariant-loop-queue : goal.invariant-loop-queue
invariant-loop-queue l = IsLaid l.sizes l.bases l.used l.queue
