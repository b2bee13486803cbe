use Rattle.std.proofs.Common.{◌≡◌, ℕ, ◌-◌, ◌<◌, ◌≤◌}
use Rattle.objects.specs.Items.{object_in}
use Rattle.objects.specs.Places.{object_places}
use Rattle.objects.proofs.items.Items.is_at.Given as goal

abbrev pub invariant-loop-queue : goal.invariant-loop-queue
invariant-loop-queue l = record {
  within : l.queue ≤ object_places;
  same : (queue : ℕ) → queue < l.queue → object_in l.self queue ≡ object_in l.snapshot queue;
}

abbrev pub decreases-loop-queue : goal.decreases-loop-queue
decreases-loop-queue l = object_places - l.queue
