use Rattle.std.proofs.Common.{◌≡◌, ◌≤◌, ◌+◌, ◌-◌, ◌*◌, [], length}
use Rattle.model.specs.Run.{events_after}
use Rattle.machine.specs.Logged.{all_of}
use Rattle.machine.specs.Can.{IsUnderWay}
use Rattle.shelf.specs.Shelves.{AreCheckpoints}
use Rattle.shelf.proofs.Joining.{AreBehind}
use Rattle.shelf.proofs.checkpoints.put_checkpoints.Given as goal

abbrev pub invariant-checkpoints : goal.invariant-checkpoints
invariant-checkpoints l = record {
  way : IsUnderWay l.app [] l.limits l.kernel;
  far : l.kernel.steps ≤ l.next;
  events : all_of l.trail ≡ events_after l.app l.limits [] l.kernel.steps;
  checkpoints : AreCheckpoints l.app l.limits l.stride l.checkpoints.items;
  behind : AreBehind l.app l.limits l.kernel (all_of l.trail) l.checkpoints.items;
  next : l.next ≡ length l.checkpoints.items * l.stride;
  meter : l.meter ≡ l.kernel.steps;
  low : l.next ≤ l.limits.steps + l.stride;
}

abbrev pub decreases-checkpoints : goal.decreases-checkpoints
decreases-checkpoints l = l.limits.steps + l.stride - l.next
