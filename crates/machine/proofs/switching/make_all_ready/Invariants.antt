use Rattle.std.proofs.Common.{◌≡◌, take, drop, None}
use Rattle.model.specs.State.{State, for_each}
use Rattle.model.specs.Switching.{make_ready}
use Rattle.sched.specs.StandsFor.{StandsFor}
use Rattle.objects.specs.Objects as objects
use Rattle.groups.specs.StandsFor as groups
use Rattle.machine.specs.Can.{AreThere, AreToWake}
use Rattle.machine.proofs.switching.make_all_ready.Given as goal

abbrev pub invariant-loop-task : goal.invariant-loop-task
invariant-loop-task l = record {
  ready : (s : State) → StandsFor l.fn.sched s → AreThere s l.tasks
      → StandsFor l.sched (for_each make_ready (take l.task-index l.tasks) s);
  left : (s : State) → objects.StandsFor l.fn.objects None s → AreThere s l.tasks
      → objects.StandsFor l.objects None (for_each make_ready (take l.task-index l.tasks) s);
  gone : (s : State) → groups.StandsFor l.fn.groups s → AreThere s l.tasks
      → groups.StandsFor l.groups (for_each make_ready (take l.task-index l.tasks) s);
  free : AreToWake l.sched (drop l.task-index l.tasks);
  unlocked : l.objects.lock ≡ None;
  depth : l.sched.depth ≡ l.fn.sched.depth;
  number : l.objects.number ≡ l.fn.objects.number;
  objects : l.objects.objects ≡ l.fn.objects.objects;
}
