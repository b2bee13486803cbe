use Rattle.std.proofs.Common.{◌≡◌, ℕ, List, ◌++◌, take, drop}
use Rattle.model.specs.State.{State, for_each}
use Rattle.model.specs.Switching.{make_ready}
use Rattle.sched.specs.StandsFor.{StandsFor}
use Rattle.clock.specs.StandsFor as clock
use Rattle.machine.specs.Can.{AreThere, AreToWake}
use Rattle.machine.proofs.switching.wake_all.Given as goal

abbrev pub invariant-loop-task : goal.invariant-loop-task
invariant-loop-task l = record {
  ready : (s : State) → StandsFor l.fn.sched s → AreThere s l.tasks
      → StandsFor l.sched (for_each make_ready (take l.task-index l.tasks) s);
  woken : (s : State) → clock.StandsFor l.fn.clock s → AreThere s l.tasks
      → clock.StandsFor l.clock (for_each make_ready (take l.task-index l.tasks) s);
  free : AreToWake l.sched (drop l.task-index l.tasks);
  rest : (more : List ℕ) → AreToWake l.fn.sched (l.tasks ++ more) → AreToWake l.sched (drop l.task-index l.tasks ++ more);
  depth : l.sched.depth ≡ l.fn.sched.depth;
  suspensions : l.sched.suspensions ≡ l.fn.sched.suspensions;
  current : l.sched.current ≡ l.fn.sched.current;
}
