use Rattle.std.proofs.Common.{◌≡◌, ℕ, false, length, take}
use Rattle.model.specs.State.{State, status_at, for_each}
use Rattle.model.specs.Suspension.{can_resume}
use Rattle.model.specs.Switching.{make_ready}
use Rattle.model.specs.Step.{with_ops}
use Rattle.sched.specs.StandsFor.{StandsFor}
use Rattle.machine.specs.Boot.{HasNoneFrom}
use Rattle.machine.proofs.boot.make_ready_at_reset.Given as goal

abbrev pub invariant-loop-index : goal.invariant-loop-index
invariant-loop-index l = record {
  calm : l.sched.depth ≡ 0;
  none : HasNoneFrom l.index l.sched;
  ready : (s : State) → StandsFor l.fn.sched s → length s.tasks ≡ length l.tasks
      → ((task : ℕ) → can_resume (status_at s task) ≡ false)
      → StandsFor l.sched (for_each make_ready (with_ops 0 (take l.index l.tasks)) s);
}
