use Rattle.std.proofs.Common.{◌≡◌, ℕ, ◌<◌}
use Rattle.machine.specs.StandsFor.{progress_in}
use Rattle.machine.proofs.front.are_same.Given as goal

abbrev pub invariant-loop-task : goal.invariant-loop-task
invariant-loop-task l = (task : ℕ) → task < l.task → progress_in l.progress task ≡ progress_in l.other task
