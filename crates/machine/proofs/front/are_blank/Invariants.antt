use Rattle.std.proofs.Common.{◌≡◌, ℕ, ◌<◌, ◌≤◌}
use Rattle.model.specs.State.{no_progress}
use Rattle.machine.specs.StandsFor.{progress_in}
use Rattle.machine.proofs.front.are_blank.Given as goal

abbrev pub invariant-loop-task : goal.invariant-loop-task
invariant-loop-task l = (task : ℕ) → l.first ≤ task → task < l.task → progress_in l.progress task ≡ no_progress
