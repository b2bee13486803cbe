use Rattle.std.proofs.Common.{◌≡◌, ℕ, ◌<◌, ◌≤◌, length}
use Rattle.model.specs.State.{no_progress}
use Rattle.machine.specs.StandsFor.{progress_in}
use Rattle.machine.proofs.front.clear_between.Given as goal

abbrev pub invariant-loop-task : goal.invariant-loop-task
invariant-loop-task l = record {
  cleared : (task : ℕ) → l.first ≤ task → task < l.task → progress_in l.progress task ≡ no_progress;
  same : (task : ℕ) → l.fn.end ≤ task → progress_in l.progress task ≡ progress_in l.initial.progress task;
  full : length l.progress ≡ 32;
}
