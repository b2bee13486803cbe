use Rattle.std.proofs.Common.{◌≡◌, ℕ, length, map, take, get_or}
use Rattle.model.specs.State.{no_task}
use Rattle.model.specs.Step.{task_at_reset}
use Rattle.machine.specs.StandsFor.{progress_in}
use Rattle.machine.proofs.boot.progress_of.Given as goal

abbrev pub invariant-loop-index : goal.invariant-loop-index
invariant-loop-index l = record {
  progress : (i : ℕ) → progress_in l.progress i ≡ (get_or (map (task_at_reset l.start) (take l.index l.tasks)) i no_task).progress;
  full : length l.progress ≡ 32;
}
