use Rattle.laws.proofs.Idle.{idle_after}
use Rattle.laws.proofs.states.idle_runs_alone.Goals as goal

pub returns : goal.returns
returns c = idle_after
