use Rattle.soundness.proofs.Settled.{settled_after}
use Rattle.laws.proofs.states.running_task_is_ready.Goals as goal

pub returns : goal.returns
returns c = settled_after
