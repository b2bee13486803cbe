use Rattle.soundness.proofs.Reached.{reached_after}
use Rattle.laws.proofs.states.states_are_sound.Goals as goal

pub returns : goal.returns
returns c = reached_after
