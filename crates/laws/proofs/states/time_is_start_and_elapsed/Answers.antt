use Rattle.soundness.proofs.Reached.{reached_after}
use Rattle.laws.proofs.states.time_is_start_and_elapsed.Goals as goal

pub returns : goal.returns
returns c = λ app formed limits plan n. (reached_after app formed limits plan n).sound.time.1
