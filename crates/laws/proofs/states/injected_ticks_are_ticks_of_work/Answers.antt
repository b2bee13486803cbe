use Rattle.laws.proofs.Lengthening.{is_a_tick_of_work}
use Rattle.laws.proofs.states.injected_ticks_are_ticks_of_work.Goals as goal

pub returns : goal.returns
returns c = λ app limits s task ticks. is_a_tick_of_work app limits task ticks s
