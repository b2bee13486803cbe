use Rattle.laws.proofs.Idle.{not_outranked-tick, not_outranked-idle}
use Rattle.laws.proofs.states.no_one_outranks_after_a_tick.Goals as goal

pub returns : goal.returns
returns c = record { tick = not_outranked-tick; idle = not_outranked-idle }
