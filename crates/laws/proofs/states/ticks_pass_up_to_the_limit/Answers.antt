use Rattle.laws.proofs.Working.{one_by_task, one_tick, up_to_limit}
use Rattle.laws.proofs.states.ticks_pass_up_to_the_limit.Goals as goal

pub returns : goal.returns
returns c = record { one = one_tick; task = one_by_task; limit = up_to_limit }
