use Rattle.laws.proofs.Armed.{always_comes, tick_comes}
use Rattle.laws.proofs.arming.what_is_never_disarmed_can_come.Goals as goal

pub returns-clause-tick : goal.returns-clause-tick
returns-clause-tick c = tick_comes

pub returns-clause-handler : goal.returns-clause-handler
returns-clause-handler c = always_comes
