use Rattle.laws.proofs.WakeTimes.{wake_later}
use Rattle.laws.proofs.states.sleepers_wake_later.Goals as goal

pub returns : goal.returns
returns c = wake_later
