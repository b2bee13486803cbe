use Rattle.laws.proofs.Sleeping.{sleeps_until}
use Rattle.laws.proofs.states.idle_sleeps_until_something_happens.Goals as goal

pub returns : goal.returns
returns c = sleeps_until
