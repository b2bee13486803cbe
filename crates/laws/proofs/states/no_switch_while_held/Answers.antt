use Rattle.laws.proofs.Held.{same_runs}
use Rattle.laws.proofs.states.no_switch_while_held.Goals as goal

pub returns : goal.returns
returns c = same_runs
