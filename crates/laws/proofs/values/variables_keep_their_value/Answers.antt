use Rattle.laws.proofs.Storing.{same_after, same_after_step}
use Rattle.laws.proofs.values.variables_keep_their_value.Goals as goal

pub returns-clause-step : goal.returns-clause-step
returns-clause-step c = same_after_step

pub returns-clause-run : goal.returns-clause-run
returns-clause-run c = same_after
