use Rattle.model.proofs.OneRun.{one_run}
use Rattle.laws.proofs.runs.run_is_one.Goals as goal

pub returns : goal.returns
returns c = one_run
