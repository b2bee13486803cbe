use Rattle.model.proofs.OneRun.{one_row}
use Rattle.laws.proofs.runs.row_is_one.Goals as goal

pub returns : goal.returns
returns c = one_row
