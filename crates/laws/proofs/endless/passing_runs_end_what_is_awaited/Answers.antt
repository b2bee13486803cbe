use Rattle.laws.proofs.Awaited.{awaited_ended}
use Rattle.laws.proofs.endless.passing_runs_end_what_is_awaited.Goals as goal

pub returns : goal.returns
returns c = awaited_ended
