use Rattle.laws.proofs.Awaited.{spared, passes_then}
use Rattle.laws.proofs.endless.endless_tasks_are_not_awaited.Goals as goal

pub returns-clause-spared : goal.returns-clause-spared
returns-clause-spared c = spared

pub returns-clause-passes : goal.returns-clause-passes
returns-clause-passes c = passes_then
