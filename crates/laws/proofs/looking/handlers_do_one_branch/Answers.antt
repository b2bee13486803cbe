use Rattle.laws.proofs.Handling.{skips_branch, skips_second, takes_branch}
use Rattle.laws.proofs.looking.handlers_do_one_branch.Goals as goal

pub returns-clause-taken : goal.returns-clause-taken
returns-clause-taken c = takes_branch

pub returns-clause-skipped : goal.returns-clause-skipped
returns-clause-skipped c = skips_branch

pub returns-clause-other : goal.returns-clause-other
returns-clause-other c = skips_second
