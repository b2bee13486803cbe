use Rattle.laws.proofs.Handling.{ends_so, fails}
use Rattle.laws.proofs.looking.failed_checks_end_the_handler.Goals as goal

pub returns-clause-nothing : goal.returns-clause-nothing
returns-clause-nothing c = fails

pub returns-clause-ends : goal.returns-clause-ends
returns-clause-ends c = ends_so
