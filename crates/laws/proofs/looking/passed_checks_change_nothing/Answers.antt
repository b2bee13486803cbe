use Rattle.laws.proofs.Handling.{passes}
use Rattle.laws.proofs.looking.passed_checks_change_nothing.Goals as goal

pub returns : goal.returns
returns c = passes
