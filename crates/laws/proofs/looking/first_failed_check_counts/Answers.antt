use Rattle.laws.proofs.Handling.{stands_before_step, stands_in_step}
use Rattle.laws.proofs.looking.first_failed_check_counts.Goals as goal

pub returns-clause-handlers : goal.returns-clause-handlers
returns-clause-handlers c = λ app handlers end s. stands_before_step end app handlers s

pub returns-clause-task : goal.returns-clause-task
returns-clause-task c = λ app limits running end s. stands_in_step end app limits running s
