use Rattle.laws.proofs.Armed.{run_with, run_without}
use Rattle.laws.proofs.arming.disarmed_handlers_change_no_run.Goals as goal

pub returns-clause-without : goal.returns-clause-without
returns-clause-without c = run_without

pub returns-clause-with_them : goal.returns-clause-with_them
returns-clause-with_them c = run_with
