use Rattle.laws.proofs.Armed.{base_row, never_comes}
use Rattle.laws.proofs.arming.disarmed_handlers_reach_nothing.Goals as goal

pub returns-clause-never : goal.returns-clause-never
returns-clause-never c = never_comes

pub returns-clause-row : goal.returns-clause-row
returns-clause-row c = base_row
