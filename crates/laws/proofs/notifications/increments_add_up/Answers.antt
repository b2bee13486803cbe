use Rattle.laws.proofs.Notifying.{leaves_one_or_none, takes_both, wakes_once}
use Rattle.laws.proofs.notifications.increments_add_up.Goals as goal

pub returns-clause-wake : goal.returns-clause-wake
returns-clause-wake c = wakes_once

pub returns-clause-count : goal.returns-clause-count
returns-clause-count c = takes_both

pub returns-clause-left : goal.returns-clause-left
returns-clause-left c = leaves_one_or_none
