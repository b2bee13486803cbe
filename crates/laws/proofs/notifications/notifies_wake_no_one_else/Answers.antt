use Rattle.laws.proofs.Notifying.{left-notify, spares_others, suspended_stays}
use Rattle.laws.proofs.notifications.notifies_wake_no_one_else.Goals as goal

pub returns-clause-others : goal.returns-clause-others
returns-clause-others c = λ task other action s apart. spares_others task other action s apart

pub returns-clause-not_waiting : goal.returns-clause-not_waiting
returns-clause-not_waiting c = left-notify

pub returns-clause-suspended : goal.returns-clause-suspended
returns-clause-suspended c = suspended_stays
