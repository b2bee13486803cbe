use Rattle.model.specs.Notifications.{notify_with_number}
use Rattle.laws.proofs.Notifying.{at-call_notify, at-notify, woken-call_notify, woken-notify}
use Rattle.laws.proofs.notifications.notifies_are_not_lost.Goals as goal

pub returns-clause-handler : goal.returns-clause-handler
returns-clause-handler c = λ app handler op_index task action answer s. at-notify task
    (notify_with_number s.variables answer action) s

pub returns-clause-task : goal.returns-clause-task
returns-clause-task c = at-call_notify

pub returns-clause-woken : goal.returns-clause-woken
returns-clause-woken c = λ app handler op_index task action answer s. woken-notify task
    (notify_with_number s.variables answer action) s

pub returns-clause-woken_by_task : goal.returns-clause-woken_by_task
returns-clause-woken_by_task c = woken-call_notify
