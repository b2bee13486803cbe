use Rattle.machine.proofs.Beside.{noted_any, noted_at}
use Rattle.machine.proofs.machine.Machine.set_notification.Goals as goal

pub returns-clause-does : goal.returns-clause-does
returns-clause-does c = λ log s h.
    rw c.set.ensures.set (noted_at c.args.self.now log s c.args.task c.args.notification c.set.ensures.known h)

pub returns-clause-any : goal.returns-clause-any
returns-clause-any c = λ log s h.
    rw c.set.ensures.set (noted_any c.args.self.now log s c.args.task c.args.notification c.set.ensures.known h)
