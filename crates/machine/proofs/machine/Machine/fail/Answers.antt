use Rattle.std.proofs.Common.{refl}
use Rattle.machine.proofs.Acting.{failed_at}
use Rattle.machine.proofs.Renewed.{failed_any}
use Rattle.machine.proofs.machine.Machine.fail.Goals as goal

pub returns-clause-does : goal.returns-clause-does
returns-clause-does c = λ log s h. rw c.or-self.ensures (failed_at c.args.self.now log s h c.args.check c.args.check refl)

pub returns-clause-any : goal.returns-clause-any
returns-clause-any c = λ log s h.
    rw c.or-self.ensures (record { stands = failed_any c.args.self.now s h.stands c.args.check; log = h.log })
