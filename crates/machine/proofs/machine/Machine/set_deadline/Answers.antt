use Rattle.std.proofs.Common.{Some, None, ◌+◌, ap, refl}
use Rattle.machine.specs.StandsFor.{progress_in}
use Rattle.machine.proofs.Continuing.{dated}
use Rattle.machine.proofs.machine.Machine.set_deadline.Goals as goal

pub returns-in-None-clause-does : goal.returns-in-None-clause-does
returns-in-None-clause-does c = λ log s h.
    dated c.args.self.now c.set_call_deadline.new.self log s h c.args.task c.requires.can.current
    (progress_in c.args.self.now.progress c.args.task) refl None c.args.ticks
    (rw c.in-None.is refl) c.set_call_deadline.ensures

pub returns-in-Some-clause-does : goal.returns-in-Some-clause-does
returns-in-Some-clause-does c = λ log s h.
    dated c.args.self.now c.set_call_deadline-in-Some.new.self log s h c.args.task
    c.requires.can.current (progress_in c.args.self.now.progress c.args.task) refl _ c.args.ticks
    (rw c.in-Some.is (ap (λ m. Some (m + c.in-Some.ticks)) c.now.ensures.now)) c.set_call_deadline-in-Some.ensures
