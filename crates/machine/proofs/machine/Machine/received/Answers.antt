use Rattle.machine.proofs.Acting.{received_at}
use Rattle.machine.proofs.machine.Machine.received.Goals as goal

pub returns-clause-does : goal.returns-clause-does
returns-clause-does c = λ log s h.
    received_at c.args.app.now c.args.self.now c.set_answer.new.self c.complete.new.self log s h
    c.args.task c.requires.current c.args.given c.set_answer.ensures c.complete.ensures.does
