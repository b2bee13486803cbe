use Rattle.std.proofs.Common.{◌∙◌}
use Rattle.machine.proofs.Either.{elapsed_is}
use Rattle.machine.proofs.Arriving.{lowered_at, lowered_any, raised_are}
use Rattle.machine.specs.StandsFor.Stands.{Placed}
use Rattle.machine.proofs.machine.Machine.take_raised.Goals as goal

pub returns-clause-does : goal.returns-clause-does
returns-clause-does c = λ log s h.
    lowered_at c.args.self.now log s c.take_due.new.self c.elapsed.result
    (c.elapsed.ensures.elapsed ∙ elapsed_is c.args.self.now s (Placed h.stands)) c.take_due.ensures.rest
    c.take_due.ensures.lowered c.take_due.ensures.full h

pub returns-clause-any : goal.returns-clause-any
returns-clause-any c = λ log s h.
    lowered_any c.args.self.now log s c.take_due.new.self c.elapsed.result
    (c.elapsed.ensures.elapsed ∙ elapsed_is c.args.self.now s h.stands) c.take_due.ensures.rest
    c.take_due.ensures.lowered c.take_due.ensures.full h

pub returns-clause-were : goal.returns-clause-were
returns-clause-were c = λ s h.
    raised_are c.args.self.now s c.elapsed.result c.take_due.new.due h
    (c.elapsed.ensures.elapsed ∙ elapsed_is c.args.self.now s h) c.take_due.ensures.due
