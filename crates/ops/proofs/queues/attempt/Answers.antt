use Rattle.std.proofs.Common.{sym, ◌∙◌}
use Rattle.model.specs.State.{object_at}
use Rattle.ops.proofs.Calling.{attempted, attempted_any, declined, declined_any, is_possible}
use Rattle.machine.specs.StandsFor.Stands.{Placed}
use Rattle.ops.proofs.queues.attempt.Goals as goal

pub returns-then-possible-clause-does : goal.returns-then-possible-clause-does
returns-then-possible-clause-does c = λ log s h.
    attempted c.fulfil.new.machine log s c.args.caller c.args.object c.args.access
    (is_possible c.args.machine.now s c.args.object c.args.access _
    (Placed h.stands) (sym c.possible.ensures.possible ∙ c.if-possible.true))
    (c.fulfil.ensures.does log s h)

pub returns-then-possible-clause-any : goal.returns-then-possible-clause-any
returns-then-possible-clause-any c = λ log s h.
    attempted_any c.fulfil.new.machine log s c.args.caller c.args.object c.args.access
    (is_possible c.args.machine.now s c.args.object c.args.access _ h.stands (sym c.possible.ensures.possible ∙ c.if-possible.true))
    (c.fulfil.ensures.any log s h)

pub returns-else-possible-clause-does : goal.returns-else-possible-clause-does
returns-else-possible-clause-does c = λ log s h.
    declined c.args.machine.now log s c.args.caller c.args.object c.args.access
    (is_possible c.args.machine.now s c.args.object c.args.access _
    (Placed h.stands) (sym c.possible.ensures.possible ∙ c.if-possible.false))
    h

pub returns-else-possible-clause-any : goal.returns-else-possible-clause-any
returns-else-possible-clause-any c = λ log s h.
    declined_any c.args.machine.now log s c.args.caller c.args.object c.args.access
    (is_possible c.args.machine.now s c.args.object c.args.access _
    h.stands (sym c.possible.ensures.possible ∙ c.if-possible.false))
    h

pub returns-else-possible-clause-answer : goal.returns-else-possible-clause-answer
returns-else-possible-clause-answer c = λ s h.
    c.refusal.ensures (object_at s c.args.object)
    (is_possible c.args.machine.now s c.args.object c.args.access _ h (sym c.possible.ensures.possible ∙ c.if-possible.false))
