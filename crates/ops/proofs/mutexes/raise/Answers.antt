use Rattle.std.proofs.Common.{◌<◌, ℕ, subst, ◌∙◌}
use Rattle.machine.specs.StandsFor.{At}
use Rattle.ops.proofs.Ranking.{raised}
use Rattle.ops.proofs.mutexes.raise.Goals as goal

pub returns-then-priority-clause-does : goal.returns-then-priority-clause-does
returns-then-priority-clause-does c = λ log s h l.
    raised (At c.set_priority.new.machine log) s c.args.holder c.args.priority
    (subst (λ (n : ℕ). n < c.args.priority)
    (c.priority.ensures.priority ∙ h.stands.sched.priorities c.args.holder) c.if-priority.true)
    (c.set_priority.ensures.does log s h l)
