use Rattle.std.proofs.Common.{ℕ, subst}
use Rattle.model.specs.Time.{jump}
use Rattle.machine.specs.StandsFor.{At}
use Rattle.kernel.proofs.idle.pass_to_next.Goals as goal

pub returns-then-ticks-clause-does : goal.returns-then-ticks-clause-does
returns-then-ticks-clause-does c = λ log s h.
    subst (λ (n : ℕ). At c.jump_unslept.new.self log (jump n s)) (c.ticks_ahead-ticks.ensures.ahead s h.stands)
    (c.jump_unslept.ensures.does log s h)

pub returns-else-ticks-clause-does : goal.returns-else-ticks-clause-does
returns-else-ticks-clause-does c = λ log s h.
    subst (λ (n : ℕ). At c.jump.new.self log (jump n s)) (c.ticks_ahead-ticks.ensures.ahead s h.stands)
    (c.jump.ensures.does log s h)
