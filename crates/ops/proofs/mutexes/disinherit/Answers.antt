use Rattle.std.proofs.Common.{ℕ, None, subst, sym, ◌∙◌}
use Rattle.model.specs.Mutexes.{set_priority}
use Rattle.machine.specs.StandsFor.{At}
use Rattle.ops.proofs.Ranking.{disinherited, disinherited_not}
use Rattle.ops.proofs.mutexes.disinherit.Goals as goal

pub returns-then-mutexes_held-eq0-clause-does : goal.returns-then-mutexes_held-eq0-clause-does
returns-then-mutexes_held-eq0-clause-does c = λ log s h l.
    disinherited (At c.set_priority.new.machine log) s c.args.task
    (sym (c.mutexes_held.ensures.stands s None h.stands.rest.objects) ∙ c.if-mutexes_held-eq0.true)
    (subst (λ (n : ℕ). At c.set_priority.new.machine log (set_priority c.args.task n s))
    (c.base_priority-priority.ensures.base ∙ h.stands.sched.base_priorities c.args.task)
    (c.set_priority.ensures.does log s h l))

pub returns-else-mutexes_held-eq0-clause-does : goal.returns-else-mutexes_held-eq0-clause-does
returns-else-mutexes_held-eq0-clause-does c = λ log s h l.
    disinherited_not (At c.args.machine.now log) s c.args.task
    (λ e. c.if-mutexes_held-eq0.false (c.mutexes_held.ensures.stands s None h.stands.rest.objects ∙ e)) h
