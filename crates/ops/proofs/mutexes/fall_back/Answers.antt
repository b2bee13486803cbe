use Rattle.std.proofs.Common.{max, ℕ, None, ap, subst, sym, ◌∙◌}
use Rattle.model.specs.State.{task_at}
use Rattle.model.specs.Mutexes.{set_priority}
use Rattle.machine.specs.StandsFor.{At}
use Rattle.ops.proofs.Ranking.{fell_back, fell_nowhere}
use Rattle.ops.proofs.mutexes.fall_back.Goals as goal

pub returns-then-mutexes_held-eq1-clause-does : goal.returns-then-mutexes_held-eq1-clause-does
returns-then-mutexes_held-eq1-clause-does c = λ log s h l.
    let best = c.best_priority-best.ensures.stands s h.stands.rest.objects h.stands.rest.awake c.requires.free in
    let base = c.base_priority-base.ensures.base ∙ h.stands.sched.base_priorities c.args.holder in
    let greater =
    c.max.ensures ∙ ap (λ (n : ℕ). max n c.best_priority-best.result) base
    ∙ ap (λ (n : ℕ). max (task_at s c.args.holder).base_priority n) best in
    fell_back (At c.set_priority.new.machine log) s c.args.object c.args.holder
    (sym (c.mutexes_held.ensures.stands s None h.stands.rest.objects) ∙ c.if-mutexes_held-eq1.true)
    (subst (λ (n : ℕ). At c.set_priority.new.machine log (set_priority c.args.holder n s))
    greater (c.set_priority.ensures.does log s h l))

pub returns-else-mutexes_held-eq1-clause-does : goal.returns-else-mutexes_held-eq1-clause-does
returns-else-mutexes_held-eq1-clause-does c = λ log s h l.
    fell_nowhere (At c.args.machine.now log) s c.args.object c.args.holder
    (λ e. c.if-mutexes_held-eq1.false (c.mutexes_held.ensures.stands s None h.stands.rest.objects ∙ e)) h
