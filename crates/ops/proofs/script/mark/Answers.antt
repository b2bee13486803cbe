use Rattle.std.proofs.Common.{ℕ, sym, subst, refl, arith}
use Rattle.model.specs.declared.event.What.TheVariants as what
use Rattle.model.specs.Ops.{complete}
use Rattle.model.specs.State.{progress_at}
use Rattle.model.specs.Switching.{write}
use Rattle.machine.specs.StandsFor.{At}
use Rattle.machine.specs.StandsFor.Stands.{Placed}
use Rattle.ops.proofs.script.mark.Goals as goal

pub returns-then-is_missing-clause-does : goal.returns-then-is_missing-clause-does
returns-then-is_missing-clause-does g c = record {
  at = λ s h. rw (sym (c.if-is_missing.ensures s (Placed h.stands))) (c.fail_check.ensures.does _ s h);
  few = omega arith;
  before = refl;
}

pub returns-clause-does : goal.returns-clause-does
returns-clause-does g c = record {
  at = λ s h.
      rw (sym (c.if-is_missing.ensures s (Placed h.stands)))
      (subst (λ (n : ℕ).
      At c.mark_number.new.machine (g.L.Log.logged c.mark_number.new.log).told
      (complete c.args.app.now c.args.task (progress_at s c.args.task) (write (what.Mark c.args.task n) s)))
      (c.number_of-number.ensures s (Placed h.stands)) (c.mark_number.ensures.does.at s h));
  few = c.mark_number.ensures.does.few;
  before = c.mark_number.ensures.does.before;
}
