use Rattle.std.proofs.Common.{sym, refl, arith}
use Rattle.machine.specs.StandsFor.Stands.{Placed}
use Rattle.ops.proofs.Valued.{answers_at, stores_at}
use Rattle.ops.proofs.values.calculate.Goals as goal

pub returns-in_default-clause-does : goal.returns-in_default-clause-does
returns-in_default-clause-does g c = record {
  at = λ s h. rw (sym (c.in_default.ensures s (Placed h.stands))) (c.fail_check.ensures.does _ s h);
  few = omega arith;
  before = refl;
}

pub returns-in-Store-clause-does : goal.returns-in-Store-clause-does
returns-in-Store-clause-does g c = record {
  at = λ s h.
      stores_at c.args.app.now c.answer.new.self (g.L.Log.logged c.answer.new.log).told s c.args.task c.in-Some.number
      c.args.values.now (c.in-Some.ensures s (Placed h.stands)) (c.answer.ensures.does.at _ (c.store.ensures.does _ s h));
  few = c.answer.ensures.does.few;
  before = c.answer.ensures.does.before;
}

pub returns-in_default-values : goal.returns-in_default-values
returns-in_default-values g c = record {
  does = record {
    at = λ s h.
        answers_at c.args.app.now c.answer-in_default-values.new.self (g.L.Log.logged c.answer-in_default-values.new.log).told s
        c.args.task c.in-Some.number c.args.values.now c.in_default-values.not-Store (c.in-Some.ensures s (Placed h.stands))
        (c.answer-in_default-values.ensures.does.at s h);
    few = c.answer-in_default-values.ensures.does.few;
    before = c.answer-in_default-values.ensures.does.before;
  };
  amid = c.answer-in_default-values.ensures.amid;
}
