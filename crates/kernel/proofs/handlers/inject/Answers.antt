use Rattle.std.proofs.Common.{◌∙◌, true, false, arith, refl, sym}
use Rattle.model.specs.Handlers.{inject}
use Rattle.kernel.proofs.handlers.inject.Goals as goal

pub returns-then-comes-clause-does : goal.returns-then-comes-clause-does
unfolding inject
returns-then-comes-clause-does g c = record {
  at = λ s h. rw (sym (c.can_come-comes.ensures s h.stands) ∙ c.if-comes.true) (c.serve.ensures.at s h);
  few = c.serve.ensures.few;
  before = c.serve.ensures.before;
}

pub returns-else-comes-clause-does : goal.returns-else-comes-clause-does
unfolding inject
returns-else-comes-clause-does g c = record {
  at = λ s h. rw (sym (c.can_come-comes.ensures s h.stands) ∙ c.if-comes.false) h;
  few = omega arith;
  before = refl;
}
