use Rattle.std.proofs.Common.{◌∙◌, arith, refl, sym}
use Rattle.kernel.proofs.handlers.come_if.Goals as goal

pub returns-then-is_due-clause-does : goal.returns-then-is_due-clause-does
returns-then-is_due-clause-does g c = record {
  at = λ s h. rw (sym c.is_due.ensures ∙ c.if-is_due.true) (c.come.ensures.does.at s h);
  few = c.come.ensures.does.few;
  before = c.come.ensures.does.before;
}

pub returns-then-is_due-clause-any : goal.returns-then-is_due-clause-any
returns-then-is_due-clause-any g c = record {
  at = λ s h. rw (sym c.is_due.ensures ∙ c.if-is_due.true) (c.come.ensures.any.at s h);
  few = c.come.ensures.any.few;
  before = c.come.ensures.any.before;
}

pub returns-else-is_due-clause-does : goal.returns-else-is_due-clause-does
returns-else-is_due-clause-does g c = record {
  at = λ s h. rw (sym c.is_due.ensures ∙ c.if-is_due.false) h;
  few = omega arith;
  before = refl;
}

pub returns-else-is_due-clause-any : goal.returns-else-is_due-clause-any
returns-else-is_due-clause-any g c = record {
  at = λ s h. rw (sym c.is_due.ensures ∙ c.if-is_due.false) h;
  few = omega arith;
  before = refl;
}
