use Rattle.std.proofs.Common.{refl, sym, arith, ◌∙◌}
use Rattle.kernel.proofs.handlers.serve_if_pending.Goals as goal

pub returns-then-is_pending : goal.returns-then-is_pending
returns-then-is_pending g c = record {
  at = λ s h. rw (sym c.is_pending.ensures ∙ c.if-is_pending.true) (c.serve.ensures.at s h);
  few = c.serve.ensures.few;
  before = c.serve.ensures.before;
}

pub returns-else-is_pending : goal.returns-else-is_pending
returns-else-is_pending g c = record {
  at = λ s h. rw (sym c.is_pending.ensures ∙ c.if-is_pending.false) h;
  few = omega arith;
  before = refl;
}
