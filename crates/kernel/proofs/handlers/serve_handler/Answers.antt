use Rattle.std.proofs.Common.{arith, ◌∙◌, sym}
use Rattle.kernel.proofs.Handling.{served_free, served_held}
use Rattle.kernel.proofs.handlers.serve_handler.Goals as goal

pub returns-then-not-is_held : goal.returns-then-not-is_held
returns-then-not-is_held g c = record {
  at = λ s h.
      served_free c.args.app.now c.args.handler s c.come.new.machine c.preempt.new.self
      _ _ (λ t. sym (c.is_held.ensures.held _ t) ∙ c.if-not-is_held.true)
      (c.come.ensures.any.at s h) (λ p. c.preempt.ensures.does.at _ p);
  few = let a = c.come.ensures.any.few in let b = c.preempt.ensures.does.few in omega arith;
  before = c.preempt.ensures.does.before ∙ c.come.ensures.any.before;
}

pub returns-else-not-is_held : goal.returns-else-not-is_held
returns-else-not-is_held g c = record {
  at = λ s h.
      served_held c.args.app.now c.args.handler s c.come.new.machine _
      (λ t. sym (c.is_held.ensures.held _ t) ∙ c.if-not-is_held.false) (c.come.ensures.any.at s h);
  few = let a = c.come.ensures.any.few in omega arith;
  before = c.come.ensures.any.before;
}
