use Rattle.std.proofs.Common.{◌∙◌, arith}
use Rattle.ops.proofs.time.call_yield.Goals as goal

pub returns : goal.returns
returns g c = record {
  at = λ s h. c.yield_now.ensures.at _ (c.answer.ensures.does.at s h);
  few = let a = c.answer.ensures.does.few in let b = c.yield_now.ensures.few in omega arith;
  before = c.yield_now.ensures.before ∙ c.answer.ensures.does.before;
}
