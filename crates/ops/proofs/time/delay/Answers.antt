use Rattle.std.proofs.Common.{◌∙◌, arith}
use Rattle.machine.proofs.Acting.{agrees_after}
use Rattle.ops.proofs.Working.{delay_none, delay_some}
use Rattle.ops.proofs.time.delay.Goals as goal

pub sleep-requires-clause-agrees : goal.sleep-requires-clause-agrees
sleep-requires-clause-agrees g c =
    agrees_after c.args.machine.now c.answer.new.self (g.L.Log.logged c.args.log.now).told
    (g.L.Log.logged c.answer.new.log).told c.requires.can.tick.advance.agrees _ c.answer.ensures.does.at

pub returns-then-ticks-eq0 : goal.returns-then-ticks-eq0
returns-then-ticks-eq0 g c = record {
  at = λ s h.
      delay_none c.args.app.now c.yield_now.new.self (g.L.Log.logged c.yield_now.new.log).told s c.args.task
      c.args.ticks c.if-ticks-eq0.true (c.yield_now.ensures.at _ (c.answer.ensures.does.at s h));
  few = let a = c.answer.ensures.does.few in let b = c.yield_now.ensures.few in omega arith;
  before = c.yield_now.ensures.before ∙ c.answer.ensures.does.before;
}

pub returns-else-ticks-eq0 : goal.returns-else-ticks-eq0
returns-else-ticks-eq0 g c = record {
  at = λ s h.
      delay_some c.args.app.now c.sleep.new.machine (g.L.Log.logged c.answer.new.log).told s c.args.task
      c.args.ticks c.if-ticks-eq0.false (c.sleep.ensures _ _ (c.answer.ensures.does.at s h));
  few = let a = c.answer.ensures.does.few in omega arith;
  before = c.answer.ensures.does.before;
}
