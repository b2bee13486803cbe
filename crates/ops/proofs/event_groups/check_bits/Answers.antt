use Rattle.std.proofs.Common.{refl, sym, arith}
use Rattle.ops.proofs.EventBits.{checked, checked_not}
use Rattle.ops.proofs.event_groups.check_bits.Goals as goal

pub returns-then-need_not_wait_for_bits-clause-does : goal.returns-then-need_not_wait_for_bits-clause-does
returns-then-need_not_wait_for_bits-clause-does g c = record {
  at = λ s h.
      checked c.args.app.now c.answer_bits.new.machine (g.L.Log.logged c.answer_bits.new.log).told
      s c.args.task c.args.group c.args.condition.now c.args.ticks
      (sym (c.if-need_not_wait_for_bits.ensures.needs s h.stands)) (c.answer_bits.ensures.at s h);
  few = c.answer_bits.ensures.few;
  before = c.answer_bits.ensures.before;
}

pub returns-clause-does : goal.returns-clause-does
returns-clause-does g c = record {
  at = λ s h.
      checked_not c.args.app.now c.begin_bits_wait.new.machine (g.L.Log.logged c.args.log.now).told
      s c.args.task c.args.group c.args.condition.now c.args.ticks
      (sym (c.if-need_not_wait_for_bits.ensures.needs s h.stands)) (c.begin_bits_wait.ensures.does _ s h);
  few = omega arith;
  before = refl;
}

pub returns-clause-takes : goal.returns-clause-takes
returns-clause-takes g c = λ _. record {
  agrees = c.requires.can.agrees;
  remains = c.begin_bits_wait.ensures.remains;
  held = c.begin_bits_wait.ensures.held;
  reached = c.begin_bits_wait.ensures.reached;
}

pub returns-clause-unmet : goal.returns-clause-unmet
returns-clause-unmet g c = λ _ s h. sym (c.if-need_not_wait_for_bits.ensures.needs s h)
