use Rattle.std.proofs.Common.{refl, sym, arith}
use Rattle.ops.proofs.Notifying.{over_at, waiting_at}
use Rattle.ops.proofs.notifications.check_notification.Goals as goal

pub returns-then-need_not_wait-clause-does : goal.returns-then-need_not_wait-clause-does
returns-then-need_not_wait-clause-does g c = record {
  at = λ s h.
      over_at c.args.app.now c.end_notification_wait.new.machine (g.L.Log.logged c.end_notification_wait.new.log).told
      s c.args.task c.args.wait.now c.args.ticks (sym (c.if-need_not_wait.ensures.needs s h.stands))
      (c.end_notification_wait.ensures.at s h);
  few = c.end_notification_wait.ensures.few;
  before = c.end_notification_wait.ensures.before;
}

pub returns-clause-does : goal.returns-clause-does
returns-clause-does g c = record {
  at = λ s h.
      waiting_at c.args.app.now c.begin_notification_wait.new.machine (g.L.Log.logged c.args.log.now).told
      s c.args.task c.args.wait.now c.args.ticks (sym (c.if-need_not_wait.ensures.needs s h.stands))
      (c.begin_notification_wait.ensures.does _ s h);
  few = omega arith;
  before = refl;
}

pub returns-clause-takes : goal.returns-clause-takes
returns-clause-takes g c = λ _. record {
  agrees = c.requires.can.agrees;
  remains = c.begin_notification_wait.ensures.remains;
  held = c.begin_notification_wait.ensures.held;
  reached = c.begin_notification_wait.ensures.reached;
}

pub returns-clause-unmet : goal.returns-clause-unmet
returns-clause-unmet g c = λ _ s h. sym (c.if-need_not_wait.ensures.needs s h)
