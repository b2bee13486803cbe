use Rattle.std.proofs.Common.{sym, ◌∙◌, arith, refl}
use Rattle.machine.proofs.Switches.{none_above, nothing_told, preempted, unheld_by}
use Rattle.machine.proofs.machine.Machine.preempt.Goals as goal

pub returns-then-preempt-clause-does : goal.returns-then-preempt-clause-does
returns-then-preempt-clause-does g c = record {
  at = λ s h.
      preempted c.args.self.now (g.L.Log.logged c.args.log.now).told (g.L.Log.logged c.write_change.new.log).told s
      c.preempt.new.self _ h c.current-before.ensures.current c.write_change.ensures.event
      (c.preempt.ensures.stands s h.stands.sched (unheld_by c.args.self.now.sched s h.stands.sched c.requires.free));
  few = c.write_change.ensures.few;
  before = c.write_change.ensures.before;
}

pub returns-else-preempt-clause-does : goal.returns-else-preempt-clause-does
returns-else-preempt-clause-does g c = record {
  at = λ s h.
      let log = (g.L.Log.logged c.args.log.now).told in
      let same =
      none_above c.args.self.now.sched c.preempt.new.self c.preempt.ensures.schedule
      (sym c.preempt.ensures.outranked ∙ c.if-preempt.false)
      ∙ sym c.current-before.ensures.current in
      preempted c.args.self.now log log s c.preempt.new.self _ h c.current-before.ensures.current (nothing_told log _ _ _ _ same)
      (c.preempt.ensures.stands s h.stands.sched (unheld_by c.args.self.now.sched s h.stands.sched c.requires.free));
  few = omega arith;
  before = refl;
}
