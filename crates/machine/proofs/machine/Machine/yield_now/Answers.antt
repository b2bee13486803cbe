use Rattle.machine.proofs.Switches.{unheld_by, yielded}
use Rattle.machine.proofs.machine.Machine.yield_now.Goals as goal

pub returns : goal.returns
returns g c = record {
  at = λ s h.
      yielded c.args.self.now (g.L.Log.logged c.args.log.now).told (g.L.Log.logged c.write_change.new.log).told s
      c.yield_now.new.self _ h c.current-before.ensures.current c.write_change.ensures.event
      (c.yield_now.ensures.stands s h.stands.sched (unheld_by c.args.self.now.sched s h.stands.sched c.requires.free));
  few = c.write_change.ensures.few;
  before = c.write_change.ensures.before;
}
