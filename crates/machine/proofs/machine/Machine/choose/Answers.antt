use Rattle.machine.proofs.Switches.{unheld_by, chose}
use Rattle.machine.proofs.machine.Machine.choose.Goals as goal

pub returns : goal.returns
returns g c = record {
  at = λ s h.
      chose c.args.self.now (g.L.Log.logged c.args.log.now).told (g.L.Log.logged c.write_change.new.log).told s
      c.choose.new.self _ h c.current-before.ensures.current c.write_change.ensures.event
      (c.choose.ensures.stands s h.stands.sched (unheld_by c.args.self.now.sched s h.stands.sched c.requires.free));
  few = c.write_change.ensures.few;
  before = c.write_change.ensures.before;
}
