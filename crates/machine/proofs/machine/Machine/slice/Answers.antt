use Rattle.std.proofs.Common.{sym, ◌∙◌, arith, refl}
use Rattle.machine.proofs.Switches.{none_in_turn, nothing_told, sliced, unheld_by}
use Rattle.machine.proofs.machine.Machine.slice.Goals as goal

pub returns-then-slice : goal.returns-then-slice
returns-then-slice g c = record {
  at = λ s h.
      sliced c.args.self.now (g.L.Log.logged c.args.log.now).told (g.L.Log.logged c.write_change.new.log).told s
      c.slice.new.self _ h c.current-before.ensures.current c.write_change.ensures.event
      (c.slice.ensures.stands s h.stands.sched (unheld_by c.args.self.now.sched s h.stands.sched c.requires.free));
  few = c.write_change.ensures.few;
  before = c.write_change.ensures.before;
}

pub returns-else-slice : goal.returns-else-slice
returns-else-slice g c = record {
  at = λ s h.
      let log = (g.L.Log.logged c.args.log.now).told in
      let same =
      none_in_turn c.args.self.now.sched c.slice.new.self c.slice.ensures.schedule (sym c.slice.ensures.ended ∙ c.if-slice.false)
      ∙ sym c.current-before.ensures.current in
      sliced c.args.self.now log log s c.slice.new.self _ h c.current-before.ensures.current (nothing_told log _ _ _ _ same)
      (c.slice.ensures.stands s h.stands.sched (unheld_by c.args.self.now.sched s h.stands.sched c.requires.free));
  few = omega arith;
  before = refl;
}
