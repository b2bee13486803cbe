use Rattle.std.proofs.Common.{refl, arith}
use Rattle.machine.proofs.Parts.{at_written}
use Rattle.machine.proofs.Renewed.{any_written}
use Rattle.machine.proofs.machine.Machine.write.Goals as goal

pub returns-clause-does : goal.returns-clause-does
returns-clause-does g c = record {
  at = λ s h.
      at_written c.args.self.now (g.L.Log.logged c.args.log.now).told
      (g.L.Log.logged c.push.new.self).told s _ h c.push.ensures.told refl c.tick.ensures.tick;
  few = let e = c.push.ensures.room in omega arith;
  before = c.push.ensures.before;
}

pub returns-clause-any : goal.returns-clause-any
returns-clause-any g c = record {
  at = λ s h.
      any_written c.args.self.now (g.L.Log.logged c.args.log.now).told
      (g.L.Log.logged c.push.new.self).told s _ h c.push.ensures.told refl c.tick.ensures.tick;
  few = let e = c.push.ensures.room in omega arith;
  before = c.push.ensures.before;
}
