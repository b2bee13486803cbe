use Rattle.machine.proofs.Acting.{obeyed_at}
use Rattle.machine.proofs.machine.Machine.obeyed.Goals as goal

pub returns-clause-does : goal.returns-clause-does
returns-clause-does g c = record {
  at = λ s h.
      obeyed_at c.args.app.now c.args.self.now c.set_answer.new.self c.go_to.new.self
      (g.L.Log.logged c.write.new.log).told s c.args.task c.requires.runs.current c.args.clear
      c.args.bits (c.write.ensures.does.at s h) c.set_answer.ensures c.go_to.ensures.does;
  few = c.write.ensures.does.few;
  before = c.write.ensures.does.before;
}
