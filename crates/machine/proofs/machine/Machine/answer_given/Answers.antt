use Rattle.std.proofs.Common.{◌∙◌}
use Rattle.machine.specs.contracts.progress.Progress.{the_view}
use Rattle.machine.proofs.Acting.{answered}
use Rattle.machine.proofs.Acting.{placed_then}
use Rattle.machine.proofs.machine.Machine.answer_given.Goals as goal

pub returns-clause-does : goal.returns-clause-does
returns-clause-does g c = record {
  at = λ s h.
      answered c.args.app.now c.args.self.now c.set_answer.new.self c.complete.new.self
      (g.L.Log.logged c.args.log.now).told (g.L.Log.logged c.write.new.log).told s h c.args.task
      c.requires.runs.current (the_view c.behind-self.inside) (c.behind-self.view_is ∙ c.progress.ensures) c.args.given
      c.called.result c.called.ensures (c.write.ensures.does.at s h) c.set_answer.ensures c.complete.ensures.does;
  few = c.write.ensures.does.few;
  before = c.write.ensures.does.before;
}

pub returns-clause-amid : goal.returns-clause-amid
returns-clause-amid g c = λ t.
    placed_then c.args.self.now c.set_answer.new.self c.complete.new.self
    c.args.task _ c.set_answer.ensures (c.complete.ensures.amid t)
