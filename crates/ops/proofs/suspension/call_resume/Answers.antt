use Rattle.std.proofs.Common.{ap, refl, ◌∙◌, arith}
use Rattle.model.specs.Ops.{one_if}
use Rattle.machine.specs.StandsFor.Stands.{Placed}
use Rattle.ops.proofs.Suspending.{called_resume, runs_resumed}
use Rattle.ops.proofs.suspension.call_resume.Goals as goal

pub resume-did-requires : goal.resume-did-requires
resume-did-requires g c = let a = c.requires.can.tick.advance.agrees in record { stands = (a.0, Placed a.1) }

pub answer-requires-clause-runs : goal.answer-requires-clause-runs
answer-requires-clause-runs g c =
    let a = c.requires.can.tick.advance.agrees in
    runs_resumed c.args.machine.now c.resume-did.new.machine c.args.task c.args.other a.0 c.requires.can.runs
    a.1 (c.resume-did.ensures.does (a.0).log a.0 (record { stands = a.1; log = refl })).stands

pub returns : goal.returns
returns g c = record {
  at = λ s h.
      called_resume c.args.app.now c.preempt.new.self _ s c.args.task c.args.other _
      (c.one_if.ensures ∙ ap one_if (c.resume-did.ensures.answer s (Placed h.stands)))
      (c.preempt.ensures.does.at _ (c.answer.ensures.does.at _ (c.resume-did.ensures.does _ s h)));
  few = let a = c.answer.ensures.does.few in let b = c.preempt.ensures.does.few in omega arith;
  before = c.preempt.ensures.does.before ∙ c.answer.ensures.does.before;
}
