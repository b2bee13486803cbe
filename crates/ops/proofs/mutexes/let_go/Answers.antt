use Rattle.std.proofs.Common.{refl, ◌∙◌, arith}
use Rattle.model.specs.State.{State}
use Rattle.model.specs.Mutexes.{disinherit}
use Rattle.machine.specs.StandsFor.{At}
use Rattle.machine.specs.StandsFor.Stands.{Placed}
use Rattle.machine.proofs.Acting.{within}
use Rattle.ops.proofs.Ranking.{still_running}
use Rattle.ops.proofs.mutexes.let_go.Goals as goal

pub wake_best-requires : goal.wake_best-requires
wake_best-requires g c =
    let s : State = c.requires.agrees.0 in
    let h : At c.args.machine.now s.log s = record { stands = c.requires.agrees.1; log = refl } in (
      disinherit c.args.task s,
      Placed (c.disinherit.ensures.does s.log s h (within c.args.machine.now s.log s h c.args.task c.requires.runs.current)).stands,
    )

pub answer-requires-clause-runs : goal.answer-requires-clause-runs
answer-requires-clause-runs g c =
    c.wake_best.ensures.runs c.args.task
    (still_running c.args.machine.now c.disinherit.new.machine c.args.task c.disinherit.ensures.reranks c.requires.runs)

pub returns : goal.returns
returns g c = record {
  at = λ s h.
      c.preempt.ensures.does.at _ (c.answer.ensures.does.at _ (c.wake_best.ensures.does _ _
      (c.disinherit.ensures.does _ s h (within c.args.machine.now _ s h c.args.task c.requires.runs.current))));
  few = let a = c.answer.ensures.does.few in let b = c.preempt.ensures.does.few in omega arith;
  before = c.preempt.ensures.does.before ∙ c.answer.ensures.does.before;
}
