use Rattle.std.proofs.Common.{ap, ◌∙◌}
use Rattle.model.specs.Suspension.{suspend_all}
use Rattle.sched.specs.Schedule.{Schedule, is_ready}
use Rattle.ops.proofs.Held.{with_suspensions}
use Rattle.ops.proofs.suspension.suspend_all.Goals as goal

pub answer-requires-clause-runs : goal.answer-requires-clause-runs
answer-requires-clause-runs g c =
    let is = c.suspend_all.ensures.schedule in
    let runs = c.requires.runs in
    record {
      current = ap (λ (v : Schedule). v.current) is ∙ runs.current;
      ready = ap (λ (v : Schedule). is_ready v c.args.task) is ∙ runs.ready;
      op_index = runs.op_index;
    }

pub returns : goal.returns
unfolding suspend_all
returns g c = record {
  at = λ s h.
      c.answer.ensures.does.at _ (with_suspensions c.args.machine.now _ s h c.suspend_all.new.self _
      (c.suspend_all.ensures.stands s h.stands.sched));
  few = c.answer.ensures.does.few;
  before = c.answer.ensures.does.before;
}
