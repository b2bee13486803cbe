use Rattle.std.proofs.Common.{sym, ◌∙◌}
use Rattle.ops.proofs.Deciding.{decided_not, decided_to_wait}
use Rattle.machine.proofs.Either.{any}
use Rattle.ops.proofs.calls.decide.Goals as goal

pub returns-then-need_not_wait-clause-does : goal.returns-then-need_not_wait-clause-does
returns-then-need_not_wait-clause-does c = λ log s h.
    decided_not c.pass_on.new.machine log s c.args.task c.args.object c.args.access
    (sym (c.need_not_wait.ensures s h.stands) ∙ c.if-need_not_wait.true) (any _ log _ (c.pass_on.ensures.does log s h))

pub returns-else-need_not_wait-clause-does : goal.returns-else-need_not_wait-clause-does
returns-else-need_not_wait-clause-does c = λ log s h.
    decided_to_wait c.begin_wait.new.machine log s c.args.task c.args.object c.args.access
    (sym (c.need_not_wait.ensures s h.stands) ∙ c.if-need_not_wait.false)
    (c.begin_wait.ensures.does log _ (c.inherit.ensures.does log s h))

pub returns-else-need_not_wait-clause-remains : goal.returns-else-need_not_wait-clause-remains
returns-else-need_not_wait-clause-remains c = record {
  current = c.begin_wait.ensures.remains.current ∙ c.inherit.ensures.reranks.current;
  op_index = c.begin_wait.ensures.remains.op_index ∙ c.inherit.ensures.reranks.op_index c.args.task;
  suspensions = c.begin_wait.ensures.remains.suspensions ∙ c.inherit.ensures.suspensions;
}
