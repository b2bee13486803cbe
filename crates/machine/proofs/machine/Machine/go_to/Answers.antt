use Rattle.machine.proofs.Acting.{goes_on, ends}
use Rattle.machine.proofs.machine.Machine.go_to.Goals as goal

pub returns-then-op_index-op_count-clause-does : goal.returns-then-op_index-op_count-clause-does
returns-then-op_index-op_count-clause-does c = λ log s h.
    ends c.args.app.now c.args.self.now c.set_op_index.new.self log s h c.args.task c.requires c.args.op_index c.op_count.result
    c.set_op_index.ensures c.op_count.ensures c.if-op_index-op_count.true c.block.new.self c.block.ensures.schedule

pub returns-clause-does : goal.returns-clause-does
returns-clause-does c = λ log s h.
    goes_on c.args.app.now c.args.self.now c.set_op_index.new.self log s h c.args.task c.requires
    c.args.op_index c.op_count.result c.set_op_index.ensures c.op_count.ensures c.if-op_index-op_count.false
