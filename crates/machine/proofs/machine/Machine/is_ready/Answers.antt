use Rattle.std.proofs.Common.{◌∙◌}
use Rattle.sched.proofs.Standing.{ready_same}
use Rattle.machine.proofs.machine.Machine.is_ready.Goals as goal

pub returns-clause-ready : goal.returns-clause-ready
returns-clause-ready c = λ s h. c.is_ready.ensures.ready ∙ ready_same c.args.self.now.sched s c.args.task h.sched
