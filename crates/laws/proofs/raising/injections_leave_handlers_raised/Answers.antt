use Rattle.laws.proofs.Raised.{inject_leaves, pend_leaves}
use Rattle.laws.proofs.raising.injections_leave_handlers_raised.Goals as goal

pub returns-clause-comes : goal.returns-clause-comes
returns-clause-comes c = inject_leaves

pub returns-clause-pends : goal.returns-clause-pends
returns-clause-pends c = pend_leaves
