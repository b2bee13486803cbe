use Rattle.laws.proofs.Blocks.{begins_again, stay-act}
use Rattle.laws.proofs.branches.loops_for_ever_go_on.Goals as goal

pub returns-clause-back : goal.returns-clause-back
returns-clause-back c = λ app task s innermost outer l. begins_again app task s l innermost outer

pub returns-clause-stay : goal.returns-clause-stay
returns-clause-stay c = λ app task op s t other l. stay-act app task s l op t other
