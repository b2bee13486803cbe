use Rattle.laws.proofs.Blocks.{quiet-act, allowed_held}
use Rattle.laws.proofs.branches.branches_are_quiet.Goals as goal

pub returns-clause-quiet : goal.returns-clause-quiet
returns-clause-quiet c = λ app task op s t l. quiet-act app task s l op t

pub returns-clause-allowed : goal.returns-clause-allowed
returns-clause-allowed c = allowed_held
