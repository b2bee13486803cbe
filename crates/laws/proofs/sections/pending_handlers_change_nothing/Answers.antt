use Rattle.laws.proofs.Inside.{nothing_meanwhile, pending_meanwhile}
use Rattle.laws.proofs.sections.pending_handlers_change_nothing.Goals as goal

pub returns-clause-can : goal.returns-clause-can
returns-clause-can c = pending_meanwhile

pub returns-clause-cannot : goal.returns-clause-cannot
returns-clause-cannot c = nothing_meanwhile
