use Rattle.laws.proofs.Raised.{cancelled, raised_so}
use Rattle.laws.proofs.raising.last_raise_counts.Goals as goal

pub returns-clause-cancelled : goal.returns-clause-cancelled
returns-clause-cancelled c = cancelled

pub returns-clause-raised : goal.returns-clause-raised
returns-clause-raised c = raised_so
