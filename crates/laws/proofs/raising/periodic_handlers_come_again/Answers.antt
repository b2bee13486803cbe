use Rattle.laws.proofs.Raised.{comes_again, due_again, waits}
use Rattle.laws.proofs.raising.periodic_handlers_come_again.Goals as goal

pub returns-clause-comes : goal.returns-clause-comes
returns-clause-comes c = λ app handler period s p. comes_again app handler period p s

pub returns-clause-waits : goal.returns-clause-waits
returns-clause-waits c = λ app handler period tick s p. waits app handler period p s tick

pub returns-clause-ticks : goal.returns-clause-ticks
returns-clause-ticks c = λ app handler period wait turns s p some no_base. due_again app handler period p no_base some wait turns s
