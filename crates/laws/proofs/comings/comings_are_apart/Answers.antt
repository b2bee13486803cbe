use Rattle.laws.proofs.Apart.{apart_from_it, comes_now, comings_apart, has_come_in_turn, has_come_still}
use Rattle.laws.proofs.comings.comings_are_apart.Goals as goal

pub returns-clause-comes : goal.returns-clause-comes
returns-clause-comes c = comes_now

pub returns-clause-stays : goal.returns-clause-stays
returns-clause-stays c = λ app limits handler tick sources s. has_come_still app handler tick limits sources s

pub returns-clause-turns : goal.returns-clause-turns
returns-clause-turns c = has_come_in_turn

pub returns-clause-apart : goal.returns-clause-apart
returns-clause-apart c = apart_from_it

pub returns-clause-run : goal.returns-clause-run
returns-clause-run c = λ app limits plan handler m n others is none can l.
    comings_apart app limits plan handler m others is none can n l
