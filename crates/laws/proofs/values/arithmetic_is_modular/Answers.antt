use Rattle.laws.proofs.Calculating.{below_2_32, fit_together, gives_back}
use Rattle.laws.proofs.values.arithmetic_is_modular.Goals as goal

pub returns-clause-sum : goal.returns-clause-sum
returns-clause-sum c = below_2_32

pub returns-clause-back : goal.returns-clause-back
returns-clause-back c = gives_back

pub returns-clause-quotient : goal.returns-clause-quotient
returns-clause-quotient c = fit_together
