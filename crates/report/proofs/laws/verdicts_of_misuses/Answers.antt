use Rattle.std.proofs.Common.{refl}
use Rattle.std.specs.Fmt.{digits}
use Rattle.report.proofs.laws.verdicts_of_misuses.Goals as goal

pub returns-clause-while_suspended : goal.returns-clause-while_suspended
unfolding digits
returns-clause-while_suspended c = refl

pub returns-clause-not_suspended : goal.returns-clause-not_suspended
unfolding digits
returns-clause-not_suspended c = refl

pub returns-clause-not_holder : goal.returns-clause-not_holder
unfolding digits
returns-clause-not_holder c = refl

pub returns-clause-ended_suspended : goal.returns-clause-ended_suspended
unfolding digits
returns-clause-ended_suspended c = refl

pub returns-clause-while_critical : goal.returns-clause-while_critical
unfolding digits
returns-clause-while_critical c = refl

pub returns-clause-not_critical : goal.returns-clause-not_critical
unfolding digits
returns-clause-not_critical c = refl

pub returns-clause-ended_critical : goal.returns-clause-ended_critical
unfolding digits
returns-clause-ended_critical c = refl
