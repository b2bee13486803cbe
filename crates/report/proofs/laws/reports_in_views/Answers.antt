use Rattle.std.proofs.Common.{refl}
use Rattle.std.specs.Fmt.{digits}
use Rattle.report.proofs.laws.reports_in_views.Goals as goal

pub returns-clause-heads : goal.returns-clause-heads
unfolding digits
returns-clause-heads c = refl

pub returns-clause-failing : goal.returns-clause-failing
unfolding digits
returns-clause-failing c = refl

pub returns-clause-second : goal.returns-clause-second
unfolding digits
returns-clause-second c = refl
