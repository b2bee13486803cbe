use Rattle.std.proofs.Common.{refl}
use Rattle.std.specs.Fmt.{digits}
use Rattle.report.proofs.laws.reports_of_campaigns.Goals as goal

pub returns-clause-no_rows : goal.returns-clause-no_rows
unfolding digits
returns-clause-no_rows c app = refl

pub returns-clause-two_rows : goal.returns-clause-two_rows
unfolding digits
returns-clause-two_rows c = refl
