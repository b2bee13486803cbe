use Rattle.std.proofs.Common.{refl}
use Rattle.std.specs.Fmt.{digits}
use Rattle.report.proofs.laws.report_of_each_notification.Goals as goal

pub returns : goal.returns
unfolding digits
returns c = refl
