use Rattle.std.proofs.Common.{refl}
use Rattle.std.specs.Fmt.{digits}
use Rattle.report.proofs.laws.lines_of_totals.Goals as goal

pub returns-clause-all_pass : goal.returns-clause-all_pass
unfolding digits
returns-clause-all_pass c = refl

pub returns-clause-each_end : goal.returns-clause-each_end
unfolding digits
returns-clause-each_end c = refl
