use Rattle.laws.proofs.Blocks.{takes, skips, skips_other}
use Rattle.laws.proofs.branches.one_branch_is_done.Goals as goal

pub returns-clause-taken : goal.returns-clause-taken
returns-clause-taken c = λ app task condition s l. takes app task s l condition

pub returns-clause-skipped : goal.returns-clause-skipped
returns-clause-skipped c = λ app task condition s first last l. skips app task s l condition first last

pub returns-clause-other : goal.returns-clause-other
returns-clause-other c = λ app task s second l. skips_other app task s l second
