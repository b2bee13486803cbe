use Rattle.std.proofs.Common.{arith}
use Rattle.report.proofs.Shards.{cut_none, undivided_part}
use Rattle.report.proofs.laws.undivided_rows.Goals as goal

pub returns-clause-rows : goal.returns-clause-rows
returns-clause-rows c rows = undivided_part rows

pub returns-clause-first : goal.returns-clause-first
returns-clause-first c rows = cut_none 1 rows (omega arith)
