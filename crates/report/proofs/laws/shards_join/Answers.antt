use Rattle.report.proofs.Shards.{texts_join, totals_join}
use Rattle.report.proofs.laws.shards_join.Goals as goal

pub returns-clause-rows : goal.returns-clause-rows
returns-clause-rows c app view rows count some = texts_join app view rows count some

pub returns-clause-totals : goal.returns-clause-totals
returns-clause-totals c rows count some = totals_join rows count some
