use Rattle.report.proofs.Shards.{rows_of_part}
use Rattle.report.proofs.laws.rows_of_a_shard.Goals as goal

pub returns : goal.returns
returns c app limits points rows shard are = rows_of_part app limits points rows shard are
