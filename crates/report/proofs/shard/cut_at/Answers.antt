use Rattle.std.proofs.Common.{arith}
use Rattle.std.proofs.lemmas.Nat.{mul-le}
use Rattle.report.proofs.Shards.{cut_within}
use Rattle.report.proofs.shard.cut_at.Goals as goal

pub overflow_mul-result : goal.overflow_mul-result
overflow_mul-result c =
    omega (arith, mul-le c.args.number c.args.rows 1000000 1000000 (omega (arith, c.requires)) (omega (arith, c.requires)))

pub returns-clause-within : goal.returns-clause-within
returns-clause-within c = cut_within c.args.count c.args.rows (omega (arith, c.requires)) c.args.number (omega (arith, c.requires))
