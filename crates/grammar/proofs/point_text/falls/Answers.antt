use Rattle.std.proofs.Common.{arith}
use Rattle.std.proofs.lemmas.Grind.{common_steps}
use Rattle.grammar.proofs.point_text.falls.Goals as goal

pub returns-then-pair-last : goal.returns-then-pair-last
returns-then-pair-last c = grind (arith, common_steps)
