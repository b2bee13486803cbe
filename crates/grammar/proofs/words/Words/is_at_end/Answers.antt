use Rattle.std.proofs.Common.{arith}
use Rattle.std.proofs.lemmas.Grind.{common_steps}
use Rattle.grammar.proofs.Cutting.{no_words}
use Rattle.grammar.proofs.words.Words.is_at_end.Goals as goal

pub returns : goal.returns
returns c = grind (arith, common_steps, no_words _ c.trim_start.ensures.word)
