use Rattle.requests.proofs.Pointing.{name_is_text}
use Rattle.requests.proofs.point_words.at_of.Goals as goal

pub unreachable-requires : goal.unreachable-requires
unreachable-requires c = absurd (c.in-Err.ensures.cases.0 (name_is_text c.args.pair.now.handler.now c.requires))
