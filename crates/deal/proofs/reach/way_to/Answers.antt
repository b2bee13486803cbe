use Rattle.deal.proofs.LogMoves.{forks}
use Rattle.deal.proofs.reach.way_to.Goals as goal

pub another-pass-requires : goal.another-pass-requires
another-pass-requires c = forks _ _ c.requires.1
