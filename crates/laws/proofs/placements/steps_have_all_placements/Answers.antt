use Rattle.model.proofs.Placements.{all_ended}
use Rattle.laws.proofs.placements.steps_have_all_placements.Goals as goal

pub returns : goal.returns
returns c = λ app limits handlers most n differ none. all_ended app limits handlers most differ n none
