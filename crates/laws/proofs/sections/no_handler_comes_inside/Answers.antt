use Rattle.laws.proofs.Inside.{none_inside}
use Rattle.laws.proofs.sections.no_handler_comes_inside.Goals as goal

pub returns : goal.returns
returns c = λ app limits handlers s h open_. none_inside app limits handlers s h open_
