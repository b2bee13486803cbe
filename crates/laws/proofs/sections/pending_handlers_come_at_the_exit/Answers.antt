use Rattle.laws.proofs.Inside.{comes_at_the_exit}
use Rattle.laws.proofs.sections.pending_handlers_come_at_the_exit.Goals as goal

pub returns : goal.returns
returns c = λ app limits handler s there none shut. comes_at_the_exit app limits handler s there none shut
