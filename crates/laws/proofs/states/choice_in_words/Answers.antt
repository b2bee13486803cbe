use Rattle.laws.proofs.Choice.{choice_is}
use Rattle.laws.proofs.states.choice_in_words.Goals as goal

pub returns : goal.returns
returns c = choice_is
