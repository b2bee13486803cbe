use Rattle.script.proofs.Names.{names_differ}
use Rattle.script.proofs.laws.names_differ.Goals as goal

pub returns : goal.returns
returns c = names_differ
