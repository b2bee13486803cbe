use Rattle.laws.proofs.Inside.{pended_once}
use Rattle.laws.proofs.sections.pending_handlers_come_once.Goals as goal

pub returns : goal.returns
returns c = pended_once
