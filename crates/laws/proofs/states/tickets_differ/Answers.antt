use Rattle.laws.proofs.Tickets.{tickets_apart}
use Rattle.laws.proofs.states.tickets_differ.Goals as goal

pub returns : goal.returns
returns c = tickets_apart
