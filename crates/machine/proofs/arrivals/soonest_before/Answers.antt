use Rattle.std.proofs.Common.{◌∙◌}
use Rattle.machine.proofs.Arriving.{soonest_of_used}
use Rattle.machine.proofs.arrivals.soonest_before.Goals as goal

pub returns : goal.returns
returns c = c.soonest.ensures ∙ soonest_of_used c.args.used c.args.arrivals.now c.requires.past
