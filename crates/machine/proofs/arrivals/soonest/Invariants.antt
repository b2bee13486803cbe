use Rattle.std.proofs.Common.{◌≡◌, take}
use Rattle.machine.specs.Arrivals.{soonest}
use Rattle.machine.proofs.arrivals.soonest.Given as goal

abbrev pub invariant-loop-arrival : goal.invariant-loop-arrival
invariant-loop-arrival l = l.first ≡ soonest (take l.arrival-index l.arrivals)
