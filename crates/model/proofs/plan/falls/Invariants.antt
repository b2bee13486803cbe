use Rattle.std.proofs.Common.{◌≡◌, drop}
use Rattle.model.proofs.Plans.{falls_from}
use Rattle.model.proofs.plan.falls.Given as goal

abbrev pub invariant-loop-injection : goal.invariant-loop-injection
invariant-loop-injection l = falls_from 0 l.injections ≡ falls_from l.last (drop l.injection-index l.injections)
