use Rattle.std.proofs.Common.{◌≡◌, ◌<◌, ℕ}
use Rattle.machine.specs.Arrivals.{arrival_from, arrival_in}
use Rattle.machine.proofs.arrivals.are_same.Given as goal

abbrev pub invariant-loop-source : goal.invariant-loop-source
invariant-loop-source l = (i : ℕ) → i < l.source
    → arrival_from l.elapsed (arrival_in l.arrivals i) ≡ arrival_from l.elapsed (arrival_in l.others i)
