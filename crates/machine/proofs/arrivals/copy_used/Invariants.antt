use Rattle.std.proofs.Common.{◌≡◌, ◌<◌, ◌≤◌, ℕ, length}
use Rattle.machine.specs.Arrivals.{arrival_in}
use Rattle.machine.proofs.arrivals.copy_used.Given as goal

abbrev pub invariant-loop-source : goal.invariant-loop-source
invariant-loop-source l = record {
  copied : (i : ℕ) → i < l.source → arrival_in l.arrivals i ≡ arrival_in l.others i;
  rest : (i : ℕ) → l.source ≤ i → arrival_in l.arrivals i ≡ arrival_in l.initial.arrivals i;
  full : length l.arrivals ≡ 17;
}
