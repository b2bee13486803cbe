use Rattle.std.proofs.Common.{◌≡◌, ◌<◌, ◌≤◌, ℕ, false, length, get_or, take}
use Rattle.machine.specs.Arrivals.{arrival_in, is_due, lowered, soonest}
use Rattle.machine.proofs.arrivals.lower_each.Given as goal

abbrev pub invariant-loop-source : goal.invariant-loop-source
invariant-loop-source l = record {
  due : (i : ℕ) → i < l.source → get_or l.due i false ≡ is_due l.tick (arrival_in l.initial.arrivals i);
  low : (i : ℕ) → i < l.source → arrival_in l.arrivals i ≡ lowered l.tick (arrival_in l.initial.arrivals i);
  rest : (i : ℕ) → l.source ≤ i → arrival_in l.arrivals i ≡ arrival_in l.initial.arrivals i;
  full : length l.arrivals ≡ 17;
  many : length l.due ≡ 17;
  undue : (i : ℕ) → l.source ≤ i → get_or l.due i false ≡ false;
  first : l.first ≡ soonest (take l.source l.arrivals);
}
