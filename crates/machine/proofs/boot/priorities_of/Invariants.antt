use Rattle.std.proofs.Common.{◌≡◌, ◌<◌, ℕ, length, take, get_or}
use Rattle.std.specs.List.{AllByRecursion}
use Rattle.machine.specs.Boot.{priorities_in}
use Rattle.machine.proofs.boot.priorities_of.Given as goal

abbrev pub invariant-loop-index : goal.invariant-loop-index
invariant-loop-index l = record {
  priorities : (i : ℕ) → get_or l.priorities i 0 ≡ get_or (priorities_in (take l.index l.tasks)) i 0;
  known : AllByRecursion (λ p. p < 32) l.priorities;
  full : length l.priorities ≡ 32;
}
