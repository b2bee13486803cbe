use Rattle.std.proofs.Common.{◌≤◌, ◌-◌}
use Rattle.lists.specs.Words.{AreZeroBetween}
use Rattle.lists.proofs.words.first_nonzero.Given as goal

abbrev pub invariant-loop-at : goal.invariant-loop-at
invariant-loop-at l = record {
  behind : l.from ≤ l.at;
  within : l.at ≤ l.count;
  zeros : AreZeroBetween l.numbers l.from l.at;
}

abbrev pub decreases-loop-at : goal.decreases-loop-at
decreases-loop-at l = l.count - l.at

abbrev pub invariant-loop-at-2 : goal.invariant-loop-at-2
invariant-loop-at-2 l = record {
  behind : l.from ≤ l.at;
  within : l.at ≤ l.count;
  zeros : AreZeroBetween l.numbers l.from l.at;
}

abbrev pub decreases-loop-at-2 : goal.decreases-loop-at-2
decreases-loop-at-2 l = l.count - l.at
