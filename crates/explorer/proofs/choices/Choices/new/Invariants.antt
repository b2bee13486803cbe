use Rattle.std.proofs.Common.{◌≡◌, ◌+◌, length}
use Rattle.explorer.specs.Choosing.{AreLevels}
use Rattle.explorer.proofs.choices.Choices.new.Given as goal

abbrev pub invariant-loop-number : goal.invariant-loop-number
invariant-loop-number l = record {
  levels : AreLevels l.handlers.items l.levels.items;
  long : length l.levels.items ≡ l.number + 1;
}
