use Rattle.std.proofs.Common.{◌≡◌, length}
use Rattle.random_apps.proofs.Dice.variables.Given as goal

abbrev pub invariant-loop : goal.invariant-loop
invariant-loop l = length l.variables.items ≡ l.counter
