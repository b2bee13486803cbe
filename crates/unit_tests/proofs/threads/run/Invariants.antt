use Rattle.std.proofs.Common.{◌≡◌}
use Rattle.unit_tests.proofs.threads.run.Given as goal

abbrev pub invariant-loop : goal.invariant-loop
invariant-loop g l = l.lane.game ≡ l.fn.lane.game
