use Rattle.std.proofs.Common.{◌≡◌, ◌+◌}
use Rattle.kernel.proofs.runs.count_steps.Given as goal

abbrev pub invariant-loop : goal.invariant-loop
invariant-loop l = l.meter ≡ l.fn.meter + l.counter
