use Rattle.model.specs.Time.{apply_held}
use Rattle.machine.specs.StandsFor.{Moves}
use Rattle.machine.specs.Can.{Leaves}
use Rattle.ops.proofs.holds.apply_held.Given as goal

abbrev pub invariant-loop : goal.invariant-loop
invariant-loop l = record {
  does : Moves l.fn.machine l.machine (apply_held l.counter);
  leaves : Leaves l.fn.machine l.machine;
}
