use Rattle.std.proofs.Common.{◌*◌}
use Rattle.std.specs.List.{range_with_len}
use Rattle.model.specs.State.{for_each}
use Rattle.model.specs.Handlers.{come}
use Rattle.machine.specs.StandsFor.{Does, DoesAny}
use Rattle.machine.specs.Can.{Leaves}
use Rattle.kernel.proofs.Handling.{come_if}
use Rattle.kernel.proofs.handlers.come_raised.Given as goal

abbrev pub invariant-loop-number : goal.invariant-loop-number
invariant-loop-number g l = record {
  does : Does (16 * l.number) l.fn.machine (g.L.Log.logged l.fn.log) l.machine (g.L.Log.logged l.log)
      (for_each (come_if l.app l.raised) (range_with_len 0 l.number));
  any : DoesAny (16 * l.number) l.fn.machine (g.L.Log.logged l.fn.log) l.machine (g.L.Log.logged l.log)
      (for_each (come_if l.app l.raised) (range_with_len 0 l.number));
  leaves : Leaves l.fn.machine l.machine;
}
