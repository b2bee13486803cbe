use Rattle.std.proofs.Common.{◌-◌}
use Rattle.std.specs.List.{range_with_len}
use Rattle.model.specs.State.{for_each}
use Rattle.model.specs.Handlers.{none_pending}
use Rattle.machine.specs.StandsFor.{DoesAny}
use Rattle.kernel.specs.Can.{CanCome}
use Rattle.kernel.proofs.Coming.{room_below}
use Rattle.kernel.proofs.Handling.{serve_if}
use Rattle.kernel.proofs.handlers.serve_each_pending.Given as goal

abbrev pub invariant-loop-number : goal.invariant-loop-number
invariant-loop-number g l = record {
  any : DoesAny (room_below l.app l.number) l.fn.machine (g.L.Log.logged l.fn.log) l.machine (g.L.Log.logged l.log)
      (λ s. for_each (serve_if l.app l.pending) (range_with_len 0 l.number) (none_pending s));
  can : CanCome l.app (20 - l.number) l.machine;
}
