use Rattle.std.proofs.Common.{◌*◌, take, map}
use Rattle.model.specs.Application.{Interrupt}
use Rattle.model.specs.State.{for_each}
use Rattle.model.specs.Handlers.{come}
use Rattle.machine.specs.StandsFor.{Does, DoesAny}
use Rattle.machine.specs.Can.{Leaves}
use Rattle.kernel.proofs.handlers.come_each.Given as goal

abbrev pub invariant-loop-interrupt : goal.invariant-loop-interrupt
invariant-loop-interrupt g l = record {
  does : Does (16 * l.interrupt-index) l.fn.machine (g.L.Log.logged l.fn.log) l.machine (g.L.Log.logged l.log)
      (for_each (come l.app) (take l.interrupt-index (map (λ (i : Interrupt). i.handler) l.due)));
  any : DoesAny (16 * l.interrupt-index) l.fn.machine (g.L.Log.logged l.fn.log) l.machine (g.L.Log.logged l.log)
      (for_each (come l.app) (take l.interrupt-index (map (λ (i : Interrupt). i.handler) l.due)));
  leaves : Leaves l.fn.machine l.machine;
}
