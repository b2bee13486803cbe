use Rattle.std.proofs.Common.{◌≡◌, ◌&&◌, take, drop}
use Rattle.model.specs.State.{State, for_each}
use Rattle.model.specs.Handlers.{pend}
use Rattle.model.specs.Placements.{can_come_so}
use Rattle.machine.specs.StandsFor.{MovesAny, Stands}
use Rattle.kernel.proofs.handlers.pend_all.Given as goal

abbrev pub invariant-loop-source : goal.invariant-loop-source
invariant-loop-source l = record {
  any : MovesAny l.fn.machine l.machine (for_each (pend l.app) (take l.source-index l.sources));
  came : (s : State) → Stands l.fn.machine s → can_come_so (pend l.app) l.sources s
      ≡ l.all && can_come_so (pend l.app) (drop l.source-index l.sources) (for_each (pend l.app) (take l.source-index l.sources) s);
}
