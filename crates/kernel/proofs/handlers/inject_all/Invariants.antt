use Rattle.std.proofs.Common.{◌≡◌, ◌&&◌, ◌*◌, ◌-◌, take, drop}
use Rattle.model.specs.State.{State, for_each}
use Rattle.model.specs.Handlers.{inject}
use Rattle.model.specs.Placements.{can_come_so}
use Rattle.machine.specs.StandsFor.{AtAny, DoesAny}
use Rattle.kernel.specs.Can.{CanCome}
use Rattle.kernel.proofs.handlers.inject_all.Given as goal

abbrev pub invariant-loop-source : goal.invariant-loop-source
invariant-loop-source g l = record {
  any : DoesAny (337 * l.source-index) l.fn.machine (g.L.Log.logged l.fn.log) l.machine
      (g.L.Log.logged l.log) (for_each (inject l.app) (take l.source-index l.sources));
  can : CanCome l.app (3 - l.source-index) l.machine;
  came : (s : State) → AtAny l.fn.machine (g.L.Log.logged l.fn.log).told s → can_come_so (inject l.app) l.sources s
      ≡ l.all && can_come_so (inject l.app) (drop l.source-index l.sources)
      (for_each (inject l.app) (take l.source-index l.sources) s);
}
