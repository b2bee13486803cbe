use Rattle.kernel.proofs.Handling.{IsAmid}
use Rattle.kernel.proofs.handlers.handle.Given as goal

abbrev pub invariant-loop-op_index : goal.invariant-loop-op_index
invariant-loop-op_index g l =
    IsAmid l.app l.handler l.ops l.fn.machine (g.L.Log.logged l.fn.log) l.op_index l.over l.last l.machine (g.L.Log.logged l.log)
