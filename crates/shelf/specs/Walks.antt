-- A kernel on its way along the base run.
use Rattle.std.specs.Prelude.{◌≡◌, [], length}
use Rattle.model.specs.Application.{Application, Limits}
use Rattle.model.specs.Run.{events_after}
use Rattle.machine.specs.Can.{IsUnderWay}
use Rattle.shelf.specs.declared.walk.Walk.{Walk}

-- The kernel is on its way along the base run, which has reported this many events before it.
pub record IsWalk (app : Application) (limits : Limits) (walk : Walk) : Type 0 where
  pub way : IsUnderWay app [] limits walk.kernel
  pub before : walk.before ≡ length (events_after app limits [] walk.kernel.steps)
