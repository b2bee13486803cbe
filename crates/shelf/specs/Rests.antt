-- Where other runs join the base run.
use Rattle.std.specs.Prelude.{◌≤◌, ℕ, List, IfSome, length, drop, slice_get}
use Rattle.model.specs.Application.{Application, Limits}
use Rattle.model.specs.Run.{Run}
use Rattle.machine.specs.declared.machine.Machine.{Machine}
use Rattle.kernel.specs.Rests.{IsRest}
use Rattle.shelf.specs.declared.checkpoints.Checkpoint.{Checkpoint}

-- Each run that reaches this kernel, and into which nothing is injected from there on, goes on as the base run does after this
-- many of its events.
pub record JoinsBase (app : Application) (limits : Limits) (base : Run) (k : Machine) (before : ℕ) : Type 0 where
  pub within : before ≤ length base.events
  pub rest : IsRest app limits k (record base { events = drop before base.events })

-- It does so at each of these checkpoints, after the events that the base run had reported by then.
abbrev pub AreRests : Application → Limits → Run → List Checkpoint → Type 0
AreRests app limits base checkpoints =
    (number : ℕ) → IfSome (slice_get checkpoints number)
    (λ (checkpoint : Checkpoint). JoinsBase app limits base checkpoint.kernel checkpoint.before)
