-- Kernels to which each run comes that has come to an earlier one, and into which nothing is injected any more.
use Rattle.std.specs.Prelude.{◌≡◌, ◌≤◌, ℕ, List, [], ◌++◌}
use Rattle.model.specs.declared.event.Event.{Event}
use Rattle.model.specs.declared.plan.Injection.{Injection}
use Rattle.kernel.specs.declared.rests.RestEnding.{RestEnding}
use Rattle.model.specs.Application.{Application, Limits}
use Rattle.model.specs.Run.{events_after, injected}
use Rattle.machine.specs.declared.machine.Machine.{Machine}
use Rattle.machine.specs.Can.{IsUnderWay}
use Rattle.kernel.specs.Rests.{IsRest}

-- The run with this plan has come to the kernel, and nothing is injected into it from there on.
pub record IsPast (app : Application) (limits : Limits) (k : Machine) (plan : List Injection) : Type 0 where
  pub way : IsUnderWay app plan limits k
  pub past : (n : ℕ) → k.steps ≤ n → injected plan n ≡ []

-- Each such run at the old kernel comes to the new one, and reports these events on the way.
pub record LeadsTo (app : Application) (limits : Limits) (old new : Machine) (own : List Event) : Type 0 where
  pub on : old.steps ≤ new.steps
  pub way : (plan : List Injection) → IsPast app limits old plan → IsUnderWay app plan limits new
  pub events : (plan : List Injection) → IsPast app limits old plan
      → events_after app limits plan new.steps ≡ events_after app limits plan old.steps ++ own

-- The old kernel leads to the new one so, and the events on the way came behind the others that were kept.
pub record IsLed (app : Application) (limits : Limits) (old new : Machine) (before after : List Event) : Type 0 where
  pub own : List Event
  pub kept : after ≡ before ++ own
  pub leads : LeadsTo app limits old new own

-- Each such run is over at the kernel, and ends so.
pub record IsEnd (app : Application) (limits : Limits) (k : Machine) (ending : RestEnding) : Type 0 where
  pub here : ending.steps ≡ k.steps
  pub rest : IsRest app limits k (record { events = []; steps = ending.steps; ticks = ending.ticks; end = ending.end })
