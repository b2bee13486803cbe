-- The rest of a run, into which nothing is injected any more.
use Rattle.std.specs.Prelude.{◌≡◌, ◌≤◌, ℕ, List, [], ◌++◌}
use Rattle.model.specs.declared.plan.Injection.{Injection}
use Rattle.model.specs.Application.{Application, Limits}
use Rattle.model.specs.Run.{Run, IsRun, events_after, injected}
use Rattle.machine.specs.declared.machine.Machine.{Machine}
use Rattle.machine.specs.Can.{IsUnderWay}

-- The rest of every run that comes to this kernel, and into which nothing is injected from there on. It reports these events, and
-- the run has this end, after this many steps and ticks in all.
pub record IsRest (app : Application) (limits : Limits) (k : Machine) (rest : Run) : Type 0 where
  pub of_each : (plan : List Injection) → IsUnderWay app plan limits k → ((n : ℕ) → k.steps ≤ n → injected plan n ≡ [])
      → IsRun app plan limits (record {
        events = events_after app limits plan k.steps ++ rest.events;
        steps = rest.steps;
        ticks = rest.ticks;
        end = rest.end;
      })
