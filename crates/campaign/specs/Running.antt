-- What is known of a runner, and of the worker that has it, on the way through the rows of a setup.
use Rattle.std.specs.Prelude.{List, Option}
use Rattle.std.specs.List.{AllByRecursion}
use Rattle.machine.specs.Logged.{all_of}
use Rattle.machine.specs.Can.{IsUnderWay}
use Rattle.deal.specs.Tallies.{Tallied}
use Rattle.kernel.specs.Leads.{IsLed, IsPast}
use Rattle.model.specs.declared.event.End.{End}
use Rattle.model.specs.declared.plan.Injection.{Injection}
use Rattle.model.specs.Run.{end_of, state_after}
use Rattle.rows.specs.declared.rows.KeptRow.{KeptRow}
use Rattle.rows.specs.Links.{AreLegs}
use Rattle.campaign.specs.declared.meeting.ahead.Ahead.{Ahead}
use Rattle.campaign.specs.declared.meeting.runner.Runner.{Runner}
use Rattle.campaign.specs.declared.setup.Setup.{Setup}
use Rattle.campaign.specs.declared.worker.Outcome.{Outcome}
use Rattle.campaign.specs.declared.worker.Worker.{Worker}
use Rattle.campaign.specs.Visited.{AreBehind, AreVisited, IsAhead, Knows}
use Rattle.campaign.specs.Working.{store_in, GainsRow, GainsRows, IsPassed, IsRestOf, KeepsRow}

-- ---- between two rows

-- each of its legs goes on with events that are there
abbrev pub HasLegs : Setup → Runner → Type 0
HasLegs setup runner = AreLegs setup.shelf.now.base.events (store_in runner)

-- its visited states are right
abbrev pub HasVisited : Setup → Runner → Type 0
HasVisited setup runner = AreVisited setup.app.now setup.shelf.now.limits setup.view.now
    setup.shelf.now.base (store_in runner) runner.table.visited.items

-- it kept the row of this point so, with what its store gained
abbrev pub RunsRow : Setup → (point : List Injection) → (old new : Runner) → KeptRow → Type 0
RunsRow setup point old new kept = GainsRow setup.app.now setup.shelf.now.limits setup.view.now
    setup.shelf.now.base point (store_in old) (store_in new) kept

-- ---- a row on its way

-- its kernel has come along the row of this point
abbrev pub IsOnWay : Setup → (point : List Injection) → Runner → Type 0
IsOnWay setup point runner = IsUnderWay setup.app.now point setup.shelf.now.limits runner.simulation.kernel

-- its kernel has come along the row of these injections, and past the last of them
abbrev pub IsPastAll : Setup → (injections : List Injection) → Runner → Type 0
IsPastAll setup injections runner = IsPast setup.app.now setup.shelf.now.limits runner.simulation.kernel injections

-- how the row of these injections ends at the step of its kernel, if it does
abbrev pub end_at : Setup → (injections : List Injection) → Runner → Option End
end_at setup injections runner = end_of setup.app.now setup.shelf.now.limits
    (state_after setup.app.now setup.shelf.now.limits injections runner.simulation.kernel.steps)

-- Each run that has reached one of the kernels that it noted reaches the present one.
abbrev pub HasPassed : Setup → Runner → Type 0
HasPassed setup runner = AreBehind setup.app.now setup.shelf.now.limits
    (all_of runner.simulation.trail) runner.simulation.kernel runner.passed.items

-- Each run that reaches the old kernel reaches the new one, and reports what the trail gained.
abbrev pub IsLedOn : Setup → (old new : Runner) → Type 0
IsLedOn setup old new = IsLed setup.app.now setup.shelf.now.limits old.simulation.kernel new.simulation.kernel
    (all_of old.simulation.trail) (all_of new.simulation.trail)

-- If the old visited states are right, each row that reaches the new kernel goes on in this way.
abbrev pub IsAheadOf : Setup → (old new : Runner) → Ahead → Type 0
IsAheadOf setup old new rest =
    IsAhead setup.app.now setup.shelf.now.limits setup.shelf.now.base old.table.visited.items new.simulation.kernel rest

-- ---- the rest of a row

-- The row of this point, which had reached the old kernel, goes on by what the trail gained, and then in this way.
abbrev pub IsRestOfRow : Setup → (point : List Injection) → (old new : Runner) → Ahead → Type 0
IsRestOfRow setup point old new rest = IsRestOf setup.app.now setup.shelf.now.limits setup.view.now
    setup.shelf.now.base (store_in old) (store_in new) point old.simulation.kernel rest

-- Each row that reaches one of the kernels that it noted goes on by the trail from there on, and then in this way.
abbrev pub ArePassed : Setup → Runner → Ahead → Type 0
ArePassed setup runner rest = AllByRecursion
    (IsPassed setup.app.now setup.shelf.now.limits setup.view.now setup.shelf.now.base (store_in runner) rest)
    runner.passed.items

-- ---- a worker

-- what it knows of its rows, and of its runner's legs and visited states
abbrev pub KnowsRows : Setup → Worker → Type 0
KnowsRows setup worker = Knows setup.app.now setup.shelf.now.limits setup.view.now setup.shelf.now.base
    worker.kept (store_in worker.runner.value) worker.runner.value.table.visited.items

-- The row of this point comes after the rows that it had, and has this outcome.
abbrev pub MakesRow : Setup → (point : List Injection) → (old new : Worker) → Outcome → Type 0
MakesRow setup point old new outcome = KeepsRow setup.app.now setup.shelf.now.limits setup.view.now setup.shelf.now.base
    point old.kept new.kept (store_in old.runner.value) (store_in new.runner.value) outcome

-- Those of these points do, and the seat counted them.
abbrev pub MakesRows : Setup → (points : List (List Injection)) → (old new : Worker) → (seat seat' : Tallied) → Type 0
MakesRows setup points old new seat seat' = GainsRows setup.app.now setup.shelf.now.limits setup.view.now setup.shelf.now.base
    points old.kept new.kept (store_in old.runner.value) (store_in new.runner.value) seat seat'
