-- What the rows of a setup are made of, and the work that it is.
use Rattle.std.specs.Prelude.{ℕ, ◌<◌, ◌≤◌, Bool, List, length}
use Rattle.deal.specs.Tallies.{Tallied}
use Rattle.model.specs.declared.plan.Injection.{Injection}
use Rattle.model.specs.Run.{is_reached}
use Rattle.shelf.specs.declared.walk.Walk.{Walk}
use Rattle.shelf.specs.Shelves.{IsShelf}
use Rattle.shelf.specs.Walks.{IsWalk}
use Rattle.campaign.specs.declared.setup.Setup.{Setup}
use Rattle.campaign.specs.Working.{AreReady, Work}

-- the shelf is that of the application
abbrev pub IsSetup : Setup → Type 0
IsSetup setup = IsShelf setup.app.now setup.shelf.now

-- the walk goes along the base run
abbrev pub IsWalkOf : Setup → Walk → Type 0
IsWalkOf setup walk = IsWalk setup.app.now setup.shelf.now.limits walk

-- whether the row of this point is reached
abbrev pub is_reached_in : Setup → (point : List Injection) → Bool
is_reached_in setup point = is_reached setup.app.now setup.shelf.now.limits point setup.shelf.now.base.steps

-- There is a seat of the tally for each of 1 to 64 workers, with room for all points.
pub record AreSeats (setup : Setup) (seats : List Tallied) : Type 0 where
  pub some : 0 < length seats
  pub most : length seats ≤ 64
  pub ready : AreReady setup.tally.now (length setup.points.now) seats

-- the rows of its points, cut into blocks of these lengths
abbrev pub work_of : Setup → List ℕ → Work
work_of setup lens = record {
  app = setup.app.now;
  limits = setup.shelf.now.limits;
  view = setup.view.now;
  base = setup.shelf.now.base;
  points = setup.points.now;
  lengths = lens;
}
