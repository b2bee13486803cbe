use Rattle.std.proofs.Common.{◌≡◌, true}
use Rattle.campaign.specs.Running.{KnowsRows}
use Rattle.campaign.specs.Setup.{work_of, IsWalkOf}
use Rattle.campaign.specs.Working.{store_in}
use Rattle.campaign.proofs.Blocks.{HasWorked}
use Rattle.campaign.proofs.worker.work_with.Given as goal

abbrev pub invariant-loop : goal.invariant-loop
invariant-loop g l = record {
  able : (goal.iterator-loop g).can_next l.iterator';
  finite : (goal.iterator-loop g).is_finite l.iterator';
  refused : l.refused ≡ true;
  game : l.lane.game ≡ l.fn.job.lane.game;
  walk : IsWalkOf l.setup l.worker.walk.value;
  known : KnowsRows l.setup l.worker;
  worked : HasWorked (work_of l.setup l.fn.job.lane.game.lengths) l.worker.kept
      (store_in l.worker.runner.value) l.worker.blocks.items l.lane.answered l.fn.job.seat l.seat;
}
