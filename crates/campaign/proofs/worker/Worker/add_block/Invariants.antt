use Rattle.std.proofs.Common.{◌≡◌, take}
use Rattle.deal.specs.Parts.{zeros}
use Rattle.campaign.specs.Running.{KnowsRows, MakesRows}
use Rattle.campaign.specs.Setup.{IsWalkOf}
use Rattle.campaign.specs.Working.{counted}
use Rattle.campaign.proofs.worker.Worker.add_block.Given as goal

abbrev pub invariant-loop-point : goal.invariant-loop-point
invariant-loop-point l = record {
  walk : IsWalkOf l.setup l.self.walk.value;
  blocks : l.self.blocks ≡ l.fn.self.blocks;
  known : KnowsRows l.setup l.self;
  rows : MakesRows l.setup (take l.point-index l.points) l.fn.self l.self
      (counted l.setup.tally.now zeros) (counted l.setup.tally.now l.counts.kinds);
}
