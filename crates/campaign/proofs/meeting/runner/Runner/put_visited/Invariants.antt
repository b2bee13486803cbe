use Rattle.std.proofs.Common.{◌≡◌, length}
use Rattle.campaign.proofs.GoingOn.{LeavesRight}
use Rattle.campaign.proofs.meeting.runner.Runner.put_visited.Given as goal

abbrev pub invariant-loop-passed : goal.invariant-loop-passed
invariant-loop-passed l = record {
  trail : l.self.simulation.trail ≡ l.fn.self.simulation.trail;
  legs : l.self.legs ≡ l.fn.self.legs;
  right : LeavesRight l.number l.rest l.fn.self.passed.items
      l.fn.self.table.visited.items l.self.passed.items l.self.table.visited.items;
}

abbrev pub decreases-loop-passed : goal.decreases-loop-passed
decreases-loop-passed l = length l.self.passed.items
