use Rattle.std.proofs.Common.{◌≡◌, ◌∷◌, ◌++◌, [], rules}
use Rattle.campaign.proofs.GoingOn.{right_then}
use Rattle.campaign.proofs.meeting.runner.Runner.put_visited.Goals as goal

pub loop-passed-preserved : goal.loop-passed-preserved
loop-passed-preserved c =
    let step = c.steps.result in
    let popped : c.loop-passed.self.passed.items ≡ c.pop.new.self.items ++ c.in-Some.passed ∷ [] = search rules in
    record {
      trail = c.loop-passed.invariant.trail;
      legs = c.loop-passed.invariant.legs;
      right =
          right_then c.args.number c.args.rest.now c.args.self.now.passed.items c.args.self.now.table.visited.items
          c.loop-passed.self.passed.items c.loop-passed.self.table.visited.items
          c.in-Some.passed step c.pop.new.self.items c.put.new.self.visited.items c.loop-passed.invariant.right popped
          c.put.ensures;
    }
