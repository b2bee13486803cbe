use Rattle.std.proofs.Common.{◌≡◌, ◌≤◌, ◌+◌, length, drop}
use Rattle.std.specs.List.{flat_map}
use Rattle.model.specs.Scripts.{most_points}
use Rattle.model.specs.Campaign.{points_of}
use Rattle.campaign.proofs.points.count_points.Given as goal

abbrev pub invariant-loop-entry : goal.invariant-loop-entry
invariant-loop-entry l = record {
  counted : l.count + length (flat_map (points_of l.steps) (drop l.entry-index l.entries))
      ≡ length (flat_map (points_of l.steps) l.entries);
  few : l.count ≤ most_points;
}
