use Rattle.std.proofs.Common.{◌≡◌, take}
use Rattle.std.specs.List.{flat_map}
use Rattle.model.specs.Campaign.{points_of}
use Rattle.campaign.proofs.points.points_from.Given as goal

abbrev pub invariant-loop-entry : goal.invariant-loop-entry
invariant-loop-entry l = record {
  points : l.points.items ≡ flat_map (points_of l.steps) (take l.entry-index l.entries);
}
