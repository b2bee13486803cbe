use Rattle.std.proofs.Common.{◌≡◌, ◌≤◌, ◌-◌, ◌++◌, map}
use Rattle.std.specs.List.{range_with_len}
use Rattle.model.specs.Campaign.{one_point}
use Rattle.campaign.proofs.points.push_each.Given as goal

abbrev pub invariant-loop-step : goal.invariant-loop-step
invariant-loop-step l = record {
  steps : l.points.items
      ≡ l.fn.points.items ++ map (one_point l.handler) (range_with_len l.first (l.step - l.first));
  from : l.first ≤ l.step;
  within : l.step - l.first ≤ l.end - l.first;
}
