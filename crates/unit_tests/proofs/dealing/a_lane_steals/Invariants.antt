use Rattle.deal.specs.Sharing.{AreLanesOf}
use Rattle.unit_tests.proofs.dealing.a_lane_steals.Given as goal

abbrev pub invariant-loop-number : goal.invariant-loop-number
invariant-loop-number g l = AreLanesOf l.deal l.lanes.items
