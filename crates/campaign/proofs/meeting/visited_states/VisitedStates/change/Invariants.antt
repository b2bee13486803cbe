use Rattle.std.proofs.Common.{◌≡◌}
use Rattle.campaign.proofs.meeting.visited_states.VisitedStates.change.Given as goal

abbrev pub invariant-loop-probe : goal.invariant-loop-probe
invariant-loop-probe l = record { same : l.self.visited ≡ l.fn.self.visited }
