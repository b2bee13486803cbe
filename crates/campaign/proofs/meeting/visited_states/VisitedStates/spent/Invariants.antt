use Rattle.std.proofs.Common.{◌≡◌}
use Rattle.campaign.proofs.meeting.visited_states.VisitedStates.spent.Given as goal

abbrev pub invariant-loop : goal.invariant-loop
invariant-loop l = record { same : l.self.visited ≡ l.fn.self.visited }
