use Rattle.std.proofs.Common.{◌≡◌, ◌+◌, ◌-◌, None}
use Rattle.campaign.specs.Running.{HasPassed, IsLedOn, IsPastAll, end_at}
use Rattle.campaign.proofs.meeting.runner.Runner.run_on.Given as goal

abbrev pub invariant-meeting_steps : goal.invariant-meeting_steps
invariant-meeting_steps l = record {
  led : IsLedOn l.setup l.fn.self l.self;
  past : IsPastAll l.setup l.injections l.self;
  goes : end_at l.setup l.injections l.self ≡ None;
  passed : HasPassed l.setup l.self;
  table : l.self.table ≡ l.fn.self.table;
  legs : l.self.legs ≡ l.fn.self.legs;
  meter : l.self.simulation.meter + l.fn.self.simulation.kernel.steps ≡ l.fn.self.simulation.meter + l.self.simulation.kernel.steps;
}

abbrev pub decreases-meeting_steps : goal.decreases-meeting_steps
decreases-meeting_steps l = l.setup.shelf.now.limits.steps - l.self.simulation.kernel.steps
