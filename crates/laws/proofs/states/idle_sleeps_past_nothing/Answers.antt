use Rattle.laws.proofs.Sleeping.{idle_before_wake, idle_before_interrupts, idle_before_raised}
use Rattle.laws.proofs.states.idle_sleeps_past_nothing.Goals as goal

pub returns : goal.returns
returns c = record { wakes = idle_before_wake; interrupts = idle_before_interrupts; raised = idle_before_raised }
