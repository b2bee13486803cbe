use Rattle.laws.proofs.Priorities.{base_of_file, never_below_base}
use Rattle.laws.proofs.states.priorities_are_at_least_those_of_the_file.Goals as goal

pub returns : goal.returns
returns c = record { base = base_of_file; least = never_below_base }
