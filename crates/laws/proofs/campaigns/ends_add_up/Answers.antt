use Rattle.laws.proofs.Ends.{ends_sum, few_unreached}
use Rattle.laws.proofs.campaigns.ends_add_up.Goals as goal

pub returns-clause-ends : goal.returns-clause-ends
returns-clause-ends c = ends_sum

pub returns-clause-not_reached : goal.returns-clause-not_reached
returns-clause-not_reached c = few_unreached
