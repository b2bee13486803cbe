use Rattle.laws.proofs.Calculating.{ends_the_handler, ends_the_run, first_counts, misuse_alone, not_done}
use Rattle.laws.proofs.values.ops_without_a_value_change_nothing.Goals as goal

pub returns-clause-task : goal.returns-clause-task
returns-clause-task c = not_done

pub returns-clause-handler : goal.returns-clause-handler
returns-clause-handler c = ends_the_handler

pub returns-clause-alone : goal.returns-clause-alone
returns-clause-alone c = misuse_alone

pub returns-clause-ends : goal.returns-clause-ends
returns-clause-ends c = ends_the_run

pub returns-clause-first : goal.returns-clause-first
returns-clause-first c = first_counts
