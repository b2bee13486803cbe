use Rattle.model.specs.declared.value.ValueOp.TheVariants.{Store}
use Rattle.laws.proofs.Calculating.{answers_value, loaded}
use Rattle.laws.proofs.values.loads_find_what_was_stored.Goals as goal

pub returns-clause-store : goal.returns-clause-store
returns-clause-store c = λ app task x value s. answers_value app task (Store x value) s

pub returns-clause-load : goal.returns-clause-load
returns-clause-load c = loaded
