use Rattle.model.specs.State.{call_at}
use Rattle.model.specs.Step.{call_with_number}
use Rattle.laws.proofs.Answering.{stays_within}
use Rattle.laws.proofs.LastAnswers.{others_stay, stays_in_call}
use Rattle.laws.proofs.values.last_answers_stay_in_a_call.Goals as goal

pub returns-clause-phase : goal.returns-clause-phase
returns-clause-phase c = λ app task object access ticks s l.
    stays_within task app object (call_with_number s task access) ticks (call_at s task).phase s l

pub returns-clause-step : goal.returns-clause-step
returns-clause-step c = stays_in_call

pub returns-clause-others : goal.returns-clause-others
returns-clause-others c = others_stay
