use Rattle.report.proofs.EndStates.{Writes_behind, Writes_stopped}
use Rattle.report.proofs.end_state.write_run_and_end_state.Goals as goal

pub returns-in_err-write_run-clause-text : goal.returns-in_err-write_run-clause-text
returns-in_err-write_run-clause-text g c = Writes_stopped _ _ _ _ _ c.from_residual.ensures.0 c.in_err-write_run.ensures.text

pub returns-clause-text : goal.returns-clause-text
returns-clause-text g c = Writes_behind _ _ _ _ _ _ c.in_ok-write_run.ensures.text c.write_end_state.ensures.text
