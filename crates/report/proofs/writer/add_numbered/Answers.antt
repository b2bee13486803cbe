use Rattle.byte_io.proofs.Sending.{Adds_stopped, Adds_two}
use Rattle.report.specs.Again.{number_text}
use Rattle.report.proofs.writer.add_numbered.Goals as goal

pub returns-in_err-add_row_number-clause-text : goal.returns-in_err-add_row_number-clause-text
returns-in_err-add_row_number-clause-text g c =
    Adds_stopped _ _ _ (number_text c.args.number) c.args.behind.now _ _
    c.from_residual.ensures.0 c.in_err-add_row_number.ensures.text

pub returns-clause-text : goal.returns-clause-text
returns-clause-text g c =
    Adds_two _ _ _ _ (number_text c.args.number) _ c.args.behind.now _ _ c.in_ok-add_row_number.ensures.text c.add_text.ensures.text
