use Rattle.report.specs.Text.{head_text}
use Rattle.byte_io.proofs.Sending.{Adds_stopped, Adds_two}
use Rattle.report.proofs.writer.ReportWriter.begin_row.Goals as goal

pub returns-in_err-add_head-clause-text : goal.returns-in_err-add_head-clause-text
returns-in_err-add_head-clause-text g c =
    let ending = c.args.ending in
    rw (← c.self.view_is)
    (Adds_stopped _ _ _ (head_text c.self.inside.lines c.args.title ending.steps ending.ticks ending.end)
    _ _ _ c.from_residual.ensures.0
    (rw c.app.ensures at c.in_err-add_head.ensures.text))

pub returns-clause-text : goal.returns-clause-text
returns-clause-text g c =
    let ending = c.args.ending in
    rw (← c.self.view_is)
    (Adds_two _ _ _ _ (head_text c.self.inside.lines c.args.title ending.steps ending.ticks ending.end) _ _ _ _
    (rw c.app.ensures at c.in_ok-add_head.ensures.text) c.add_shared.ensures.text)
