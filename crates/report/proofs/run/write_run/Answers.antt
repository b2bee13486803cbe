use Rattle.byte_io.proofs.Sending.{Writes_then}
use Rattle.report.proofs.run.write_run.Goals as goal

pub returns-clause-text : goal.returns-clause-text
returns-clause-text g c =
    let added =
    rw (c.new-report.ensures.app, c.new-report.ensures.page, c.as_slice.ensures.value) at c.in_ok-add_run.ensures.text in
    rw (← c.run.view_is) (Writes_then _ _ _ _ _ _ added c.finish.ensures.text)
