use Rattle.byte_io.proofs.Sending.{Writes_then}
use Rattle.byte_io.proofs.shown.put_lines.Goals as goal

pub returns-clause-text : goal.returns-clause-text
returns-clause-text g c = rw c.new-page.ensures at (Writes_then _ _ _ _ _ _ c.in_ok-add_shown.ensures.text c.flush.ensures.text)
