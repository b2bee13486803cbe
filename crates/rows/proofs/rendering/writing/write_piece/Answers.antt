use Rattle.byte_io.proofs.Sending.{Writes_then}
use Rattle.rows.proofs.rendering.writing.write_piece.Goals as goal

pub returns-clause-text : goal.returns-clause-text
returns-clause-text g c =
    let rows = rw c.requires.empty at c.in_ok-add_piece.ensures.text in
    Writes_then _ _ _ _ _ _ rows c.finish.ensures.text
