use Rattle.byte_io.proofs.Sending.{Writes_then}
use Rattle.rows.proofs.rendering.row_texts.write_row.Goals as goal

pub returns-clause-text : goal.returns-clause-text
returns-clause-text g c =
    let row = rw c.requires.empty at c.in_ok-add_row.ensures.text in
    Writes_then _ _ _ _ _ _ row c.finish.ensures.text
