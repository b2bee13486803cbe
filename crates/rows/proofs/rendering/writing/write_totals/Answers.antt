use Rattle.byte_io.proofs.Sending.{Writes_then}
use Rattle.rows.proofs.rendering.writing.write_totals.Goals as goal

pub returns-clause-text : goal.returns-clause-text
returns-clause-text g c =
    let totals = rw (c.requires.empty, c.requires.sound.counted) at c.in_ok-add_totals.ensures.text in
    Writes_then _ _ _ _ _ _ totals c.finish.ensures.text
