use Rattle.rows.specs.Events.{row_from}
use Rattle.rows.proofs.rendering.writing.add_kept_row.Goals as goal

pub add_row_again-requires-clause-text : goal.add_row_again-requires-clause-text
add_row_again-requires-clause-text g c =
    (row_from c.args.events.now c.args.row.now.kept.now, rw c.in-Some.is at c.requires.row.text)

pub returns-in-Some-clause-text : goal.returns-in-Some-clause-text
returns-in-Some-clause-text g c =
    c.add_row_again.ensures.text (row_from c.args.events.now c.args.row.now.kept.now) (rw c.in-Some.is at c.requires.row.text)
