use Rattle.byte_io.proofs.Sending.{Adds_unable, Adds_past}
use Rattle.byte_io.proofs.add.add_text.Goals as goal

pub returns-in_err-flush-clause-text : goal.returns-in_err-flush-clause-text
returns-in_err-flush-clause-text g c = Adds_unable _ _ _ _ _ _ c.from_residual.ensures.0 c.in_err-flush.ensures.text

pub returns-then-text-gt-MOST_COPIED-clause-text : goal.returns-then-text-gt-MOST_COPIED-clause-text
returns-then-text-gt-MOST_COPIED-clause-text g c =
    Adds_past _ _ _ _ _ _ _ c.in_ok-flush.ensures.text c.in_ok-flush.ensures.empty c.put_all.ensures.text

pub returns-in_err-make_room-clause-text : goal.returns-in_err-make_room-clause-text
returns-in_err-make_room-clause-text g c =
    Adds_unable _ _ _ _ _ _ c.from_residual-in_err-make_room.ensures.0 c.in_err-make_room.ensures.sent
