use Rattle.jobs.proofs.Lines.{tells_by_writes}
use Rattle.jobs.proofs.fault_line.tell.Goals as goal

pub returns : goal.returns
returns g c =
    tells_by_writes _ _ _ c.write_line.result _ _ _ c.as_slice.ensures.value c.pieces_of-pieces.ensures
    c.write_line.ensures.failed c.write_line.ensures.text
