use Rattle.std.proofs.Common.{arith, sym}
use Rattle.std.proofs.lemmas.Option.{slice_get_past}
use Rattle.rows.proofs.kept_rows.KeptRows.get.Goals as goal

pub returns-else-number-len : goal.returns-else-number-len
returns-else-number-len c =
    let len = c.len.ensures.value in
    sym (slice_get_past c.args.self.now c.args.number (omega (arith, c.if-number-len.false)))
