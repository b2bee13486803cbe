use Rattle.std.proofs.Common.{arith}
use Rattle.rows.proofs.Totalling.{got}
use Rattle.rows.proofs.rendering.row_texts.RowTexts.stretches.Goals as goal

pub returns-in_ok-found-in-Some : goal.returns-in_ok-found-in-Some
returns-in_ok-found-in-Some c =
    let all = rw c.in-Some.is at c.self.invariant.1 in
    let found = c.in_ok-found-in-Some.found.now in
    let lookup = c.in_ok-found-in-Some.ensures.lookup in
    let there = rw c.deref.ensures.value at (got c.deref.result.now c.args.part_number found (omega arith) lookup.1) in
    rw (← c.self.view_is) (rw there at (all c.args.part_number))
