use Rattle.std.proofs.Common.{arith}
use Rattle.rows.proofs.Cursors.{in_places, left_at}
use Rattle.rows.proofs.cursor.Cursor.leave_ended.Goals as goal

pub loop-place-preserved : goal.loop-place-preserved
loop-place-preserved c =
    let i = c.loop-place.invariant in
    let next =
    left_at c.args.rows.now c.loop-place.self i.at c.requires.sound c.loop-place.place i.within i.is c.loop-place-test.true in
    record {
      at = next;
      number = i.number;
      within = in_places c.args.rows.now _ next (omega (arith, i.number, c.requires.more));
      is = c.place_at-place-in-loop-place.ensures;
    }
