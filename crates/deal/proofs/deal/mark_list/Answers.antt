use Rattle.std.proofs.Common.{arith}
use Rattle.std.specs.Prelude.{slice_index}
use Rattle.deal.proofs.Gathering.{times_at, marks_more, marks_all}
use Rattle.deal.proofs.deal.mark_list.Goals as goal

pub bounds-marks-number : goal.bounds-marks-number
bounds-marks-number c =
    omega (
      arith,
      c.loop-number.invariant.0,
      c.requires (slice_index c.args.list.now c.loop-number.number-index)
          (times_at c.args.list.now c.loop-number.number-index c.loop-number-test.true),
    )

pub loop-number-preserved : goal.loop-number-preserved
loop-number-preserved c =
    let list = c.args.list.now in
    let i = c.loop-number.number-index in
    marks_more list c.args.marks.now c.loop-number.marks i c.loop-number-test.true
    (omega (arith, c.loop-number.invariant.0, c.requires (slice_index list i) (times_at list i c.loop-number-test.true)))
    c.loop-number.invariant

pub returns : goal.returns
returns c =
    marks_all c.args.list.now c.args.marks.now c.loop-number.marks
    c.loop-number.number-index c.loop-number-test.false c.loop-number.invariant
