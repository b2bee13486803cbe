use Rattle.std.proofs.Common.{refl, arith}
use Rattle.report.specs.EndStates.{task_line}
use Rattle.report.proofs.EndStates.{one_more}
use Rattle.report.proofs.end_state.push_task_lines.Goals as goal

pub loop-number-preserved : goal.loop-number-preserved
loop-number-preserved c = record {
  text =
      one_more (task_line c.args.app.now) c.loop-number.number c.args.situations.now _ _ c.loop-number-test.true
      refl c.args.page.now _ _ c.loop-number.invariant.text c.push_task_line.ensures.text;
  size = let more = c.push_task_line.ensures.size in let before = c.loop-number.invariant.size in omega arith;
}
