use Rattle.std.proofs.Common.{refl, arith}
use Rattle.report.specs.EndStates.{variable_line}
use Rattle.report.proofs.EndStates.{one_more}
use Rattle.report.proofs.end_state.push_variable_lines.Goals as goal

pub loop-number-preserved : goal.loop-number-preserved
loop-number-preserved c = record {
  text =
      one_more variable_line c.loop-number.number c.args.variables.now _ _ c.loop-number-test.true
      refl c.args.page.now _ _ c.loop-number.invariant.text c.push_variable_line.ensures.text;
  size = let more = c.push_variable_line.ensures.size in let before = c.loop-number.invariant.size in omega arith;
}
