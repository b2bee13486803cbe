use Rattle.std.proofs.Common.{◌≡◌, ◌≤◌, ◌+◌, ◌*◌, ◌++◌, length, take}
use Rattle.report.specs.EndStates.{numbered_lines, variable_line}
use Rattle.report.proofs.end_state.push_variable_lines.Given as goal

abbrev pub invariant-loop-number : goal.invariant-loop-number
invariant-loop-number l = record {
  text : l.page ≡ l.initial.page ++ numbered_lines variable_line 0 (take l.number l.variables);
  size : length l.page ≤ length l.initial.page + 33 * l.number;
}
