use Rattle.std.proofs.Common.{◌≡◌, ◌≤◌, ◌+◌, ◌*◌, ◌++◌, length, take}
use Rattle.report.specs.EndStates.{numbered_lines, task_line}
use Rattle.report.proofs.end_state.push_task_lines.Given as goal

abbrev pub invariant-loop-number : goal.invariant-loop-number
invariant-loop-number l = record {
  text : l.page ≡ l.initial.page ++ numbered_lines (task_line l.app) 0 (take l.number l.situations);
  size : length l.page ≤ length l.initial.page + 55 * l.number;
}
