use Rattle.std.proofs.Common.{◌≡◌, ◌≤◌, ◌+◌, ◌*◌, ◌++◌, length, take}
use Rattle.std.specs.List.{flat_map}
use Rattle.report.specs.EndStates.{held_line}
use Rattle.report.proofs.end_state.push_held_lines.Given as goal

abbrev pub invariant-loop-mutex : goal.invariant-loop-mutex
invariant-loop-mutex l = record {
  text : l.page ≡ l.initial.page ++ flat_map (held_line l.app) (take l.mutex-index l.held);
  size : length l.page ≤ length l.initial.page + 33 * l.mutex-index;
}
