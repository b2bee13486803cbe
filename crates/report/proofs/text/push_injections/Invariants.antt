use Rattle.std.proofs.Common.{◌≡◌, ◌≤◌, ◌+◌, ◌*◌, ◌++◌, length, take}
use Rattle.std.specs.List.{flat_map}
use Rattle.report.specs.Text.{next_text}
use Rattle.report.proofs.text.push_injections.Given as goal

abbrev pub invariant-loop-other : goal.invariant-loop-other
invariant-loop-other l = record {
  text : l.page ≡ l.initial.page ++ flat_map (next_text l.app) (take l.other-index l.others);
  size : length l.page ≤ length l.initial.page + 28 * l.other-index;
}
