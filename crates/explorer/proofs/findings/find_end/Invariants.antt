use Rattle.std.proofs.Common.{take}
use Rattle.explorer.specs.Finding.{HaveOthers}
use Rattle.explorer.proofs.findings.find_end.Given as goal

abbrev pub invariant-loop-number : goal.invariant-loop-number
invariant-loop-number l = HaveOthers (take l.number l.found) l.end
