use Rattle.std.proofs.Common.{◌-◌}
use Rattle.machine.specs.StandsFor.{AreBlankFrom}
use Rattle.machine.proofs.front.tasks_of.Given as goal

abbrev pub invariant-loop-behind : goal.invariant-loop-behind
invariant-loop-behind l = AreBlankFrom l.fn.most l.progress → AreBlankFrom (l.most - l.behind) l.progress
