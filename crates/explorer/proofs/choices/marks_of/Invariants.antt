use Rattle.explorer.proofs.Choosing.{MarksUntil}
use Rattle.explorer.proofs.choices.marks_of.Given as goal

abbrev pub invariant-loop-handler : goal.invariant-loop-handler
invariant-loop-handler l = MarksUntil l.handlers l.marks l.handler-index
