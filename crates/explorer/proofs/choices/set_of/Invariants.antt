use Rattle.explorer.proofs.Choosing.{SetUntil}
use Rattle.explorer.proofs.choices.set_of.Given as goal

abbrev pub invariant-loop-number : goal.invariant-loop-number
invariant-loop-number l = SetUntil l.fn.handlers l.set.items l.number
