use Rattle.std.proofs.Common.{◌≡◌, true}
use Rattle.lists.specs.Words.{AreSameBelow}
use Rattle.lists.proofs.words.are_same_values.Given as goal

abbrev pub invariant-loop-at : goal.invariant-loop-at
invariant-loop-at l = record { same : l.same ≡ true → AreSameBelow l.values l.others l.at }
