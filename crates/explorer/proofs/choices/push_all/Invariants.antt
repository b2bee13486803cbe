use Rattle.std.proofs.Common.{◌≡◌, ◌∷◌, ◌++◌, map, take}
use Rattle.explorer.proofs.choices.push_all.Given as goal

abbrev pub invariant-loop-others : goal.invariant-loop-others
invariant-loop-others l =
    l.longer.items ≡ l.initial.longer.items ++ map (λ others. l.handler ∷ others) (take l.others-index l.choices)
