use Rattle.std.proofs.Common.{◌≡◌, ◌∷◌, map, take}
use Rattle.std.specs.List.{flat_map}
use Rattle.explorer.proofs.choices.Level.longer.Given as goal

abbrev pub invariant-loop-handler : goal.invariant-loop-handler
invariant-loop-handler l =
    l.choices.items ≡ flat_map (λ handler. map (λ others. handler ∷ others) l.self) (take l.handler-index l.handlers)
