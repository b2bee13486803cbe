-- The values of `toml` beside what the checks speak of.
use Rattle.std.proofs.Common.{◌≡◌, List, [], ◌∷◌, map, refl, ap}
use Rattle.toml.specs.Data.{Data}
use Rattle.toml.specs.View.{view, items_of, items_view}
use Rattle.toml.specs.declared.value.Value.{Value}
use Rattle.script.specs.Arrays.{list_of}

pub list_of_items : (ds : List Data) → list_of (items_of ds) ≡ ds
list_of_items [] = refl
list_of_items (d ∷ ds) = ap (λ es. d ∷ es) (list_of_items ds)

pub list_of_view : (vs : List Value) → list_of (items_view vs) ≡ map view vs
list_of_view vs = list_of_items (map view vs)
