-- Lists that have the same elements.
use Rattle.std.specs.Prelude.{List, [], ◌∷◌}

-- The one list is the other in some order.
pub data IsReordered {X : Type 0} : List X → List X → Type 0 where
  Nothing : IsReordered [] []
  Kept : (x : X) → {xs ys : List X} → IsReordered xs ys → IsReordered (x ∷ xs) (x ∷ ys)
  Swapped : (x y : X) → (xs : List X) → IsReordered (x ∷ y ∷ xs) (y ∷ x ∷ xs)
  Then : {xs ys zs : List X} → IsReordered xs ys → IsReordered ys zs → IsReordered xs zs
