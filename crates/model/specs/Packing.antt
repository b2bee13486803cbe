-- How a point lies in memory: its steps, and apart from them its handlers. No contract speaks of it.
use Rattle.std.specs.Prelude.{◌≡◌, ℕ, List, [], ◌∷◌, length, map}
use Rattle.model.specs.declared.plan.Injection.{Injection}
use Rattle.model.specs.Points.{IsPoint}

-- an injection for each step, with the handler in the same place
abbrev pub paired : List ℕ → List ℕ → List Injection
paired [] handlers = []
paired (s ∷ steps) [] = []
paired (s ∷ steps) (h ∷ handlers) = record { step = s; handler = h } ∷ paired steps handlers

-- three places that begin with these, with 0 in the others
abbrev pub padded : List ℕ → List ℕ
padded [] = 0 ∷ 0 ∷ 0 ∷ []
padded (a ∷ []) = a ∷ 0 ∷ 0 ∷ []
padded (a ∷ b ∷ []) = a ∷ b ∷ 0 ∷ []
padded (a ∷ b ∷ c ∷ ns) = a ∷ b ∷ c ∷ []

abbrev pub steps_of : List Injection → List ℕ
steps_of injections = padded (map (λ (i : Injection). i.step) injections)

abbrev pub handlers_of : List Injection → List ℕ
handlers_of injections = padded (map (λ (i : Injection). i.handler) injections)

-- These injections are a point, and lie in these places.
pub record IsPacked (steps handlers : List ℕ) (count : ℕ) (injections : List Injection) : Type 0 where
  pub is_point : IsPoint injections
  pub steps_are : steps_of injections ≡ steps
  pub handlers_are : handlers_of injections ≡ handlers
  pub count_is : length injections ≡ count
