-- Injections, and which of them are a point.
use Rattle.std.specs.Prelude.{ℕ, ◌≤◌, List, [], ◌∷◌, length}
use Rattle.std.specs.List.{AllByRecursion}
use Rattle.model.specs.declared.plan.Injection.{Injection}

-- The number that each has is at most that of those after it.
abbrev pub Rises : {X : Type 0} → (X → ℕ) → List X → Type 0
Rises number [] = Unit {0}
Rises number (x ∷ xs) = AllByRecursion (λ y. number x ≤ number y) xs × Rises number xs

-- of injections of a point (profile)
abbrev pub most_of_point : ℕ
most_of_point = 3

-- They are in the order of their steps.
abbrev pub AreInOrder : List Injection → Type 0
AreInOrder injections = Rises (λ (i : Injection). i.step) injections

-- One to three injections, in the order of their steps (profile).
pub record IsPoint (injections : List Injection) : Type 0 where
  pub some : 1 ≤ length injections
  pub few : length injections ≤ most_of_point
  pub in_order : AreInOrder injections

-- the step of the first of them
abbrev pub first_step : List Injection → ℕ
first_step [] = 0
first_step (i ∷ is) = i.step

-- the handler of the first of them
abbrev pub first_handler : List Injection → ℕ
first_handler [] = 0
first_handler (i ∷ is) = i.handler

-- the step of the last of them
abbrev pub last_step : List Injection → ℕ
last_step [] = 0
last_step (i ∷ []) = i.step
last_step (i ∷ is) = last_step is
