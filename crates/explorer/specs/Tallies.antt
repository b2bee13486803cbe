-- What is found so far.
use Rattle.std.specs.Prelude.{◌≡◌, ◌<◌, ◌^◌, ℕ, false, List, ◌++◌, Contains, length, map}
use Rattle.std.specs.List.{AllByRecursion}
use Rattle.model.specs.declared.plan.Injection.{Injection}
use Rattle.model.specs.Application.{Application, Limits}
use Rattle.model.specs.Placements.{AreAll, AreDistinct, Found, IsFound, Placed, is_less}

-- This is found, in any order.
pub record IsTally (all : List Placed) (found : List Found) : Type 0 where
  pub each : AllByRecursion (IsFound all) found
  pub whole : AllByRecursion (λ (p : Placed). (f : Found) × Contains found f × (f.least.end ≡ p.end)) all
  pub apart : AreDistinct (map (λ (f : Found). f.least.end) found)

-- the placements of these plans, if their runs end alike
abbrev pub ending_in : Placed → List (List Injection) → List Placed
ending_in p plans = map (λ plan. record p { injections = plan }) plans

-- The tally after this many more plans that end alike; this is the least of them.
abbrev pub TalliesMore : (old new : List Found) → (count : ℕ) → (least : Placed) → Type 0
TalliesMore old new count least = (all : List Placed) (plans : List (List Injection)) → IsTally all old → count ≡ length plans
    → Contains plans least.injections → AllByRecursion (λ plan. is_less plan least.injections ≡ false) plans
    → IsTally (all ++ ending_in least plans) new

-- This is found among all placements, in any order. There are fewer than the code's numbers.
pub record AreTallied (app : Application) (limits : Limits) (handlers : List ℕ) (most : ℕ) (found : List Found) : Type 0 where
  pub all : List Placed
  pub are_all : AreAll app limits handlers most all
  pub tally : IsTally all found
  pub few : length all < 2 ^ 128
