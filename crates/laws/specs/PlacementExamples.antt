-- Worked examples of placements: all placements of an application of two steps, and of one with one step.
use Rattle.model.specs.declared.value.Value.TheVariants.{Number}
use Rattle.std.specs.Prelude.{◌≡◌, ℕ, ⊤, true, List, [], ◌∷◌, codes, length, map}
use Rattle.std.specs.List.{AllByRecursion}
use Rattle.model.specs.declared.op.Op.{Op}
use Rattle.model.specs.declared.op.Op.TheVariants.{Mark}
use Rattle.model.specs.declared.plan.Injection.{Injection}
use Rattle.model.specs.Application.{Application, Handler}
use Rattle.model.specs.Placements.{AreAll, Placed, is_less}
use Rattle.laws.specs.HandlerExamples.{a_handler}
use Rattle.laws.specs.Examples.{a_task, the_application, wide}

-- a handler that does nothing
abbrev does_nothing : Handler
does_nothing = a_handler (codes "h") []

-- an application of one task with this script, and two handlers
abbrev pub with_script : List Op → Application
with_script script = record (the_application 0 (a_task (codes "a") script ∷ [])) { handlers = does_nothing ∷ does_nothing ∷ [] }

-- an application whose run has two steps
abbrev pub two_steps : Application
two_steps = with_script (Mark (Number 1) ∷ Mark (Number 2) ∷ [])

abbrev pub one_step : Application
one_step = with_script (Mark (Number 1) ∷ [])

-- With at most this many injections of these handlers, the application has this number of placements.
pub record HasPlacements (app : Application) (handlers : List ℕ) (most number : ℕ) : Type 0 where
  pub all : List Placed
  pub are_all : AreAll app wide handlers most all
  pub number_is : length all ≡ number

-- the handlers of a placement's injections
abbrev pub handlers_of : Placed → List ℕ
handlers_of p = map (λ (i : Injection). i.handler) p.injections

-- Listed in some order, its placements have exactly these lists of handlers.
pub record HasPlacementsOf (app : Application) (handlers : List ℕ) (most : ℕ) (of : List (List ℕ)) : Type 0 where
  pub all : List Placed
  pub are_all : AreAll app wide handlers most all
  pub handlers_are : map handlers_of all ≡ of

-- an injection of this handler before this step
abbrev at : ℕ → ℕ → Injection
at step handler = record { step = step; handler = handler }

-- placements in their order: fewer injections first, then the earlier step, then the handler that is earlier in the file
abbrev pub rising : List (List Injection)
rising =
    []
    ∷ (at 4 1 ∷ [])
    ∷ (at 5 0 ∷ [])
    ∷ (at 5 1 ∷ [])
    ∷ (at 3 0 ∷ at 9 0 ∷ [])
    ∷ (at 3 1 ∷ at 3 0 ∷ [])
    ∷ (at 3 1 ∷ at 4 0 ∷ [])
    ∷ (at 0 0 ∷ at 0 0 ∷ at 0 0 ∷ [])
    ∷ []

-- Each is less than all after it.
abbrev pub AreEachLess : List (List Injection) → Type 0
AreEachLess [] = ⊤
AreEachLess (is ∷ more) = AllByRecursion (λ js. is_less is js ≡ true) more × AreEachLess more
