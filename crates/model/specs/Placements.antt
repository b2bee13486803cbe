-- Placements: the ways in which up to so many handlers can come during a run, and what is found among all of them.
use Rattle.std.specs.Prelude.{◌≡◌, ◌≢◌, ⊤, ℕ, zero, suc, ◌+◌, ◌-◌, ◌<◌, ◌≤◌, ◌==◌, ◌&&◌, ◌||◌, Bool, true, false}
use Rattle.std.specs.Prelude.{List, [], ◌∷◌, ◌++◌, Option, Some, None, Contains, length, map, filter, nat_lt, if◌then◌else◌}
use Rattle.std.specs.List.{AllByRecursion, flat_map}
use Rattle.model.specs.declared.event.End.{End}
use Rattle.model.specs.declared.plan.Injection.{Injection}
use Rattle.model.specs.Points.{AreInOrder}
use Rattle.model.specs.Application.{Application, Limits}
use Rattle.model.specs.State.{State}
use Rattle.model.specs.Switching.{is_critical}
use Rattle.model.specs.Handlers.{can_come, inject, pend, serve_pending}
use Rattle.model.specs.Run.{Run, IsRun, end_of, injected, state_after}

-- injections, and the run with all of them
pub record Placed : Type 0 where
  pub injections : List Injection
  pub steps : ℕ
  pub ticks : ℕ
  pub end : End

-- Each of these can come in its turn, if they come so, one after another.
abbrev pub can_come_so : (ℕ → State → State) → List ℕ → State → Bool
can_come_so deed [] s = true
can_come_so deed (source ∷ sources) s = can_come s source && can_come_so deed sources (deed source s)

-- Each of these that are injected before a step can come.
abbrev pub can_come_before : Application → List ℕ → State → Bool
can_come_before app sources s =
    if is_critical s then can_come_so (pend app) sources s else can_come_so (inject app) sources (serve_pending app s)

-- the same if the step begins in this state, and so has reported nothing yet
abbrev pub can_all_come : Application → List ℕ → State → Bool
can_all_come app sources s = can_come_before app sources (record s { log = [] })

-- A placement of at most so many injections of these handlers: they are in the order of their steps, the run with all of them gets
-- to each, and each can come there.
pub record IsPlacement (app : Application) (limits : Limits) (handlers : List ℕ) (most : ℕ) (p : Placed) : Type 0 where
  pub few : length p.injections ≤ most
  pub in_order : AreInOrder p.injections
  pub named : AllByRecursion (λ (i : Injection). Contains handlers i.handler) p.injections
  pub run : Run
  pub is_run : IsRun app p.injections limits run
  pub come : AllByRecursion (λ (i : Injection). i.step < run.steps) p.injections
  pub can : (n : ℕ) → n < run.steps → can_all_come app (injected p.injections n) (state_after app limits p.injections n) ≡ true
  pub steps : p.steps ≡ run.steps
  pub ticks : p.ticks ≡ run.ticks
  pub end : p.end ≡ run.end

-- None of these is there twice.
abbrev pub AreDistinct : {X : Type 0} → List X → Type 0
AreDistinct [] = ⊤
AreDistinct (x ∷ xs) = AllByRecursion (λ y. y ≢ x) xs × AreDistinct xs

-- These are all placements, each once, in some order.
pub record AreAll (app : Application) (limits : Limits) (handlers : List ℕ) (most : ℕ) (all : List Placed) : Type 0 where
  pub each : AllByRecursion (IsPlacement app limits handlers most) all
  pub once : AreDistinct (map (λ (p : Placed). p.injections) all)
  pub whole : (p : Placed) → IsPlacement app limits handlers most p → Contains all p

-- ---- the order of placements

-- The one injection comes before the other: before an earlier step, or of the handler that is earlier in the file.
abbrev pub is_sooner : Injection → Injection → Bool
is_sooner i j = nat_lt i.step j.step || ((i.step == j.step) && nat_lt i.handler j.handler)

-- They are of one handler before one step.
abbrev pub is_same_injection : Injection → Injection → Bool
is_same_injection i j = (i.step == j.step) && (i.handler == j.handler)

-- of as many injections, by the first two that differ
abbrev pub is_below : List Injection → List Injection → Bool
is_below [] js = false
is_below (i ∷ is) [] = false
is_below (i ∷ is) (j ∷ js) = is_sooner i j || (is_same_injection i j && is_below is js)

-- The one list is less than the other: it has fewer injections, or as many, and is below it.
abbrev pub is_less : List Injection → List Injection → Bool
is_less is js = nat_lt (length is) (length js) || ((length is == length js) && is_below is js)

-- ---- what is found

-- how many of them have this end
pub data CountOf (end : End) : List Placed → ℕ → Type 0 where
  Nobody : CountOf end [] 0
  Counts : {p : Placed} → {ps : List Placed} → {n : ℕ} → p.end ≡ end → CountOf end ps n → CountOf end (p ∷ ps) (n + 1)
  Passes : {p : Placed} → {ps : List Placed} → {n : ℕ} → p.end ≢ end → CountOf end ps n → CountOf end (p ∷ ps) n

-- what is found of an end: how many placements have it, and the least of them
pub record Found : Type 0 where
  pub number : ℕ
  pub least : Placed

pub record IsFound (all : List Placed) (f : Found) : Type 0 where
  pub number : CountOf f.least.end all f.number
  pub among : Contains all f.least
  pub least : AllByRecursion (λ (p : Placed). p.end ≡ f.least.end → is_less p.injections f.least.injections ≡ false) all

-- The least placements rise.
abbrev pub AreRising : List Found → Type 0
AreRising [] = ⊤
AreRising (f ∷ fs) = AllByRecursion (λ (g : Found). is_less f.least.injections g.least.injections ≡ true) fs × AreRising fs

-- Each end that some placement has, once, in the order of their least placements.
pub record AreFound (all : List Placed) (found : List Found) : Type 0 where
  pub each : AllByRecursion (IsFound all) found
  pub whole : AllByRecursion (λ (p : Placed). (f : Found) × Contains found f × (f.least.end ≡ p.end)) all
  pub rising : AreRising found

-- What is found among all placements.
pub record IsExplored (app : Application) (limits : Limits) (handlers : List ℕ) (most : ℕ) (found : List Found) : Type 0 where
  pub all : List Placed
  pub are_all : AreAll app limits handlers most all
  pub are_found : AreFound all found

-- ---- the same by recursion over the steps, for proofs

-- each list of so many of these handlers
abbrev pub sequences : (handlers : List ℕ) → (count : ℕ) → List (List ℕ)
sequences handlers zero = [] ∷ []
sequences handlers (suc count) = flat_map (λ handler. map (λ others. handler ∷ others) (sequences handlers count)) handlers

-- each list of at most so many
abbrev pub choices : (handlers : List ℕ) → (most : ℕ) → List (List ℕ)
choices handlers zero = sequences handlers zero
choices handlers (suc most) = choices handlers most ++ sequences handlers (suc most)

-- the injections of these handlers before this step
abbrev pub before_this : (step : ℕ) → (handlers : List ℕ) → List Injection
before_this step handlers = map (λ handler. record { step = step; handler = handler }) handlers

-- those of these choices that can come before a step, from this state
abbrev pub possible : Application → State → List (List ℕ) → List (List ℕ)
possible app s all = filter (λ now. can_all_come app now s) all

-- these injections, and then each choice of as many as are left that can come before this step
abbrev pub extensions : Application → Limits → (handlers : List ℕ) → (most step : ℕ) → List Injection → List (List Injection)
extensions app limits handlers most step plan = map (λ now. plan ++ before_this step now)
    (possible app (state_after app limits plan step) (choices handlers (most - length plan)))

-- none at an end
abbrev pub unless_ended : {X : Type 0} → Option End → List X → List X
unless_ended None xs = xs
unless_ended (Some end) xs = []

-- the run that is in this state after so many steps, at its end
abbrev pub placed_at : List Injection → ℕ → State → Option End → List Placed
placed_at plan n s None = []
placed_at plan n s (Some end) = record { injections = plan; steps = n; ticks = s.elapsed; end = end } ∷ []

-- what may have been injected before this step, in runs that get so far
abbrev pub begun : Application → Limits → (handlers : List ℕ) → (most n : ℕ) → List (List Injection)
begun app limits handlers most zero = [] ∷ []
begun app limits handlers most (suc n) = flat_map
    (λ plan. unless_ended (end_of app limits (state_after app limits plan n)) (extensions app limits handlers most n plan))
    (begun app limits handlers most n)

-- the placements whose runs have fewer steps
abbrev pub ended : Application → Limits → (handlers : List ℕ) → (most n : ℕ) → List Placed
ended app limits handlers most zero = []
ended app limits handlers most (suc n) = ended app limits handlers most n ++ flat_map
    (λ plan. placed_at plan n (state_after app limits plan n) (end_of app limits (state_after app limits plan n)))
    (begun app limits handlers most n)
