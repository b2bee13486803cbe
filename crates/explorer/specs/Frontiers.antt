-- How far the runs have come, and the placements to which they go on.
use Rattle.std.specs.Prelude.{◌≡◌, ◌⊎◌, ◌<◌, ◌≤◌, ◌+◌, ◌-◌, ◌^◌, ℕ, zero, suc, List, [], ◌++◌, Option, Some, None, length}
use Rattle.std.specs.List.{AllByRecursion, flat_map}
use Rattle.model.specs.declared.plan.Injection.{Injection}
use Rattle.model.specs.Application.{Application, Limits}
use Rattle.model.specs.Run.{end_of, state_after}
use Rattle.model.specs.Placements.{Found, Placed, ended, extensions, placed_at, unless_ended}
use Rattle.machine.specs.declared.machine.Machine.{Machine}
use Rattle.machine.specs.Can.{IsUnderWay}
use Rattle.kernel.specs.declared.rests.RestEnding.{RestEnding}
use Rattle.kernel.specs.Leads.{IsEnd, IsPast}
use Rattle.explorer.specs.declared.frontier.Frontier.{Frontier}
use Rattle.explorer.specs.declared.layer.Node.{Node}
use Rattle.explorer.specs.Layers.{AreAt, AreOf, Carries, count_of, followed}
use Rattle.explorer.specs.Reordered.{IsReordered}
use Rattle.explorer.specs.Tallies.{IsTally}
use Rattle.explorer.specs.Totals.{placements_in}

abbrev pub Plans : Type 0
Plans = List (List Injection)

-- ---- what plans go on to

-- the placements to which a plan goes on, if its run is before step n and has so many steps at most
abbrev pub placed_from : Application → Limits → (handlers : List ℕ) → (most fuel n : ℕ) → List Injection → List Placed
placed_from app limits handlers most zero n plan = []
placed_from app limits handlers most (suc fuel) n plan =
    placed_at plan n (state_after app limits plan n) (end_of app limits (state_after app limits plan n))
    ++ flat_map (placed_from app limits handlers most fuel (suc n))
    (unless_ended (end_of app limits (state_after app limits plan n)) (extensions app limits handlers most n plan))

-- the same of all these plans, up to the limit of steps
abbrev pub rests_of : Application → Limits → (handlers : List ℕ) → (levels n : ℕ) → Plans → List Placed
rests_of app limits handlers levels n plans =
    flat_map (placed_from app limits handlers (levels - 1) (limits.steps + 1 - n) n) plans

-- all placements
abbrev pub everything : Application → Limits → (handlers : List ℕ) → (levels : ℕ) → List Placed
everything app limits handlers levels = ended app limits handlers (levels - 1) (limits.steps + 1)

-- ---- where they are

-- These are all placements to which the runs go on, and those that are found: the live kernels are before step n, and those without
-- an injection left before step `until`.
pub record Holds (app : Application) (limits : Limits) (handlers : List ℕ) (levels n until : ℕ) (f : Frontier) (total : List Placed)
    : Type 0 where
  pub plans : Plans
  pub full : Plans
  pub all : List Placed
  pub live : Carries app limits n f.live.nodes.items plans
  pub few : AllByRecursion (λ plan. length plan ≤ levels - 1) plans
  pub spent : Carries app limits until f.spent.nodes.items full
  pub none_left : AllByRecursion (λ plan. levels - 1 ≤ length plan) full
  pub tally : IsTally all f.findings.items
  pub same : IsReordered total (all ++ (rests_of app limits handlers levels n plans ++ rests_of app limits handlers levels until
      full))

-- how many plans and placements there are together
abbrev pub number_in : Frontier → ℕ
number_in f = count_of f.live.nodes.items + count_of f.spent.nodes.items + placements_in f.findings.items

-- ---- how they go on

-- Each run at the old kernel into which nothing is injected any more has gone on to the new one, and is at its end there, if there
-- is one,
-- otherwise before this step.
pub record GoesFar (app : Application) (limits : Limits) (until : ℕ) (old new : Machine) (ending : Option RestEnding) : Type 0 where
  pub on : old.steps ≤ new.steps
  pub far : new.steps ≤ until
  pub way : (plan : List Injection) → IsPast app limits old plan → IsUnderWay app plan limits new
  pub there : ending ≡ None → new.steps ≡ until
  pub end : (e : RestEnding) → ending ≡ Some e → IsEnd app limits new e

-- What comes of these plans, which are before step n: they are kept before step `until`, or found.
pub record Settled (app : Application) (limits : Limits) (n until : ℕ) (more : Plans)
    (old new : List Node) (old_found new_found : List Found) (plans : Plans) (all : List Placed) : Type 0 where
  pub kept : Plans
  pub placed : List Placed
  pub carries : Carries app limits until new (plans ++ kept)
  pub tally : IsTally (all ++ placed) new_found
  pub are : (kept ≡ []) ⊎ (kept ≡ more)
  pub rest : (handlers : List ℕ) (levels : ℕ) → (until ≡ n) ⊎ AllByRecursion (λ plan. levels - 1 ≤ length plan) more
      → rests_of app limits handlers levels n more ≡ placed ++ rests_of app limits handlers levels until kept

abbrev pub Settles : Application → Limits → (until : ℕ) → Machine → (count : ℕ) → (least : List Injection)
    → (old new : List Node) → (old_found new_found : List Found) → Type 0
Settles app limits until k count least old new old_found new_found = (plans more : Plans) (all : List Placed)
    → AreAt app limits k.steps k count least more → Carries app limits until old plans → IsTally all old_found
    → Settled app limits k.steps until more old new old_found new_found plans all

-- Plans at this kernel are added to the others.
abbrev pub Takes : Application → Limits → (levels until : ℕ) → Machine → (count : ℕ) → (least : List Injection) →
    (old new : Frontier) → Type 0
Takes app limits levels until k count least old new = (handlers : List ℕ) (more : Plans) (total : List Placed)
    → AreAt app limits k.steps k count least more → Holds app limits handlers levels k.steps until old total
    → Holds app limits handlers levels k.steps until new (total ++ rests_of app limits handlers levels k.steps more)

-- The plans at this kernel, followed by each of these choices that can come there, are added too.
abbrev pub TakesBy : Application → Limits → (levels until : ℕ) → Machine → (count : ℕ) → (least : List Injection)
    → (nows : List (List ℕ)) → (old new : Frontier) → Type 0
TakesBy app limits levels until k count least nows old new = (handlers : List ℕ) (n : ℕ) (more : Plans) (total : List Placed)
    → AreAt app limits n k count least more → Holds app limits handlers levels (n + 1) until old total
    → Holds app limits handlers levels (n + 1) until new (total ++ rests_of app limits handlers levels (n + 1)
    (flat_map (followed app limits n more) nows))

-- The node's plans are done with: they have ended, and are found, or they go on.
abbrev pub PassesAt : Application → Limits → (handlers : List ℕ) → (levels m n until : ℕ) → Node → (old new : Frontier) → Type 0
PassesAt app limits handlers levels m n until node old new = (more : Plans) (total : List Placed)
    → AreOf app limits m node more → Holds app limits handlers levels n until old total
    → Holds app limits handlers levels n until new (total ++ rests_of app limits handlers levels m more)

abbrev pub Passes : Application → Limits → (handlers : List ℕ) → (levels until : ℕ) → Node → (old new : Frontier) → Type 0
Passes app limits handlers levels until node old new = (n : ℕ) → PassesAt app limits handlers levels n (n + 1) until node old new

-- the same of plans that have no injection left
abbrev pub PassesSpent : Application → Limits → (until : ℕ) → Node → (old new : Frontier) → Type 0
PassesSpent app limits until node old new = (handlers : List ℕ) (levels m n : ℕ) (more : Plans) (total : List Placed)
    → AllByRecursion (λ plan. levels - 1 ≤ length plan) more
    → AreOf app limits m node more → Holds app limits handlers levels n until old total
    → Holds app limits handlers levels n until new (total ++ rests_of app limits handlers levels m more)

-- ---- step by step

-- Before step n of a block: there are fewer of all plans and placements than the code's numbers have.
pub record IsReady (app : Application) (limits : Limits) (handlers : List ℕ) (levels until : ℕ) (f : Frontier) : Type 0 where
  pub n : ℕ
  pub holds : Holds app limits handlers levels n until f (everything app limits handlers levels)
  pub some : 0 < levels
  pub ahead : n < until
  pub few : length handlers ≤ 17
  pub short : limits.steps ≤ 1000000

abbrev pub IsAdvanced : Application → Limits → (handlers : List ℕ) → (levels until : ℕ) → (old new : Frontier) → Type 0
IsAdvanced app limits handlers levels until old new = (n : ℕ) → Holds app limits handlers levels n until old (everything app limits
    handlers levels)
    → Holds app limits handlers levels (n + 1) until new (everything app limits handlers levels)

-- The spent kernels are at the end of a block. There are fewer of all plans and placements than the code's numbers have.
pub record IsAtBlockEnd (app : Application) (limits : Limits) (end : ℕ) (f : Frontier) : Type 0 where
  pub handlers : List ℕ
  pub levels : ℕ
  pub n : ℕ
  pub total : List Placed
  pub holds : Holds app limits handlers levels n end f total
  pub few : length total < 2 ^ 128

-- They have gone on to the end of the next one.
abbrev pub IsThrough : Application → Limits → (end until : ℕ) → (old new : Frontier) → Type 0
IsThrough app limits end until old new = (handlers : List ℕ) (levels n : ℕ) (total : List Placed)
    → Holds app limits handlers levels n end old total → Holds app limits handlers levels n until new total
