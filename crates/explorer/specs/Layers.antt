-- Which plans reach which kernels before a step.
use Rattle.std.specs.Prelude.{◌≡◌, ◌<◌, ◌-◌, ℕ, false, List, ◌++◌, None, Contains, filter, length, map, sum_by}
use Rattle.std.specs.List.{AllByRecursion, AllZip, flat_map}
use Rattle.model.specs.declared.plan.Injection.{Injection}
use Rattle.model.specs.Application.{Application, Limits}
use Rattle.model.specs.Run.{end_of, state_after}
use Rattle.model.specs.Placements.{before_this, can_all_come, choices, is_less}
use Rattle.machine.specs.declared.machine.Machine.{Machine}
use Rattle.machine.specs.Can.{IsUnderWay}
use Rattle.explorer.specs.declared.layer.Node.{Node}
use Rattle.explorer.specs.Reordered.{IsReordered}

-- The runs of these plans, this many, are at this kernel before step n. This one is the least of them, and they have as many
-- injections.
pub record AreAt (app : Application) (limits : Limits) (n : ℕ) (k : Machine) (count : ℕ) (least : List Injection)
    (plans : List (List Injection)) : Type 0 where
  pub way : AllByRecursion (λ plan. IsUnderWay app plan limits k) plans
  pub below : AllByRecursion (λ plan. AllByRecursion (λ (i : Injection). i.step < n) plan) plans
  pub here : k.steps ≡ n
  pub number : count ≡ length plans
  pub among : Contains plans least
  pub none_less : AllByRecursion (λ plan. is_less plan least ≡ false) plans
  pub long : AllByRecursion (λ plan. length plan ≡ length least) plans

-- the same of the kernel that a node has
abbrev pub AreOf : Application → Limits → ℕ → Node → List (List Injection) → Type 0
AreOf app limits n node plans = AreAt app limits n node.kernel.value node.count node.least plans

-- Each of these plans is of one of the nodes.
pub record Carries (app : Application) (limits : Limits) (n : ℕ) (nodes : List Node) (plans : List (List Injection)) : Type 0 where
  pub groups : List (List (List Injection))
  pub each : AllZip (AreOf app limits n) nodes groups
  pub all : IsReordered plans (flat_map (λ group. group) groups)

-- how many plans the nodes have together
abbrev pub count_of : List Node → ℕ
count_of nodes = sum_by (λ (node : Node). node.count) nodes

-- The new nodes have those of the old ones, and these.
abbrev pub Gains : (old new : List Node) → Machine → (count : ℕ) → (least : List Injection) → Type 0
Gains old new k count least = (app : Application) (limits : Limits) (n : ℕ) (plans more : List (List Injection))
    → Carries app limits n old plans → AreAt app limits n k count least more → Carries app limits n new (plans ++ more)

-- The run goes on from this kernel, along some plan, and along each that is at it.
pub record GoesOn (app : Application) (limits : Limits) (k : Machine) : Type 0 where
  pub plan : List Injection
  pub way : IsUnderWay app plan limits k
  pub going : (other : List Injection) → IsUnderWay app other limits k
      → end_of app limits (state_after app limits other k.steps) ≡ None

-- these plans, each followed by these handlers
abbrev pub each_followed : ℕ → List (List Injection) → List ℕ → List (List Injection)
each_followed n plans now = map (λ plan. plan ++ before_this n now) plans

-- those of them in whose runs the handlers can come there
abbrev pub able : Application → Limits → ℕ → List ℕ → List (List Injection) → List (List Injection)
able app limits n now plans = filter (λ plan. can_all_come app now (state_after app limits plan n)) plans

abbrev pub followed : Application → Limits → ℕ → List (List Injection) → List ℕ → List (List Injection)
followed app limits n plans now = each_followed n (able app limits n now plans) now

-- The run with these injections is under way at this kernel, and all of them come before.
pub record HasWay (app : Application) (limits : Limits) (k : Machine) (injections : List Injection) : Type 0 where
  pub way : IsUnderWay app injections limits k
  pub below : AllByRecursion (λ (i : Injection). i.step < k.steps) injections

-- the choices that these injections have left, of fewer than this many
abbrev pub nows_of : (handlers : List ℕ) → (levels : ℕ) → List Injection → List (List ℕ)
nows_of handlers levels plan = choices handlers (levels - 1 - length plan)
