-- Visited states: kernels that rows have reached, and how each row that reaches them goes on.
use Rattle.std.specs.Prelude.{ℕ, ◌≤◌, List, length, drop}
use Rattle.std.specs.List.{AllByRecursion}
use Rattle.machine.specs.declared.machine.Machine.{Machine}
use Rattle.kernel.specs.Leads.{LeadsTo}
use Rattle.model.specs.declared.event.Event.{Event}
use Rattle.model.specs.Application.{Application, Limits}
use Rattle.model.specs.Run.{Run}
use Rattle.report.specs.declared.view.View.{View}
use Rattle.campaign.specs.declared.meeting.ahead.Ahead.{Ahead}
use Rattle.rows.specs.declared.link.Link.TheVariants as links
use Rattle.campaign.specs.declared.meeting.visited_state.VisitedState.{VisitedState}
use Rattle.campaign.specs.declared.meeting.visited_state.Passed.{Passed}
use Rattle.rows.specs.declared.rows.KeptRow.{KeptRow}
use Rattle.rows.specs.Links.{Store, AreLegs}
use Rattle.campaign.specs.Working.{AreKnown, IsRestIn}

-- ---- visited states

-- Each of them has the rest of each row that reaches its kernel.
abbrev pub AreVisited : Application → Limits → View → Run → Store → List VisitedState → Type 0
AreVisited app limits view base store visited =
    AllByRecursion (λ (v : VisitedState). IsRestIn app limits view base store v.kernel.value v.rest) visited

-- If the visited states are right, this rest of the kernel is right too.
abbrev pub IsRestAt : List VisitedState → Machine → Ahead → Type 0
IsRestAt visited k rest = (app : Application) (limits : Limits) (view : View) (base : Run) (store : Store)
    → AreVisited app limits view base store visited → IsRestIn app limits view base store k rest

-- If the old visited states and this one are right, the new ones are right too.
abbrev pub IsPutAt : (old new : List VisitedState) → VisitedState → Type 0
IsPutAt old new state = (app : Application) (limits : Limits) (view : View) (base : Run) (store : Store)
    → AreVisited app limits view base store old → IsRestIn app limits view base store state.kernel.value state.rest
    → AreVisited app limits view base store new

-- If the visited states are right, each row that reaches the kernel goes on in this way.
abbrev pub IsAhead : Application → Limits → Run → List VisitedState → Machine → Ahead → Type 0
IsAhead app limits base visited k rest = (view : View) (store : Store)
    → AreVisited app limits view base store visited → IsRestIn app limits view base store k rest

-- ---- kernels on the way

-- Each run that has reached the kernel that was passed reaches the present one, and reports what the trail has from there on.
pub record IsBehind (app : Application) (limits : Limits) (trail : List Event) (now : Machine) (passed : Passed) : Type 0 where
  pub within : passed.from ≤ length trail
  pub leads : LeadsTo app limits passed.kernel.value now (drop passed.from trail)

abbrev pub AreBehind : Application → Limits → (trail : List Event) → (now : Machine) → List Passed → Type 0
AreBehind app limits trail now passed = AllByRecursion (IsBehind app limits trail now) passed

-- If each of the old ones is after the kernel, each of the new ones is too.
abbrev pub IsNoted : (trail : List Event) → (now : Machine) → (old new : List Passed) → Type 0
IsNoted trail now old new =
    (app : Application) (limits : Limits) → AreBehind app limits trail now old → AreBehind app limits trail now new

-- how each row that reaches the kernel that was passed goes on, if that is by the leg of this number and then in this way
abbrev pub rest_from : (number : ℕ) → Ahead → Passed → Ahead
rest_from number rest passed = record rest { link = links.Leg number passed.from }

-- If the old visited states are right, and each row that reaches one of the kernels that were passed goes on in this way, the new
-- ones are right.
abbrev pub ArePut : (number : ℕ) → Ahead → List Passed → (old new : List VisitedState) → Type 0
ArePut number rest passed old new = (app : Application) (limits : Limits) (view : View) (base : Run) (store : Store)
    → AreVisited app limits view base store old
    → AllByRecursion (λ (p : Passed). IsRestIn app limits view base store p.kernel.value (rest_from number rest p)) passed
    → AreVisited app limits view base store new

-- What a worker knows: of each of its rows that it is that of its point, that its legs go on as those before them, and of its
-- visited states that they are right.
pub record Knows (app : Application) (limits : Limits) (view : View) (base : Run)
    (kept : List KeptRow) (store : Store) (visited : List VisitedState) : Type 0 where
  pub rows : AreKnown app limits view base kept store
  pub legs : AreLegs base.events store
  pub are_visited : AreVisited app limits view base store visited
