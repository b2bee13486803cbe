-- How rows go on from a kernel that they have come to.
use Rattle.std.proofs.Common.{◌≡◌, ◌≤◌, ◌<◌, ℕ, false, Some, List, [], ◌∷◌, ◌++◌, drop, length, length-append, refl, sym, ap}
use Rattle.std.proofs.Common.{subst, suc, zero, get_or, ◌∙◌, append-nil, arith}
use Rattle.std.specs.List.{AllByRecursion}
use Rattle.std.proofs.lemmas.List.{drop-append-le}
use Rattle.std.proofs.Math.Seq.{drop-length}
use Rattle.model.specs.declared.event.Event.{Event}
use Rattle.model.specs.declared.event.End.{End}
use Rattle.model.specs.declared.plan.Injection.{Injection}
use Rattle.model.specs.Points.{IsPoint, last_step}
use Rattle.model.specs.Application.{Application, Limits}
use Rattle.model.specs.State.{State}
use Rattle.model.specs.Run.{Run, end_of, events_after, injected, state_after}
use Rattle.model.proofs.Injected.{none_past}
use Rattle.machine.specs.declared.machine.Machine.{Machine}
use Rattle.machine.specs.StandsFor.{Stands}
use Rattle.machine.specs.Can.{IsUnderWay}
use Rattle.report.specs.Views.{shows_events}
use Rattle.report.specs.declared.view.View.{View}
use Rattle.kernel.specs.Leads.{IsLed}
use Rattle.kernel.specs.Rests.{IsRest}
use Rattle.kernel.proofs.Alike.{rest_alike}
use Rattle.kernel.proofs.Leading.{leads_here, leads_then, rest_before}
use Rattle.deal.specs.Tallies.{Tallied}
use Rattle.campaign.specs.declared.meeting.ahead.Ahead.{Ahead}
use Rattle.rows.specs.declared.link.Link.{Link}
use Rattle.rows.specs.declared.link.Link.TheVariants as links
use Rattle.campaign.specs.declared.meeting.visited_state.VisitedState.{VisitedState}
use Rattle.campaign.specs.declared.meeting.visited_state.Passed.{Passed}
use Rattle.rows.specs.declared.rows.KeptRow.{KeptRow}
use Rattle.rows.specs.Links.{Store, AreLegs, Grows, LinksTo}
use Rattle.campaign.specs.Visited.{rest_from, AreBehind, AreVisited, ArePut, IsBehind, IsPutAt, IsRestAt, Knows}
use Rattle.campaign.specs.Working.{GainsRows, IsPassed, IsRestIn, IsRestOf}
use Rattle.campaign.proofs.Keeping.{known_more}
use Rattle.rows.proofs.Linked.{closed_links_to, still_links_to, links_to_nothing}

-- behind the last injection nothing is injected
pub none_from : (point : List Injection) → IsPoint point → (k : Machine)
    → last_step point < k.steps → (n : ℕ) → k.steps ≤ n → injected point n ≡ []
none_from point formed k l n from = none_past point formed.in_order n (omega arith)

pub all_more : {X : Type 0} (P : X → Type 0) (xs : List X) (x : X) → AllByRecursion P xs → P x → AllByRecursion P (xs ++ x ∷ [])
all_more P [] x all is = (is, tt)
all_more P (y ∷ xs) x all is = (all.0, all_more P xs x all.1 is)

-- What holds of each visited state holds of the one at a place.
pub at_place : {X : Type 0} (P : X → Type 0) (xs : List X) (place : ℕ) (d : X) → AllByRecursion P xs → place < length xs
    → P (get_or xs place d)
at_place P [] place d all below = absurd (omega arith)
at_place P (x ∷ xs) zero d all below = all.0
at_place P (x ∷ xs) (suc place) d all below = at_place P xs place d all.1 (omega arith)

-- A row that reaches a kernel which a visited state is found to be goes on as that state says.
pub rest_found : (visited : List VisitedState) (place : ℕ) (v : VisitedState) (k : Machine)
    → place < length visited → v ≡ get_or visited place v → k.steps ≡ v.kernel.value.steps
    → ((s : State) → Stands k s → Stands v.kernel.value s) → IsRestAt visited k v.rest
rest_found visited place v k below found steps alike app limits view base store are_visited =
    let there : IsRestIn app limits view base store v.kernel.value v.rest =
    subst (λ (x : VisitedState). IsRestIn app limits view base store x.kernel.value x.rest) (sym found)
    (at_place (λ (x : VisitedState). IsRestIn app limits view base store x.kernel.value x.rest)
    visited place v are_visited below) in
    record {
      events = there.events;
      linked = there.linked;
      is_rest = rest_alike app limits k v.kernel.value _ steps alike there.is_rest;
    }

-- ---- kernels on the way

module _ (app : Application) (limits : Limits) where
  -- a kernel is behind itself, before anything more is reported
  pub behind_here : (trail : List Event) (p : Passed) → p.from ≡ length trail → IsBehind app limits trail p.kernel.value p
  behind_here trail p at =
      let none : drop p.from trail ≡ [] = ap (λ (n : ℕ). drop n trail) at ∙ drop-length trail in
      record { within = omega arith; leads = rw none (leads_here app limits p.kernel.value) }

  -- those that are behind stay so, when the row goes on
  pub behind_on : (trail after : List Event) (old new : Machine) → IsLed app limits old new trail after
      → (ps : List Passed) → AreBehind app limits trail old ps → AreBehind app limits after new ps
  behind_on trail after old new led [] all = tt
  behind_on trail after old new led (p ∷ ps) all =
      let within = all.0.within in
      let more : drop p.from after ≡ drop p.from trail ++ led.own = rw led.kept (drop-append-le p.from trail led.own within) in (
        record {
          within = rw led.kept (omega (arith, length-append trail led.own));
          leads = rw more (leads_then app limits p.kernel.value old new (drop p.from trail) led.own all.0.leads led.leads);
        },
        behind_on trail after old new led ps all.1,
      )

module _ (app : Application) (limits : Limits) (view : View) (base : Run) where
  -- ---- visited states

  -- they stay right when the store becomes more
  pub still_visited : (store new : Store) → AreLegs base.events store → Grows store new → (visited : List VisitedState)
      → AreVisited app limits view base store visited → AreVisited app limits view base new visited
  still_visited store new legs grown [] are = tt
  still_visited store new legs grown (v ∷ visited) are = (
    record {
      events = are.0.events;
      linked = λ shown. still_links_to base.events store legs new grown v.rest.link are.0.events (are.0.linked shown);
      is_rest = are.0.is_rest;
    },
    still_visited store new legs grown visited are.1,
  )

  -- what is known stays known, and so is what was gained
  pub knows_more : (points : List (List Injection)) (a b : List KeptRow) (t u : Store) (x y : Tallied)
      (visited visited' : List VisitedState)
      → Knows app limits view base a t visited
      → GainsRows app limits view base points a b t u x y
      → AreVisited app limits view base u visited' → Knows app limits view base b u visited'
  knows_more points a b t u x y visited visited' knows gains are = record {
    rows = known_more app limits view base points a b t u x y knows.legs knows.rows gains;
    legs = gains.legs;
    are_visited = are;
  }

  -- ---- a row on its way

  -- how a run goes on from this kernel behind the end of the base run: no more
  pub rest_over : (store : Store) (k : Machine) (link : Link) (steps ticks : ℕ) (end : End) → link ≡ links.Base (length base.events)
      → IsRest app limits k (record { events = []; steps = steps; ticks = ticks; end = end })
      → IsRestIn app limits view base store k (record { link = link; steps = steps; ticks = ticks; end = end })
  rest_over store k link steps ticks end to is = record {
    events = [];
    linked = λ shown.
        subst (λ (l : Link). LinksTo base.events store l []) (sym to)
        (links_to_nothing base.events store (length base.events) refl);
    is_rest = is;
  }

  -- how one goes on that the base run's kernel was: as that does
  pub rest_of_base : (store : Store) (k : Machine) (from : ℕ) → from ≤ length base.events
      → IsRest app limits k (record base { events = drop from base.events })
      → IsRestIn app limits view base store k
      (record { link = links.Base from; steps = base.steps; ticks = base.ticks; end = base.end })
  rest_of_base store k from within is = record {
    events = drop from base.events;
    linked = λ shown. record { there = within; are = refl };
    is_rest = is;
  }

  module _ (point : List Injection) (k : Machine) (way : IsUnderWay app point limits k) where
    -- the row of a point that has come to the kernel, behind its last injection,
    -- goes on to another one, and from there as each does
    pub led_rest : (old new : Store) (now : Machine) (rest : Ahead) → IsPoint point
        → last_step point < k.steps → IsLed app limits k now old.trail new.trail
        → IsRestIn app limits view base new now rest → IsRestOf app limits view base old new point k rest
    led_rest old new now rest formed l led is =
        let ahead : Run = record { events = is.events; steps = rest.steps; ticks = rest.ticks; end = rest.end } in
        record {
          own = led.own;
          trail = led.kept;
          events = is.events;
          linked = is.linked;
          is_row = (rest_before app limits k now led.own ahead led.leads is.is_rest).of_each point way (none_from point formed k l);
        }

    -- one that has come to its end reports no more
    pub ended_rest : (store : Store) (link : Link) (steps ticks : ℕ) (end : End)
        → end_of app limits (state_after app limits point k.steps) ≡ Some end → link ≡ links.Base (length base.events)
        → steps ≡ k.steps → ticks ≡ (state_after app limits point k.steps).elapsed
        → IsRestOf app limits view base store store point k (record { link = link; steps = steps; ticks = ticks; end = end })
    ended_rest store link steps ticks end ends to same t = record {
      own = [];
      trail = sym (append-nil store.trail);
      events = [];
      linked = λ shown.
          subst (λ (l : Link). LinksTo base.events store l []) (sym to)
          (links_to_nothing base.events store (length base.events) refl);
      is_row = rw same (record {
        goes_on = way.goes_on;
        ends = ends;
        trace = append-nil (events_after app limits point k.steps);
        elapsed = t;
      });
    }

  -- each that comes to a kernel behind goes on by the trail from there on, and then so
  pub all_passed : (store : Store) (now : Machine) (rest : Ahead) → IsRestIn app limits view base store now rest
      → (ps : List Passed) → AreBehind app limits store.trail now ps
      → AllByRecursion (IsPassed app limits view base store rest) ps
  all_passed store now rest is [] all = tt
  all_passed store now rest is (p ∷ ps) all =
      let ahead : Run = record { events = is.events; steps = rest.steps; ticks = rest.ticks; end = rest.end } in (
        record {
          within = all.0.within;
          events = is.events;
          linked = is.linked;
          is_rest = rest_before app limits p.kernel.value now (drop p.from store.trail) ahead all.0.leads is.is_rest;
        },
        all_passed store now rest is ps all.1,
      )

  -- ---- a row that is over

  -- From each kernel that it passed its events follow a link to its leg.
  pub all_closed : (over new : Store) (rest : Ahead) → AreLegs base.events over → new.trail ≡ over.trail
      → new.legs ≡ over.legs ++ record { to = length over.trail; next = rest.link } ∷ []
      → (ps : List Passed) → AllByRecursion (IsPassed app limits view base over rest) ps
      → AllByRecursion (λ (p : Passed). IsRestIn app limits view base new p.kernel.value (rest_from (length over.legs) rest p)) ps
  all_closed over new rest legs trail pushed [] all = tt
  all_closed over new rest legs trail pushed (p ∷ ps) all =
      let is = all.0 in (
        record {
          events = drop p.from over.trail ++ is.events;
          linked = λ shown.
              closed_links_to base.events over new legs (record { to = length over.trail; next = rest.link })
              trail pushed refl is.events (is.linked shown) p.from is.within;
          is_rest = is.is_rest;
        },
        all_closed over new rest legs trail pushed ps all.1,
      )

  -- if its events are not shown, nothing need follow the link
  pub all_bare : (over new : Store) (number : ℕ) (rest : Ahead) → shows_events view rest.end ≡ false
      → (ps : List Passed) → AllByRecursion (IsPassed app limits view base over rest) ps
      → AllByRecursion (λ (p : Passed). IsRestIn app limits view base new p.kernel.value (rest_from number rest p)) ps
  all_bare over new number rest hidden [] all = tt
  all_bare over new number rest hidden (p ∷ ps) all =
      let is = all.0 in (
        record {
          events = drop p.from over.trail ++ is.events;
          linked = λ shown. absurd (cc (shown, hidden));
          is_rest = is.is_rest;
        },
        all_bare over new number rest hidden ps all.1,
      )

-- ---- visited states are put, one after another

-- If the visited states are right, and each row that reaches one of the kernels that were passed goes on so, the same holds of
-- what is left of them and the visited states that there are then.
pub record LeavesRight (number : ℕ) (rest : Ahead) (passed : List Passed)
    (visited : List VisitedState) (left : List Passed) (more : List VisitedState) : Type 0 where
  pub are_put : ArePut number rest passed visited more
  pub still : (app : Application) (limits : Limits) (view : View) (base : Run) (store : Store)
      → AllByRecursion (λ (p : Passed). IsRestIn app limits view base store p.kernel.value (rest_from number rest p)) passed
      → AllByRecursion (λ (p : Passed). IsRestIn app limits view base store p.kernel.value (rest_from number rest p)) left

all_last : {X : Type 0} (P : X → Type 0) (xs : List X) (x : X) → AllByRecursion P (xs ++ x ∷ []) → AllByRecursion P xs × P x
all_last P [] x all = (tt, all.0)
all_last P (y ∷ xs) x all = let more = all_last P xs x all.1 in ((all.0, more.0), more.1)

module _ (number : ℕ) (rest : Ahead) (passed : List Passed) (visited : List VisitedState) where
  pub right_here : LeavesRight number rest passed visited passed visited
  right_here = record { are_put = λ app limits view base store are all. are; still = λ app limits view base store all. all }

  -- the last one that was passed becomes a visited state
  pub right_then : (left : List Passed) (before : List VisitedState) (p : Passed) (step : ℕ)
      (fewer : List Passed) (more : List VisitedState)
      → LeavesRight number rest passed visited left before → left ≡ fewer ++ p ∷ []
      → IsPutAt before more (record { kernel = p.kernel; hint = p.hint; step = step; rest = rest_from number rest p })
      → LeavesRight number rest passed visited fewer more
  right_then left before p step fewer more right is put = record {
    are_put = λ app limits view base store are all.
        let its =
        all_last (λ (q : Passed). IsRestIn app limits view base store q.kernel.value (rest_from number rest q))
        fewer p (rw is at (right.still app limits view base store all)) in
        put app limits view base store (right.are_put app limits view base store are all) its.1;
    still = λ app limits view base store all.
        (all_last (λ (q : Passed). IsRestIn app limits view base store q.kernel.value (rest_from number rest q))
        fewer p (rw is at (right.still app limits view base store all))).0;
  }
