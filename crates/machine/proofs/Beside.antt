-- What is kept beside the parts is another: the notifications, the interrupt sources, the variables, steps and events. No part sees
-- it.
use Rattle.std.proofs.Common.{◌≡◌, ◌<◌, ℕ, inl, inr, List, Some, None, Option, refl, subst, sym, ◌∙◌, set, length-set, arith}
use Rattle.std.specs.Prelude.{◌==◌, if◌then◌else◌}
use Rattle.std.proofs.lemmas.Bool.{cases_eq}
use Rattle.std.proofs.lemmas.List.{get_or-set_same, get_or-set_other}
use Rattle.model.proofs.Lists.{eqb-refl, eqb-apart}
use Rattle.model.specs.declared.notification.Notification.{Notification}
use Rattle.model.specs.declared.call.WaitList.{WaitList}
use Rattle.model.specs.declared.event.End.{End}
use Rattle.model.specs.declared.event.Event.{Event}
use Rattle.model.specs.declared.value.ValueOp.{ValueOp}
use Rattle.model.specs.State.{State, Source, no_notification, with_notification}
use Rattle.model.specs.Ops.{store}
use Rattle.model.specs.Values.{stored}
use Rattle.model.specs.Invariant.{IsTable}
use Rattle.objects.specs.Objects.{SameWaits}
use Rattle.objects.proofs.Kept.{stands_same}
use Rattle.objects.proofs.Awake.{at_locked_same}
use Rattle.groups.proofs.Standing as on_groups
use Rattle.groups.proofs.Kept as bits_kept
use Rattle.machine.specs.declared.machine.Machine.{Machine}
use Rattle.machine.specs.Sources.{Sources}
use Rattle.machine.specs.StandsFor.{AreNotifications, AreSources, notification_in, StandsFor, StandsBefore, Stands, At, AtAny}
use Rattle.machine.specs.StandsFor.{decider, released_ticks}
use Rattle.machine.specs.StandsFor.Stands.{Placed, Placing}
use Rattle.machine.proofs.Parts.{clock-same, same_parts, sched-same}
use Rattle.machine.proofs.Either.{sources_are, variables_are}

-- Nothing beside the parts is as it was, and a task is still to be placed.
pub before_with : (k : Machine) (s : State) (task : ℕ) (list : WaitList) → StandsBefore task list k s
    → (log : List Event) (steps n : ℕ) (stopped end : Option End) → n ≡ steps → end ≡ stopped
    → (v : Sources) (xs : List Source) → AreSources (released_ticks s) v xs → (values : List ℕ)
    → (ns : List Notification) (ms : ℕ → Notification) → AreNotifications ns ms
    → StandsBefore task list (record k { notifications = ns; variables = values; sources = v; steps = n; stopped = end })
    (record s { notifications = ms; variables = values; sources = xs; log = log; steps = steps; stopped = stopped })
before_with k s task list b log steps n stopped end same_steps same_end v xs are values ns ms noted =
    let new : State = record s {
      notifications = ms;
      variables = values;
      sources = xs;
      log = log;
      steps = steps;
      stopped = stopped;
    } in
    let table : IsTable new =
    record {
      tickets = b.sched.table.tickets;
      few = b.sched.table.few;
      current = b.sched.table.current;
      holders = b.sched.table.holders;
    } in
    let same : SameWaits s new = same_parts s new refl refl refl in
    record {
      sched =
          record {
            ready = b.sched.ready;
            still = b.sched.still;
            current = b.sched.current;
            priorities = b.sched.priorities;
            base_priorities = b.sched.base_priorities;
            depth = b.sched.depth;
            suspensions = b.sched.suspensions;
            suspended = b.sched.suspended;
            table = table;
          };
      clock =
          record {
            now = b.clock.now;
            age = b.clock.age;
            held = b.clock.held;
            sorted = b.clock.sorted;
            once = b.clock.once;
            delayed = b.clock.delayed;
            awake = b.clock.awake;
            table = table;
          };
      objects = stands_same s new same k.objects (Some (decider task list s)) b.objects table;
      groups = on_groups.stands_same k.groups s new b.groups (bits_kept.same_parts s new refl refl) table;
      awake = at_locked_same (Some (decider task list s)) s new same b.awake;
      progress = b.progress;
      full = b.full;
      notifications = noted;
      variables = refl;
      sources = are;
      sections = b.sections;
      steps = same_steps;
      stopped = same_end;
      current = b.current;
      held = b.held;
      phase = b.phase;
      wait_list = b.wait_list;
      placed = b.placed;
    }

placed_with : (k : Machine) (s : State) → StandsFor k s → (v : Sources) (xs : List Source)
    → AreSources (released_ticks s) v xs → (values : List ℕ)
    → (ns : List Notification) (ms : ℕ → Notification) → AreNotifications ns ms
    → StandsFor (record k { notifications = ns; variables = values; sources = v })
    (record s { notifications = ms; variables = values; sources = xs })
placed_with k s h v xs are values ns ms noted =
    let new : State = record s { notifications = ms; variables = values; sources = xs } in
    let old = h.sched.table in
    let table : IsTable new = record { tickets = old.tickets; few = old.few; current = old.current; holders = old.holders } in
    let same : SameWaits s new = same_parts s new refl refl refl in
    record {
      sched = sched-same h.sched table refl refl refl;
      rest = record {
        progress = h.rest.progress;
        full = h.rest.full;
        clock = clock-same k.clock s new h.rest.clock refl refl refl table;
        objects = stands_same s new same k.objects None h.rest.objects table;
        groups = on_groups.stands_same k.groups s new h.rest.groups (bits_kept.same_parts s new refl refl) table;
        awake = at_locked_same None s new same h.rest.awake;
        notifications = noted;
        variables = refl;
        sources = are;
        sections = h.rest.sections;
        steps = h.rest.steps;
        stopped = h.rest.stopped;
        placed = h.rest.placed;
      };
    }

-- ---- the sources

pub placed_sources : (k : Machine) (s : State) → StandsFor k s → (v : Sources) (xs : List Source)
    → AreSources (released_ticks s) v xs
    → StandsFor (record k { sources = v }) (record s { sources = xs })
placed_sources k s h v xs are =
    subst (λ (ys : List ℕ). StandsFor (record k { sources = v }) (record s { variables = ys; sources = xs }))
    h.rest.variables (placed_with k s h v xs are k.variables k.notifications s.notifications h.rest.notifications)

pub with_sources : (k : Machine) (s : State) → Stands k s → (v : Sources) (xs : List Source) → AreSources (released_ticks s) v xs
    → Stands (record k { sources = v }) (record s { sources = xs })
with_sources k s (Placed h) v xs are = Placed (placed_sources k s h v xs are)
with_sources k s (Placing task list b) v xs are =
    Placing task list
    (subst (λ (ys : List ℕ). StandsBefore task list (record k { sources = v }) (record s { variables = ys; sources = xs }))
    b.variables
    (before_with k s task list b s.log s.steps k.steps s.stopped k.stopped b.steps b.stopped v xs are k.variables
    k.notifications s.notifications b.notifications))

-- All that is kept of the sources is another.
module _ (k : Machine) (log : List Event) (s : State) (v : Sources) (xs : List Source) where
  pub sourced_at : (AreSources (released_ticks s) k.sources s.sources → AreSources (released_ticks s) v xs) → At k log s
      → At (record k { sources = v }) log (record s { sources = xs })
  sourced_at are h = record { stands = placed_sources k s h.stands v xs (are h.stands.rest.sources); log = h.log }

  pub sourced_any : (AreSources (released_ticks s) k.sources s.sources → AreSources (released_ticks s) v xs) → AtAny k log s
      → AtAny (record k { sources = v }) log (record s { sources = xs })
  sourced_any are h = record { stands = with_sources k s h.stands v xs (are (sources_are k s h.stands)); log = h.log }

-- ---- the variables

placed_storing : (k : Machine) (s : State) → StandsFor k s → (values : List ℕ)
    → StandsFor (record k { variables = values }) (record s { variables = values })
placed_storing k s h values = placed_with k s h k.sources s.sources h.rest.sources values
    k.notifications s.notifications h.rest.notifications

with_variables : (k : Machine) (s : State) → Stands k s → (values : List ℕ)
    → Stands (record k { variables = values }) (record s { variables = values })
with_variables k s (Placed h) values = Placed (placed_storing k s h values)
with_variables k s (Placing task list b) values =
    Placing task list
    (before_with k s task list b s.log s.steps k.steps s.stopped k.stopped b.steps b.stopped k.sources s.sources b.sources values
    k.notifications s.notifications b.notifications)

-- An op on values stores its answer.
pub stored_at : (k : Machine) (log : List Event) (s : State) (op : ValueOp) (a : Option ℕ) → At k log s
    → At (record k { variables = stored op a k.variables }) log (store op a s)
stored_at k log s op a h = record {
  stands =
      subst (λ (values : List ℕ).
      StandsFor (record k { variables = stored op a k.variables }) (record s { variables = stored op a values }))
      h.stands.rest.variables (placed_storing k s h.stands (stored op a k.variables));
  log = h.log;
}

-- the same, but a task may not be placed yet
pub stored_any : (k : Machine) (log : List Event) (s : State) (op : ValueOp) (a : Option ℕ) → AtAny k log s
    → AtAny (record k { variables = stored op a k.variables }) log (store op a s)
stored_any k log s op a h = record {
  stands =
      subst (λ (values : List ℕ).
      Stands (record k { variables = stored op a k.variables }) (record s { variables = stored op a values }))
      (variables_are k s h.stands) (with_variables k s h.stands (stored op a k.variables));
  log = h.log;
}

-- ---- the notifications

noted_set : (ns : List Notification) (ms : ℕ → Notification) (i : ℕ) (n : Notification) → i < 32 → AreNotifications ns ms
    → AreNotifications (set ns i n) (λ other. if other == i then n else ms other)
noted_set ns ms i n l h = record {
  same = λ j. elim (cases_eq j i) [
    | inl e ↦
        let t = eqb-refl i in
        subst (λ (k : ℕ). notification_in (set ns i n) k ≡ (if k == i then n else ms k)) (sym e)
        (rw t (let many = h.full in get_or-set_same ns i n no_notification (omega (arith, many, l))))
    | inr ne ↦ let t = eqb-apart j i ne in rw t (get_or-set_other ns i j n no_notification ne ∙ h.same j)
  ];
  full = length-set ns i n ∙ h.full;
}

-- A task's notification is another.
module _ (k : Machine) (s : State) (i : ℕ) (n : Notification) (l : i < 32) where
  noted_placed : StandsFor k s → StandsFor (record k { notifications = set k.notifications i n }) (with_notification i n s)
  noted_placed h =
      subst (λ (values : List ℕ). StandsFor (record k { notifications = set k.notifications i n })
      (record (with_notification i n s) { variables = values }))
      h.rest.variables
      (placed_with k s h k.sources s.sources h.rest.sources k.variables (set k.notifications i n)
      (λ other. if other == i then n else s.notifications other)
      (noted_set k.notifications s.notifications i n l h.rest.notifications))

  noted : Stands k s → Stands (record k { notifications = set k.notifications i n }) (with_notification i n s)
  noted (Placed h) = Placed (noted_placed h)
  noted (Placing task list b) =
      Placing task list
      (subst (λ (values : List ℕ). StandsBefore task list (record k { notifications = set k.notifications i n })
      (record (with_notification i n s) { variables = values }))
      b.variables
      (before_with k s task list b s.log s.steps k.steps s.stopped k.stopped b.steps b.stopped k.sources s.sources b.sources
      k.variables (set k.notifications i n) (λ other. if other == i then n else s.notifications other)
      (noted_set k.notifications s.notifications i n l b.notifications)))

pub noted_at : (k : Machine) (log : List Event) (s : State) (i : ℕ) (n : Notification) → i < 32 → At k log s
    → At (record k { notifications = set k.notifications i n }) log (with_notification i n s)
noted_at k log s i n l h = record { stands = noted_placed k s i n l h.stands; log = h.log }

pub noted_any : (k : Machine) (log : List Event) (s : State) (i : ℕ) (n : Notification) → i < 32 → AtAny k log s
    → AtAny (record k { notifications = set k.notifications i n }) log (with_notification i n s)
noted_any k log s i n l h = record { stands = noted k s i n l h.stands; log = h.log }
