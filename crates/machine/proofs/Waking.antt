-- The tasks that are due become Ready, one after the other.
use Rattle.std.proofs.Common.{None, Some, ◌≡◌, ◌≢◌, ◌<◌, ◌+◌, ℕ, zero, suc, true, false, eqb, List, [], ◌∷◌, ◌++◌, length, get_or}
use Rattle.std.proofs.Common.{take, drop, refl, ap, sym, subst, ◌∙◌, arith}
use Rattle.std.specs.List.{AllByRecursion, IsDistinct, filter}
use Rattle.std.specs.Option.{option_eq}
use Rattle.std.specs.Prelude.{nat_lt}
use Rattle.std.proofs.lemmas.List.{take_more}
use Rattle.model.specs.declared.event.Event.{Event}
use Rattle.model.specs.State.{State, Task, Status, Ready, Awake, Waiting, WaitingForBits, WaitingForNotification, Asleep, Suspended}
use Rattle.model.specs.State.{Ended, wake_time_of}
use Rattle.model.specs.State.{task_at, status_at, progress_at, for_each, no_task}
use Rattle.model.specs.Suspension.{can_resume}
use Rattle.model.specs.Order.{Entry, tasks_of}
use Rattle.model.specs.Switching.{make_ready, holds_ticks}
use Rattle.model.specs.Time.{delayed_key, delayed_list, is_due, due, wake_due, advance, increment_tick, jump}
use Rattle.model.proofs.Sorting.{by_test}
use Rattle.model.proofs.Lists.{eqb-refl}
use Rattle.model.proofs.Chosen.{each-end, list_within}
use Rattle.model.proofs.Tables.{each-set}
use Rattle.soundness.proofs.Keeping.{keeps-all_ready}
use Rattle.soundness.proofs.Settled.{nothing_holds, ticks_free}
use Rattle.lists.specs.Lists.{Each}
use Rattle.sched.specs.StandsFor as sched
use Rattle.sched.specs.Schedule as schedule
use Rattle.sched.specs.Schedule.{Schedule}
use Rattle.sched.proofs.LinedUp.{ready_woken}
use Rattle.sched.proofs.Standing.{held_by_depth}
use Rattle.clock.specs.StandsFor as clock
use Rattle.clock.specs.StandsFor.{at_next_tick, at_jump}
use Rattle.clock.specs.Timeline.{Timeline, Jumps, is_asleep}
use Rattle.clock.proofs.Standing.{due_asleep, due_once}
use Rattle.objects.specs.WaitersStand.{AtLocked}
use Rattle.objects.specs.Objects as objects
use Rattle.objects.specs.Objects.{Objects}
use Rattle.objects.proofs.Kept.{stands_same}
use Rattle.objects.proofs.Awake.{at_locked-all_ready}
use Rattle.groups.specs.StandsFor as groups
use Rattle.groups.specs.EventGroups.{EventGroups}
use Rattle.groups.proofs.Standing as on_groups
use Rattle.groups.proofs.Kept as bits_kept
use Rattle.model.specs.Invariant.{IsTable}
use Rattle.machine.specs.declared.machine.Machine.{Machine}
use Rattle.machine.specs.StandsFor.{StandsFor, At, released_ticks}
use Rattle.machine.specs.Can.{AreThere, AreToWake}
use Rattle.machine.proofs.Parts.{apart_back, kept_of, progress-kept, rest_with, same_parts, sched-same}

-- ---- the tasks that are to wake

-- A wake holds nothing.
pub depth_woken : (v new : Schedule) (i : ℕ) → new ≡ schedule.wake i v → new.depth ≡ v.depth
depth_woken v new i is = ap (λ (w : Schedule). w.depth) is ∙ by_test (eqb v.depth 0) (λ t. rw t refl) (λ t. rw t refl)

pub suspensions_woken : (v new : Schedule) (i : ℕ) → new ≡ schedule.wake i v → new.suspensions ≡ v.suspensions
suspensions_woken v new i is = ap (λ (w : Schedule). w.suspensions) is ∙ by_test (eqb v.depth 0) (λ t. rw t refl) (λ t. rw t refl)

-- A sleeping task isn't Ready, and none sleeps twice, so all that are due can become Ready.
pub to_wake : (ticks : ℕ) (k : Machine) (s : State) → StandsFor k s
    → (new : Timeline) (ds : List ℕ) → Jumps ticks k.clock new ds → AreToWake k.sched ds
unfolding IsDistinct
to_wake ticks k s h new ds a =
    by_parts ds (due_asleep ticks k.clock new ds a) (due_once ticks k.clock new ds a h.rest.clock.once) where
      apart_from : (d : ℕ) (es : List ℕ) → AllByRecursion (λ e. eqb d e ≡ false) es → AllByRecursion (λ e. e ≢ d) es
      apart_from d [] b = tt
      apart_from d (e ∷ es) b =
          ((λ q. let f : eqb d e ≡ true = rw q (eqb-refl d) in let g = b.0 in absurd (cc)), apart_from d es b.1)

      by_parts : (es : List ℕ) → Each (λ d. is_asleep k.clock d ≡ true) es → IsDistinct eqb es → AreToWake k.sched es
      by_parts [] x y = tt
      by_parts (e ∷ es) x y = (apart_back k s h e x.0, apart_from e es y.0, by_parts es x.1 y.1)

still_to_wake : (v : Schedule) (i : ℕ) (js : List ℕ) → AllByRecursion (λ j. j ≢ i) js
    → AreToWake v js → AreToWake (schedule.wake i v) js
still_to_wake v i [] a h = tt
still_to_wake v i (j ∷ js) a h = (ready_woken v i j a.0 ∙ h.0, h.1, still_to_wake v i js a.1 h.2)

-- one more of them is Ready
module _ (v : Schedule) (ts : List ℕ) (j : ℕ) (i : ℕ) (l : j < length ts) (e : i ≡ get_or ts j i) where
  drop_one : drop j ts ≡ i ∷ drop (j + 1) ts
  drop_one = by_index ts j l e where
    by_index : (ts : List ℕ) (j : ℕ) → j < length ts → i ≡ get_or ts j i → drop j ts ≡ i ∷ drop (j + 1) ts
    by_index [] j l e = absurd (omega arith)
    by_index (t ∷ ts) zero l e = ap (λ (x : ℕ). x ∷ ts) (sym e)
    by_index (t ∷ ts) (suc j) l e = let n : suc j + 1 ≡ suc (j + 1) = omega arith in rw n (by_index ts j (omega arith) e)

  pub next_free : AreToWake v (drop j ts) → schedule.is_ready v i ≡ false
  next_free h = (let w : AreToWake v (i ∷ drop (j + 1) ts) = subst (AreToWake v) drop_one h in w.0)

  pub more_free : AreToWake v (drop j ts) → (new : Schedule) → new ≡ schedule.wake i v → AreToWake new (drop (j + 1) ts)
  more_free h new is =
      let w : AreToWake v (i ∷ drop (j + 1) ts) = subst (AreToWake v) drop_one h in
      let P : Schedule → Type 0 = λ x. AreToWake x (drop (j + 1) ts) in
      subst P (sym is) (still_to_wake v i (drop (j + 1) ts) w.1 w.2)

  -- and of others after them
  pub more_left : (more : List ℕ) → AreToWake v (drop j ts ++ more) → (new : Schedule)
      → new ≡ schedule.wake i v → AreToWake new (drop (j + 1) ts ++ more)
  more_left more h new is =
      let w : AreToWake v (i ∷ (drop (j + 1) ts ++ more)) = subst (λ (us : List ℕ). AreToWake v (us ++ more)) drop_one h in
      let P : Schedule → Type 0 = λ x. AreToWake x (drop (j + 1) ts ++ more) in
      subst P (sym is) (still_to_wake v i (drop (j + 1) ts ++ more) w.1 w.2)

-- one of the tasks that are there
at_there : (s : State) (ts : List ℕ) (j : ℕ) (d : ℕ) → j < length ts → AreThere s ts
    → (get_or ts j d < length s.tasks) × (can_resume (status_at s (get_or ts j d)) ≡ false)
at_there s [] j d l h = absurd (omega arith)
at_there s (t ∷ ts) zero d l h = h.0
at_there s (t ∷ ts) (suc j) d l h = at_there s ts j d (omega arith) h.1

-- Who isn't suspended isn't when others have become Ready either.
pub still_awake : (s : State) (js : List ℕ) (i : ℕ) → can_resume (status_at s i) ≡ false
    → can_resume (status_at (for_each make_ready js s) i) ≡ false
still_awake s [] i e = e
still_awake s (j ∷ js) i e =
    let P : ℕ → Task → Type 0 = λ k t. k ≡ i → can_resume t.status ≡ false in
    still_awake (make_ready j s) js i (each-set no_task P s.tasks j (record (task_at s j) { status = Ready s.next_ticket })
    (λ _. refl) (λ k q. subst (λ (m : ℕ). can_resume (status_at s m) ≡ false) (sym q) e) i refl)

pub still_there : (s : State) (js is : List ℕ) → AreThere s is → AreThere (for_each make_ready js s) is
still_there s js [] h = tt
still_there s js (i ∷ is) h = ((rw (keeps-all_ready js s).tasks h.0.0, still_awake s js i h.0.1), still_there s js is h.1)

due_unsuspended : (s : State) (u : Status) → option_eq eqb (wake_time_of u) (Some s.time) ≡ true → can_resume u ≡ false
due_unsuspended s (Ready n) e = refl
due_unsuspended s (Awake w) e = refl
due_unsuspended s (Waiting w) e = refl
due_unsuspended s (WaitingForBits g n d) e = refl
due_unsuspended s (WaitingForNotification n d) e = refl
due_unsuspended s (Asleep w n) e = refl
due_unsuspended s Suspended e = absurd (cc)
due_unsuspended s Ended e = refl

-- the tasks that are due
pub due_there : (s : State) → AreThere s (tasks_of (due s))
due_there s = of_list (delayed_list s) (list_within delayed_key s.tasks) where
  of_list : (es : List Entry) → AllByRecursion (λ (e : Entry). e.task < length s.tasks) es
      → AreThere s (tasks_of (filter (is_due s) es))
  of_list [] h = tt
  of_list (e ∷ es) h =
      by_test (is_due s e) (λ t. rw t ((h.0, due_unsuspended s (status_at s e.task) t), of_list es h.1))
      (λ t. rw t (of_list es h.1))

-- What holds after one more of the tasks was made Ready.
pub ready_more : (P : State → Type 0) (s : State) (ts : List ℕ) (j i : ℕ) → j < length ts → i ≡ get_or ts j i → AreThere s ts
    → (i < length (for_each make_ready (take j ts) s).tasks → can_resume (status_at (for_each make_ready (take j ts) s) i) ≡ false
    → P (make_ready i (for_each make_ready (take j ts) s)))
    → P (for_each make_ready (take (j + 1) ts) s)
ready_more P s ts j i l e there goes =
    let so : State = for_each make_ready (take j ts) s in
    let own = at_there s ts j i l there in
    let low : i < length s.tasks = rw e own.0 in
    let here : i < length so.tasks = rw (keeps-all_ready (take j ts) s).tasks low in
    let awake : can_resume (status_at s i) ≡ false = subst (λ (m : ℕ). can_resume (status_at s m) ≡ false) (sym e) own.1 in
    let more : take (j + 1) ts ≡ take j ts ++ i ∷ [] = take_more ts j i l ∙ ap (λ (x : ℕ). take j ts ++ x ∷ []) (sym e) in
    rw (more, each-end make_ready s (take j ts) i) (goes here (still_awake s (take j ts) i awake))

-- ---- a tick

-- A task's progress stays as it becomes Ready.
pub progress-ready : (s : State) (i j : ℕ) → progress_at (make_ready i s) j ≡ progress_at s j
progress-ready s i j = progress-kept s.tasks i (record (task_at s i) { status = Ready s.next_ticket }) refl j

pub progress-all_ready : (is : List ℕ) (s : State) (j : ℕ) → progress_at (for_each make_ready is s) j ≡ progress_at s j
progress-all_ready [] s j = refl
progress-all_ready (i ∷ is) s j = progress-all_ready is (make_ready i s) j ∙ progress-ready s i j

pub log-all_ready : (is : List ℕ) (s : State) → (for_each make_ready is s).log ≡ s.log
log-all_ready [] s = refl
log-all_ready (i ∷ is) s = log-all_ready is (make_ready i s)

pub kept-all_ready : (is : List ℕ) (s : State) → kept_of (for_each make_ready is s) ≡ kept_of s
kept-all_ready [] s = refl
kept-all_ready (i ∷ is) s = kept-all_ready is (make_ready i s)

pub released-all_ready : (is : List ℕ) (s : State) → released_ticks (for_each make_ready is s) ≡ released_ticks s
released-all_ready [] s = refl
released-all_ready (i ∷ is) s = released-all_ready is (make_ready i s)

-- If nothing holds the scheduler no tick is held.
pub ticks_not_held : (v : Schedule) (s : State) → sched.StandsFor v s → v.depth ≡ 0 → holds_ticks s ≡ false
ticks_not_held v s h none =
    let off = nothing_holds s (held_by_depth s ∙ ap (λ (n : ℕ). nat_lt 0 n) (sym h.depth ∙ none)) in
    ticks_free s off.0 off.1

-- The scheduler and the clock have done their part.
module _ (k : Machine) (log : List Event) (s : State) (h : At k log s) (ticks : ℕ) where
  pub sched-jumped : sched.StandsFor k.sched (at_jump ticks s)
  sched-jumped =
      let old = h.stands.sched.table in
      let table : IsTable (at_jump ticks s) =
      record { tickets = old.tickets; few = old.few; current = old.current; holders = old.holders } in
      sched-same h.stands.sched table refl refl refl

  pub groups-jumped : groups.StandsFor k.groups (at_jump ticks s)
  groups-jumped =
      on_groups.stands_same k.groups s (at_jump ticks s) h.stands.rest.groups
      (bits_kept.same_parts s (at_jump ticks s) refl refl) sched-jumped.table

  pub objects-jumped : objects.StandsFor k.objects None (at_jump ticks s)
  objects-jumped =
      stands_same s (at_jump ticks s) (same_parts s (at_jump ticks s) refl refl refl)
      k.objects None h.stands.rest.objects sched-jumped.table

  pub jumped : (ds : List ℕ) (v : Schedule) (q : Objects) (t : Timeline) (g : EventGroups)
      → ds ≡ tasks_of (due (at_jump ticks s)) → sched.StandsFor v (for_each make_ready ds (at_jump ticks s))
      → objects.StandsFor q None (for_each make_ready ds (at_jump ticks s))
      → groups.StandsFor g (for_each make_ready ds (at_jump ticks s)) → clock.StandsFor t (jump ticks s)
      → At (record k { sched = v; clock = t; objects = q; groups = g }) log (jump ticks s)
  unfolding jump wake_due
  jumped ds v q t g is ready left bits awake =
      let next : State = at_jump ticks s in
      let come_at : AtLocked None next = record { awake = h.stands.rest.awake.awake; to_place = tt } in
      let come : jump ticks s ≡ for_each make_ready ds next = ap (λ (x : List ℕ). for_each make_ready x next) (sym is) in
      let on : clock.StandsFor t (for_each make_ready ds next) = subst (clock.StandsFor t) come awake in
      subst (At (record k { sched = v; clock = t; objects = q; groups = g }) log) (sym come) (record {
        stands =
            record {
              sched = ready;
              rest =
                  rest_with h.stands.rest on (let e = released-all_ready ds next in omega (arith, e)) (progress-all_ready ds next)
                  (kept-all_ready ds next)
                  left (at_locked-all_ready None ds next come_at) bits;
            };
        log = h.log ∙ sym (log-all_ready ds next);
      })

module _ (k : Machine) (log : List Event) (s : State) (h : At k log s) where
  pub woken : (ds : List ℕ) (v : Schedule) (q : Objects) (t : Timeline) (g : EventGroups)
      → ds ≡ tasks_of (due (at_next_tick s)) → sched.StandsFor v (for_each make_ready ds (at_next_tick s))
      → objects.StandsFor q None (for_each make_ready ds (at_next_tick s))
      → groups.StandsFor g (for_each make_ready ds (at_next_tick s)) → clock.StandsFor t (increment_tick s)
      → holds_ticks s ≡ false → At (record k { sched = v; clock = t; objects = q; groups = g }) log (increment_tick s)
  unfolding increment_tick advance jump
  woken ds v q t g is ready left bits awake none =
      let come : increment_tick s ≡ jump 1 s = rw none refl in
      subst (At (record k { sched = v; clock = t; objects = q; groups = g }) log) (sym come)
      (jumped k log s h 1 ds v q t g is ready left bits (subst (clock.StandsFor t) come awake))
