-- Whether all tasks have ended, and what a kernel knows of those that are left.
use Rattle.std.proofs.Common.{◌≡◌, ◌+◌, ◌<◌, ◌≤◌, ℕ, zero, suc, Bool, true, false, not, ◌&&◌, ◌||◌, eqb, leb, ltb, List, []}
use Rattle.std.proofs.Common.{◌∷◌, length, get_or, Option, Some, None, refl, ap, sym, ◌∙◌, arith}
use Rattle.std.proofs.lemmas.Bool.Decides.{nat_tests}
use Rattle.std.specs.List.{list_all, list_any, filter, AllByRecursion}
use Rattle.std.specs.Prelude.{IsTrue, ◌↔◌, if◌then◌else◌, not}
use Rattle.std.specs.Prelude.{slice_get}
use Rattle.std.specs.Option.{option_eq, option_and_then, option_map, unwrap_or, is_none, is_some}
use Rattle.std.proofs.lemmas.List.{length-map}
use Rattle.model.specs.Application.{Application, Definition, without_endless}
use Rattle.model.specs.State.{State, Task, Status, Ready, Awake, Waiting, Asleep, WaitingForBits, WaitingForNotification}
use Rattle.model.specs.State.{Suspended, Ended}
use Rattle.model.specs.State.{wake_time_of, task_at, no_task}
use Rattle.model.specs.Order.{Key, Entry, key, keyed, list_by, in_order, tasks_of}
use Rattle.model.specs.Switching.{ready_key}
use Rattle.model.specs.declared.call.WaitList.{WaitList}
use Rattle.model.specs.Waiting.{same_list, wait_key}
use Rattle.model.specs.Time.{delayed_key}
use Rattle.model.specs.Step.{is_ended}
use Rattle.model.specs.Run.{is_interrupt_to_come, is_stuck}
use Rattle.model.specs.Invariant.{wait_of}
use Rattle.model.proofs.Sorting.{length-in_order, by_test}
use Rattle.model.proofs.Lists.{eqb-apart, eqb-refl, HasKey, list_has}
use Rattle.lists.specs.Lists.{first_of, has_node}
use Rattle.task_lists.specs.Priorities.{with_priorities}
use Rattle.sched.specs.Schedule.{lined_up}
use Rattle.sched.proofs.LinedUp.{ready_if_listed}
use Rattle.clock.specs.StandsFor as clock
use Rattle.clock.specs.StandsFor.{tasks_at}
use Rattle.clock.specs.Timeline.{Timeline}
use Rattle.objects.specs.WaitingLists.{waiting_in}
use Rattle.task_lists.specs.Tasks.{insert_by_priority}
use Rattle.objects.specs.WaitersStand.{joined_by, standing}
use Rattle.objects.proofs.Keys.{same_list-refl}
use Rattle.groups.specs.StandsFor.{event_wait}
use Rattle.kernel.specs.Blocked.{is_blocked}
use Rattle.model.specs.Suspension.{can_resume}
use Rattle.machine.specs.declared.machine.Machine.{Machine}
use Rattle.machine.specs.StandsFor.{StandsFor, StandsBefore, Stands, decider}
use Rattle.machine.specs.StandsFor.Stands.{Placed, Placing}

pub leb-yes : (a b : ℕ) → a ≤ b → leb a b ≡ true
leb-yes a b e = grind (arith, nat_tests)

pub leb-no : (a b : ℕ) → b < a → leb a b ≡ false
leb-no a b e = grind (arith, nat_tests)

pub leb-less : (a b : ℕ) → leb a b ≡ false → b < a
leb-less a b e = grind (arith, nat_tests)

pub some : (n : ℕ) → eqb (suc n) 0 ≡ false
some n = eqb-apart (suc n) 0 (λ e. omega arith)

length-ready : (ts : List Task) → length (with_priorities (list_by ready_key ts)) ≡ length (keyed ready_key 0 ts)
length-ready ts =
    length-map (list_by ready_key ts) (λ (e : Entry). (e.task, e.key.priority)) ∙ length-in_order (keyed ready_key 0 ts)

none_first : (xs : List (ℕ × ℕ)) → not (is_some (first_of xs)) ≡ eqb (length xs) 0
none_first [] = refl
none_first (x ∷ xs) = sym (some (length xs))

pub empty : {X : Type 0} → (xs : List X) → eqb (length xs) 0 ≡ true → xs ≡ []
empty [] t = refl
empty (x ∷ xs) t = let f : false ≡ true = sym (some (length xs)) ∙ t in absurd (cc)

until_due : (deadline : Option ℕ) (ticket : ℕ) (k : Key) → (if is_some deadline then Some (key 0 ticket) else None) ≡ Some k
    → ((m : ℕ) → option_eq eqb deadline (Some m) ≡ true → ⊥) → ⊥
until_due None ticket k e f = absurd (cc)
until_due (Some w) ticket k e f = f w (eqb-refl w)

-- One who sleeps is due at some time.
when_due : (t : Task) (u : Status) (k : Key) → delayed_key (record t { status = u }) ≡ Some k
    → ((m : ℕ) → option_eq eqb (wake_time_of u) (Some m) ≡ true → ⊥) → ⊥
when_due t (Ready n) k e f = absurd (cc)
when_due t (Awake w) k e f = until_due w.deadline w.ticket k e f
when_due t (Waiting w) k e f = until_due w.deadline w.ticket k e f
when_due t (Asleep w n) k e f = f w (eqb-refl w)
when_due t (WaitingForBits g n d) k e f = until_due d n k e f
when_due t (WaitingForNotification n d) k e f = until_due d n k e f
when_due t Suspended k e f = absurd (cc)
when_due t Ended k e f = absurd (cc)

none_due : (ts : List Task) (es : List Entry) → AllByRecursion (HasKey delayed_key ts) es
    → ((m : ℕ) → tasks_of (filter (λ (e : Entry). option_eq eqb (wake_time_of (get_or ts e.task no_task).status) (Some m)) es) ≡ [])
    → es ≡ []
none_due ts [] h d = refl
none_due ts (e ∷ es) h d =
    absurd (when_due (get_or ts e.task no_task) (get_or ts e.task no_task).status
    e.key h.0.key (λ m t. let f = rw t at (d m) in absurd (cc)))

none_asleep : (xs : List (ℕ × ℕ)) → ((m : ℕ) → tasks_at m xs ≡ []) → xs ≡ []
none_asleep [] d = refl
none_asleep (x ∷ xs) d = let f = rw (eqb-refl x.1) at (d x.1) in absurd (cc)

-- The clock has no sleeper where the state has none.
module _ (t : Timeline) (s : State) (h : clock.StandsFor t s) where
  none_delayed : t.delayed_list ≡ [] → list_by delayed_key s.tasks ≡ []
  none_delayed none =
      none_due s.tasks (list_by delayed_key s.tasks) (list_has delayed_key s.tasks) (λ m. sym (h.delayed m) ∙ ap (tasks_at m) none)

  no_sleepers : list_by delayed_key s.tasks ≡ [] → t.delayed_list ≡ []
  no_sleepers none = none_asleep t.delayed_list (λ m. h.delayed m ∙ rw none refl)

  quiet : (q : Bool) → (IsTrue q ↔ (t.delayed_list ≡ [])) → q ≡ eqb (length (keyed delayed_key 0 s.tasks)) 0
  quiet q is =
      let long : length (list_by delayed_key s.tasks) ≡ length (keyed delayed_key 0 s.tasks) =
      length-in_order (keyed delayed_key 0 s.tasks) in
      by_test (eqb (length (keyed delayed_key 0 s.tasks)) 0)
      (λ u. is.1 (no_sleepers (empty (list_by delayed_key s.tasks) (rw long u))) ∙ sym u)
      (λ u. by_test q
      (λ v. let none : list_by delayed_key s.tasks ≡ [] = none_delayed (is.0 v) in
      let w : eqb (length (list_by delayed_key s.tasks)) 0 ≡ false = rw long u in
      let x = rw none at w in
      absurd (cc))
      (λ v. v ∙ sym u))

and_false : (a b : Bool) → a && false && b ≡ false
and_false true b = refl
and_false false b = refl

and_not_true : (a b : Bool) → a && b && not true ≡ false
and_not_true true true = refl
and_not_true true false = refl
and_not_true false b = refl

-- Nobody is Ready, sleeps, waits or is suspended where everybody is Ended.
pub over : (o : ℕ) (ts : List Task)
    → eqb (length (keyed ready_key o ts)) 0 && eqb (length (keyed delayed_key o ts)) 0 && not (list_any is_blocked ts)
    ≡ list_all (λ (t : Task). is_ended t.status) ts
over o [] = refl
over o (t ∷ ts) = by_status t t.status (over (o + 1) ts) where
  by_status : (t : Task) (u : Status)
      → eqb (length (keyed ready_key (o + 1) ts)) 0 && eqb (length (keyed delayed_key (o + 1) ts)) 0 && not (list_any is_blocked ts)
      ≡ list_all (λ (t : Task). is_ended t.status) ts
      → eqb (length (keyed ready_key o (record t { status = u } ∷ ts))) 0
      && eqb (length (keyed delayed_key o (record t { status = u } ∷ ts))) 0
      && not (is_blocked (record t { status = u }) || list_any is_blocked ts)
      ≡ is_ended u && list_all (λ (v : Task). is_ended v.status) ts
  by_status t (Ready n) later = rw (some (length (keyed ready_key (o + 1) ts))) refl
  by_status t (Awake x) later =
      and_not_true (eqb (length (keyed ready_key (o + 1) ts)) 0)
      (eqb (length (keyed delayed_key o (record t { status = Awake x } ∷ ts))) 0)
  by_status t (Waiting x) later =
      and_not_true (eqb (length (keyed ready_key (o + 1) ts)) 0)
      (eqb (length (keyed delayed_key o (record t { status = Waiting x } ∷ ts))) 0)
  by_status t (Asleep x n) later =
      rw (some (length (keyed delayed_key (o + 1) ts)))
      (and_false (eqb (length (keyed ready_key (o + 1) ts)) 0) (not (list_any is_blocked ts)))
  by_status t (WaitingForBits g n d) later =
      and_not_true (eqb (length (keyed ready_key (o + 1) ts)) 0)
      (eqb (length (keyed delayed_key o (record t { status = WaitingForBits g n d } ∷ ts))) 0)
  by_status t (WaitingForNotification n d) later =
      and_not_true (eqb (length (keyed ready_key (o + 1) ts)) 0)
      (eqb (length (keyed delayed_key o (record t { status = WaitingForNotification n d } ∷ ts))) 0)
  by_status t Suspended later =
      and_not_true (eqb (length (keyed ready_key (o + 1) ts)) 0)
      (eqb (length (keyed delayed_key o (record t { status = Suspended } ∷ ts))) 0)
  by_status t Ended later = later

asleep : (o : ℕ) (ts : List Task)
    → eqb (length (keyed delayed_key o ts)) 0 ≡ not (list_any (λ (t : Task). is_some (wake_time_of t.status)) ts)
asleep o [] = refl
asleep o (t ∷ ts) = by_status t t.status (asleep (o + 1) ts) where
  by_status : (t : Task) (u : Status)
      → eqb (length (keyed delayed_key (o + 1) ts)) 0 ≡ not (list_any (λ (t : Task). is_some (wake_time_of t.status)) ts)
      → eqb (length (keyed delayed_key o (record t { status = u } ∷ ts))) 0
      ≡ not (is_some (wake_time_of u) || list_any (λ (v : Task). is_some (wake_time_of v.status)) ts)
  by_status t (Ready n) later = later
  by_status t (Awake w) later =
      by_test (is_some w.deadline) (λ e. rw e (some (length (keyed delayed_key (o + 1) ts)))) (λ e. rw e later)
  by_status t (Waiting w) later =
      by_test (is_some w.deadline) (λ e. rw e (some (length (keyed delayed_key (o + 1) ts)))) (λ e. rw e later)
  by_status t (Asleep w n) later = some (length (keyed delayed_key (o + 1) ts))
  by_status t (WaitingForBits g n d) later =
      by_test (is_some d) (λ e. rw e (some (length (keyed delayed_key (o + 1) ts)))) (λ e. rw e later)
  by_status t (WaitingForNotification n d) later =
      by_test (is_some d) (λ e. rw e (some (length (keyed delayed_key (o + 1) ts)))) (λ e. rw e later)
  by_status t Suspended later = later
  by_status t Ended later = later

-- whether every task is Ended, the endless ones too
abbrev pub is_everybody_ended : State → Bool
is_everybody_ended s = list_all (λ (t : Task). is_ended t.status) s.tasks

-- whether nobody sleeps
abbrev is_quiet : State → Bool
is_quiet s = eqb (length (keyed delayed_key 0 s.tasks)) 0

-- What the parts of the kernel say of an end.
module _ (k : Machine) (s : State) (h : StandsFor k s) where
  over_is : not (is_some (first_of (lined_up k.sched))) && is_quiet s && not (list_any is_blocked s.tasks) ≡ is_everybody_ended s
  over_is = rw (none_first (lined_up k.sched), h.sched.ready, length-ready s.tasks) (over 0 s.tasks)

  stuck_is : (app : Application) → is_none k.sched.current && is_quiet s && not (is_interrupt_to_come app s) ≡ is_stuck app s
  stuck_is app = rw (h.sched.current, asleep 0 s.tasks) refl

  ended_if : (ready q w : Bool) → ready ≡ is_some (first_of (lined_up k.sched)) → (IsTrue q ↔ (k.clock.delayed_list ≡ []))
      → w ≡ list_any is_blocked s.tasks → not ready && q && not w ≡ is_everybody_ended s
  ended_if ready q w r is waiting = rw (r, quiet k.clock s h.rest.clock q is, waiting) over_is

  not_over : is_some (first_of (lined_up k.sched)) ≡ true → false ≡ is_everybody_ended s
  not_over some = rw some at over_is

  pub is_stuck_by : (idle q later : Bool) (app : Application) → idle ≡ is_none k.sched.current
      → (IsTrue q ↔ (k.clock.delayed_list ≡ [])) → later ≡ is_interrupt_to_come app s → idle && q && not later ≡ is_stuck app s
  is_stuck_by idle q later app n is come = rw (n, quiet k.clock s h.rest.clock q is, come) (stuck_is app)

-- A task is still to be placed, and so waits.
standing_none : (list : WaitList) (o : ℕ) (ts : List Task) → list_all (λ (t : Task). is_ended t.status) ts ≡ true
    → keyed (λ (t : Task). option_and_then (wait_key list) (wait_of t.status)) o ts ≡ []
standing_none list o [] t = refl
standing_none list o (u ∷ us) t = by_status u.status refl (standing_none list (o + 1) us) where
  by_status : (v : Status) → u.status ≡ v
      → (list_all (λ (t : Task). is_ended t.status) us ≡ true
      → keyed (λ (t : Task). option_and_then (wait_key list) (wait_of t.status)) (o + 1) us ≡ [])
      → keyed (λ (t : Task). option_and_then (wait_key list) (wait_of t.status)) o (u ∷ us) ≡ []
  by_status (Ready n) e later = absurd (let f = rw e at t in cc)
  by_status (Awake w) e later = absurd (let f = rw e at t in cc)
  by_status (Waiting w) e later = absurd (let f = rw e at t in cc)
  by_status (Asleep w n) e later = absurd (let f = rw e at t in cc)
  by_status (WaitingForBits g n d) e later = absurd (let f = rw e at t in cc)
  by_status (WaitingForNotification n d) e later = absurd (let f = rw e at t in cc)
  by_status Suspended e later = absurd (let f = rw e at t in cc)
  by_status Ended e later = rw e (later (rw e at t))

put_in_some : (e : ℕ × ℕ) (es : List (ℕ × ℕ)) → insert_by_priority e es ≡ [] → ⊥
put_in_some e [] h = absurd (cc)
put_in_some e (f ∷ fs) h = by_test (ltb f.1 e.1) (λ t. let g = rw t at h in absurd (cc)) (λ t. let g = rw t at h in absurd (cc))

waits_before : (k : Machine) (s : State) (task : ℕ) (list : WaitList) → StandsBefore task list k s → false ≡ is_everybody_ended s
waits_before k s task list b = by_test (is_everybody_ended s)
    (λ t.
    let none : standing s list ≡ [] = ap in_order (standing_none list 0 s.tasks t) in
    let joined : joined_by (Some (decider task list s)) list (waiting_in k.objects.waiting list) ≡ [] =
    b.objects.waiters.lists list ∙ ap with_priorities none in
    let own : same_list list list ≡ true = same_list-refl list in
    absurd (put_in_some (task, (task_at s task).priority) (waiting_in k.objects.waiting list) (rw own at joined)))
    (λ t. sym t)

ready_before : (k : Machine) (s : State) (task : ℕ) (list : WaitList)
    → StandsBefore task list k s → is_some (first_of (lined_up k.sched)) ≡ true
ready_before k s task list b = by_entries (lined_up k.sched) (ready_if_listed task k.sched b.sched.still) where
  by_entries : (es : List (ℕ × ℕ)) → has_node task es ≡ true → is_some (first_of es) ≡ true
  by_entries [] t = absurd (cc)
  by_entries (e ∷ es) t = refl

pub runs_before : (app : Application) (k : Machine) (s : State) (task : ℕ) (list : WaitList)
    → StandsBefore task list k s → false ≡ is_stuck app s
runs_before app k s task list b = rw b.current refl

-- Whether or not a task is still to be placed.
module _ (k : Machine) (s : State) (ready q : Bool) (r : ready ≡ is_some (first_of (lined_up k.sched)))
    (is : IsTrue q ↔ (k.clock.delayed_list ≡ [])) where
  pub over_by : Stands k s → ready ≡ false → q ≡ true → (w : Bool)
      → (StandsFor k s → w ≡ list_any is_blocked s.tasks) → not w ≡ is_everybody_ended s
  over_by (Placed h) none still w waiting = let e = ended_if k s h ready q w r is (waiting h) in rw (none, still) at e
  over_by (Placing task list b) none still w waiting = let some : ready ≡ true = r ∙ ready_before k s task list b in absurd (cc)

  pub on_by : Stands k s → not ready && q ≡ false → is_everybody_ended s ≡ false
  on_by (Placed h) on = let e = ended_if k s h ready q (list_any is_blocked s.tasks) r is refl in sym (rw on at e)
  on_by (Placing task list b) on = sym (waits_before k s task list b)

pub not_over_by : (k : Machine) (s : State) (ready : Bool) → ready ≡ is_some (first_of (lined_up k.sched))
    → Stands k s → ready ≡ true → is_everybody_ended s ≡ false
not_over_by k s ready r (Placed h) some = sym (not_over k s h (sym r ∙ some))
not_over_by k s ready r (Placing task list b) some = sym (waits_before k s task list b)

-- Who is blocked isn't Ended.
blocked_apart : (u : Status) → is_ended u ≡ true
    → is_some (wait_of u) || is_some (event_wait u) || can_resume u ≡ false
blocked_apart (Ready n) e = absurd (cc)
blocked_apart (Awake w) e = absurd (cc)
blocked_apart (Waiting w) e = absurd (cc)
blocked_apart (Asleep w n) e = absurd (cc)
blocked_apart (WaitingForBits g n d) e = absurd (cc)
blocked_apart (WaitingForNotification n d) e = absurd (cc)
blocked_apart Suspended e = absurd (cc)
blocked_apart Ended e = refl

pub blocked_on : (ts : List Task) → list_any is_blocked ts ≡ true → list_all (λ (t : Task). is_ended t.status) ts ≡ false
blocked_on [] e = absurd (cc)
blocked_on (t ∷ ts) e = by_test (is_ended t.status)
    (λ u. rw u (blocked_on ts (rw (blocked_apart t.status u) at e)))
    (λ u. rw u refl)

-- Where somebody isn't Ended, not all are.
pub some_on : (ts : List Task) → list_all (λ (t : Task). is_ended t.status) ts ≡ false
    → (i : ℕ) × (is_ended (get_or ts i no_task).status ≡ false)
some_on [] e = absurd (cc)
some_on (t ∷ ts) e = by_test (is_ended t.status)
    (λ u. let later = some_on ts (rw u at e) in (suc later.0, later.1))
    (λ u. (0, u))

pub not_all_ended : (ts : List Task) (i : ℕ) → is_ended (get_or ts i no_task).status ≡ false
    → list_all (λ (t : Task). is_ended t.status) ts ≡ false
not_all_ended [] i e = absurd (cc)
not_all_ended (t ∷ ts) zero e = rw e refl
not_all_ended (t ∷ ts) (suc i) e = by_test (is_ended t.status)
    (λ u. rw u (not_all_ended ts i e))
    (λ u. rw u refl)

-- The same of all but the endless ones.

when_true : {X : Type 0} (b : Bool) (x y : X) → b ≡ true → (if b then x else y) ≡ x
when_true true x y e = refl
when_true false x y e = absurd (cc)

when_false : {X : Type 0} (b : Bool) (x y : X) → b ≡ false → (if b then x else y) ≡ y
when_false true x y e = absurd (cc)
when_false false x y e = refl

pub and_right_false : (a b : Bool) → b ≡ false → a && b ≡ false
and_right_false true b e = e
and_right_false false b e = refl

and_of_true : (a b : Bool) → a && b ≡ false → a ≡ true → b ≡ false
and_of_true true b e t = e
and_of_true false b e t = absurd (cc)

-- where none is endless, all are meant
pub all_meant : {X : Type 0} (ds : List Definition) (xs : List X)
    → list_any (λ (d : Definition). d.endless) ds ≡ false → without_endless ds xs ≡ xs
all_meant [] xs e = refl
all_meant (d ∷ ds) [] e = refl
all_meant (d ∷ ds) (x ∷ xs) e = by_first d.endless e (λ f. all_meant ds xs f) where
  by_first : (b : Bool) → b || list_any (λ (d : Definition). d.endless) ds ≡ false
      → (list_any (λ (d : Definition). d.endless) ds ≡ false → without_endless ds xs ≡ xs)
      → (if b then without_endless ds xs else x ∷ without_endless ds xs) ≡ x ∷ xs
  by_first true f later = absurd (cc)
  by_first false f later = ap (λ ys. x ∷ ys) (later f)

pub some_left : (ds : List Definition) (ts : List Task) → list_all (λ (t : Task). is_ended t.status) (without_endless ds ts) ≡ false
    → (i : ℕ) × (unwrap_or (option_map (λ (d : Definition). d.endless) (slice_get ds i)) false ≡ false)
    × (is_ended (get_or ts i no_task).status ≡ false)
some_left [] ts e = let one = some_on ts e in (one.0, refl, one.1)
some_left (d ∷ ds) [] e = absurd (cc)
some_left (d ∷ ds) (t ∷ ts) e = by_test d.endless
    (λ u.
    let later =
    some_left ds ts (sym (ap (λ (xs : List Task). list_all (λ (t : Task). is_ended t.status) xs)
    (when_true d.endless (without_endless ds ts) (t ∷ without_endless ds ts) u))
    ∙ e) in
    (suc later.0, later.1, later.2))
    (λ u.
    let here : is_ended t.status && list_all (λ (t : Task). is_ended t.status) (without_endless ds ts) ≡ false =
    sym (ap (λ (xs : List Task). list_all (λ (t : Task). is_ended t.status) xs)
    (when_false d.endless (without_endless ds ts) (t ∷ without_endless ds ts) u))
    ∙ e in
    by_test (is_ended t.status)
    (λ v. let later = some_left ds ts (and_of_true (is_ended t.status) _ here v) in (suc later.0, later.1, later.2))
    (λ v. (0, u, v)))

pub not_all_but : (ds : List Definition) (ts : List Task) (i : ℕ)
    → unwrap_or (option_map (λ (d : Definition). d.endless) (slice_get ds i)) false ≡ false
    → is_ended (get_or ts i no_task).status ≡ false → list_all (λ (t : Task). is_ended t.status) (without_endless ds ts) ≡ false
not_all_but [] ts i e on = not_all_ended ts i on
not_all_but (d ∷ ds) [] i e on = absurd (cc)
not_all_but (d ∷ ds) (t ∷ ts) zero e on =
    ap (λ (xs : List Task). list_all (λ (t : Task). is_ended t.status) xs)
    (when_false d.endless (without_endless ds ts) (t ∷ without_endless ds ts) e)
    ∙ rw on refl
not_all_but (d ∷ ds) (t ∷ ts) (suc i) e on =
    let later = not_all_but ds ts i e on in
    by_test d.endless
    (λ u.
    ap (λ (xs : List Task). list_all (λ (t : Task). is_ended t.status) xs)
    (when_true d.endless (without_endless ds ts) (t ∷ without_endless ds ts) u)
    ∙ later)
    (λ u.
    ap (λ (xs : List Task). list_all (λ (t : Task). is_ended t.status) xs)
    (when_false d.endless (without_endless ds ts) (t ∷ without_endless ds ts) u)
    ∙ and_right_false (is_ended t.status) _ later)

each_ended : (ts : List Task) → ((i : ℕ) → i < length ts → is_ended (get_or ts i no_task).status ≡ true)
    → list_all (λ (t : Task). is_ended t.status) ts ≡ true
each_ended [] h = refl
each_ended (t ∷ ts) h =
    let first : is_ended t.status ≡ true = h 0 (omega arith) in
    rw first (each_ended ts (λ i l. h (suc i) (omega arith)))

pub or_false_left : (a b : Bool) → a || b ≡ true → a ≡ false → b ≡ true
or_false_left true b e f = absurd (cc)
or_false_left false b e f = e

pub all_but : (ds : List Definition) (ts : List Task)
    → ((i : ℕ) → i < length ts
    → (unwrap_or (option_map (λ (d : Definition). d.endless) (slice_get ds i)) false || is_ended (get_or ts i no_task).status)
    ≡ true)
    → list_all (λ (t : Task). is_ended t.status) (without_endless ds ts) ≡ true
all_but [] ts h = each_ended ts (λ i l. h i l)
all_but (d ∷ ds) [] h = refl
all_but (d ∷ ds) (t ∷ ts) h =
    let later = all_but ds ts (λ i l. h (suc i) (omega arith)) in
    by_test d.endless
    (λ u.
    ap (λ (xs : List Task). list_all (λ (t : Task). is_ended t.status) xs)
    (when_true d.endless (without_endless ds ts) (t ∷ without_endless ds ts) u)
    ∙ later)
    (λ u.
    let first : is_ended t.status ≡ true = or_false_left d.endless (is_ended t.status) (h 0 (omega arith)) u in
    ap (λ (xs : List Task). list_all (λ (t : Task). is_ended t.status) xs)
    (when_false d.endless (without_endless ds ts) (t ∷ without_endless ds ts) u)
    ∙ rw (first, later) refl)

-- of which there is one, if there is a task at all
pub all_awaited : (ds : List Definition) → 1 ≤ length ds → list_any (λ (d : Definition). d.endless) ds ≡ false
    → list_any (λ (d : Definition). not d.endless) ds ≡ true
all_awaited [] l e = absurd (omega arith)
all_awaited (d ∷ ds) l e = by_first d.endless e where
  by_first : (b : Bool) → b || list_any (λ (d : Definition). d.endless) ds ≡ false
      → not b || list_any (λ (d : Definition). not d.endless) ds ≡ true
  by_first true f = absurd (cc)
  by_first false f = refl
