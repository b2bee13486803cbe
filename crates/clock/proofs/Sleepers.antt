-- The sleepers of a state, as one of them falls asleep or wakes.
use Rattle.std.proofs.Common.{◌≡◌, ◌≢◌, ℕ, ◌+◌, ◌-◌, ◌<◌, ◌≤◌, inl, inr, Bool, true, false, not, cond, Option, Some, None, List, []}
use Rattle.std.proofs.Common.{◌∷◌, ◌++◌, get_or, set, length, sym, ◌∙◌, ap, ap₂, subst, arith, refl, eqb, append_assoc, append-nil}
use Rattle.std.specs.Prelude.{◌==◌, nat_eq, if◌then◌else◌}
use Rattle.std.specs.List.{AllByRecursion, filter}
use Rattle.std.specs.Option.{is_some, option_eq, option_map}
use Rattle.std.proofs.lemmas.Bool.{cases_eq, cases_lt, eq-eqb, ne_eqb}
use Rattle.std.proofs.lemmas.List.{get_or-set_other, get_or-set_same}
use Rattle.model.specs.State.{State, Status, Task, Ready, Awake, Waiting, Asleep, WaitingForBits, WaitingForNotification, Suspended}
use Rattle.model.specs.State.{Ended, for_each}
use Rattle.model.specs.State.{no_task, task_at, ticket_if_ready, ticket_of}
use Rattle.model.specs.State.{wake_time_of}
use Rattle.model.specs.Order.{Entry, Key, entry, key, list_by, put, tasks_of}
use Rattle.model.specs.Switching.{is_ready, make_ready}
use Rattle.model.specs.Time.{delayed_key, due, sleep}
use Rattle.model.specs.Invariant.{AllTicketsBelow, IsTable}
use Rattle.model.proofs.Sorting.{IsAfterEntry, by_test, put_last}
use Rattle.model.proofs.Lists.{HasKey, eqb-refl, filter-without, list-entered, list-gone, list-kept, list_below, list_has}
use Rattle.model.proofs.Lists.{list_without, other}
use Rattle.model.proofs.Tables.{below_delayed, table-make_ready, table-taken}
use Rattle.lists.specs.Lists.{Each, EachOnce, IsSorted, has_node, insert_sorted, without}
use Rattle.lists.proofs.Entries.{EachOnce-insert_sorted, EachOnce-without, IsSorted-insert_sorted, IsSorted-without, Each-imp}
use Rattle.lists.proofs.Entries.{apart_from_test}
use Rattle.lists.proofs.Entries.{insert_sorted-after, insert_sorted-before, without-apart, without-same}
use Rattle.clock.specs.Timeline.{Timeline, all_until}
use Rattle.clock.specs.StandsFor.{StandsFor, StandsBefore, at_time, tasks_at}

-- the tasks that sleep until a time

pub tasks_at-same : (m : ℕ) (e : ℕ × ℕ) (xs : List (ℕ × ℕ)) → e.1 ≡ m → tasks_at m (e ∷ xs) ≡ e.0 ∷ tasks_at m xs
tasks_at-same m e xs is = let t : (e.1 == m) ≡ true = eq-eqb e.1 m is in rw t refl

pub tasks_at-other : (m : ℕ) (e : ℕ × ℕ) (xs : List (ℕ × ℕ)) → e.1 ≢ m → tasks_at m (e ∷ xs) ≡ tasks_at m xs
tasks_at-other m e xs ne = let t : (e.1 == m) ≡ false = ne_eqb e.1 m ne in rw t refl

pub tasks_at-later : (m : ℕ) (xs : List (ℕ × ℕ)) → Each (λ e. m < e.1) xs → tasks_at m xs ≡ []
tasks_at-later m [] h = refl
tasks_at-later m (x ∷ xs) h = tasks_at-other m x xs (let lt = h.0 in omega (arith, lt)) ∙ tasks_at-later m xs h.1

pub tasks_at-append : (m : ℕ) (xs ys : List (ℕ × ℕ)) → tasks_at m (xs ++ ys) ≡ tasks_at m xs ++ tasks_at m ys
tasks_at-append m [] ys = refl
tasks_at-append m (x ∷ xs) ys = elim (cases_eq x.1 m) [
  | inl same ↦
      tasks_at-same m x (xs ++ ys) same ∙ ap (λ (ts : List ℕ). x.0 ∷ ts) (tasks_at-append m xs ys)
      ∙ ap (λ (ts : List ℕ). ts ++ tasks_at m ys) (sym (tasks_at-same m x xs same))
  | inr apart ↦
      tasks_at-other m x (xs ++ ys) apart ∙ tasks_at-append m xs ys
      ∙ ap (λ (ts : List ℕ). ts ++ tasks_at m ys) (sym (tasks_at-other m x xs apart))
]

pub tasks_at-all_until : (m : ℕ) (ds : List ℕ) → tasks_at m (all_until m ds) ≡ ds
tasks_at-all_until m [] = refl
tasks_at-all_until m (d ∷ ds) =
    tasks_at-same m (d, m) (all_until m ds) refl ∙ ap (λ (ts : List ℕ). d ∷ ts) (tasks_at-all_until m ds)

-- one more comes last of its wake time
tasks_at-insert_sorted : (m i w : ℕ) (xs : List (ℕ × ℕ)) → IsSorted xs
    → tasks_at m (insert_sorted (i, w) xs) ≡ tasks_at m xs ++ tasks_at m ((i, w) ∷ [])
tasks_at-insert_sorted m i w [] h = refl
tasks_at-insert_sorted m i w (x ∷ xs) h = elim (cases_lt w x.1) [
  | inl less ↦ ap (tasks_at m) (insert_sorted-before i w x xs less) ∙ elim (cases_eq w m) [
    | inl same ↦
        let later : Each (λ e. m < e.1) (x ∷ xs) =
        (omega (arith, same, less), Each-imp (λ e. x.1 ≤ e.1) (λ e. m < e.1) xs (λ e le. omega (arith, le, same, less)) h.0) in
        let none : tasks_at m (x ∷ xs) ≡ [] = tasks_at-later m (x ∷ xs) later in
        tasks_at-append m ((i, w) ∷ []) (x ∷ xs) ∙ ap (λ (ts : List ℕ). tasks_at m ((i, w) ∷ []) ++ ts) none
        ∙ append-nil (tasks_at m ((i, w) ∷ []))
        ∙ ap (λ (ts : List ℕ). ts ++ tasks_at m ((i, w) ∷ [])) (sym none)
    | inr apart ↦
        let none : tasks_at m ((i, w) ∷ []) ≡ [] = tasks_at-other m (i, w) [] apart in
        tasks_at-other m (i, w) (x ∷ xs) apart ∙ sym (append-nil (tasks_at m (x ∷ xs)))
        ∙ ap (λ (ts : List ℕ). tasks_at m (x ∷ xs) ++ ts) (sym none)
  ]
  | inr more ↦
      ap (tasks_at m) (insert_sorted-after i w x xs more) ∙ tasks_at-append m (x ∷ []) (insert_sorted (i, w) xs)
      ∙ ap (λ (ts : List ℕ). tasks_at m (x ∷ []) ++ ts) (tasks_at-insert_sorted m i w xs h.1)
      ∙ sym (append_assoc (tasks_at m (x ∷ [])) (tasks_at m xs) (tasks_at m ((i, w) ∷ [])))
      ∙ ap (λ (ts : List ℕ). ts ++ tasks_at m ((i, w) ∷ [])) (sym (tasks_at-append m (x ∷ []) xs))
]

-- tasks but this one
abbrev pub but : ℕ → List ℕ → List ℕ
but i ts = filter (λ t. not (eqb t i)) ts

pub tasks_at-without : (m i : ℕ) (xs : List (ℕ × ℕ)) → tasks_at m (without i xs) ≡ but i (tasks_at m xs)
tasks_at-without m i [] = refl
tasks_at-without m i (x ∷ xs) = by_test (eqb x.0 i)
    (λ t. by_test (eqb x.1 m)
    (λ u. rw (t, u, t) (tasks_at-without m i xs))
    (λ u. rw (t, u) (tasks_at-without m i xs)))
    (λ t. by_test (eqb x.1 m)
    (λ u. rw (t, u, t) (ap (λ (ts : List ℕ). x.0 ∷ ts) (tasks_at-without m i xs)))
    (λ u. rw (t, u) (tasks_at-without m i xs)))

-- those that are due at a time, by the tasks alone

-- this status ends by itself at this time
abbrev pub is_until : ℕ → Status → Bool
is_until m u = option_eq nat_eq (wake_time_of u) (Some m)

-- the key of a status in the delayed list
abbrev pub delayed_status_key : Status → Option Key
delayed_status_key u = if is_some (wake_time_of u) then option_map (key 0) (ticket_of u) else None

abbrev pub until : List Task → ℕ → Entry → Bool
until ts m e = is_until m (get_or ts e.task no_task).status

abbrev pub due_in : List Task → ℕ → List ℕ
due_in ts m = tasks_of (filter (until ts m) (list_by delayed_key ts))

filter-until : (ts : List Task) (i m : ℕ) (u : Task) (xs : List Entry)
    → AllByRecursion (λ e. e.task ≡ i → ⊥) xs → filter (until (set ts i u) m) xs ≡ filter (until ts m) xs
filter-until ts i m u [] h = refl
filter-until ts i m u (x ∷ xs) h =
    let same : until (set ts i u) m x ≡ until ts m x =
    ap (λ (t : Task). is_until m t.status) (get_or-set_other ts i x.task u no_task h.0) in
    ap₂ (λ (b : Bool) (es : List Entry). cond b (x ∷ es) es) same (filter-until ts i m u xs h.1)

others_apart : (i : ℕ) (xs : List Entry) → AllByRecursion (λ e. e.task ≡ i → ⊥) (filter (other i) xs)
others_apart i [] = tt
others_apart i (x ∷ xs) = by_test (eqb x.task i)
    (λ t. rw t (others_apart i xs))
    (λ t. rw t ((λ e. let y : eqb x.task i ≡ true = rw e (eqb-refl i) in absurd (cc)), others_apart i xs))

tasks_of-others : (p : Entry → Bool) (i : ℕ) (xs : List Entry)
    → tasks_of (filter p (filter (other i) xs)) ≡ but i (tasks_of (filter p xs))
tasks_of-others p i [] = refl
tasks_of-others p i (x ∷ xs) = by_test (eqb x.task i)
    (λ t. by_test (p x)
    (λ u. rw (t, u, t) (tasks_of-others p i xs))
    (λ u. rw (t, u) (tasks_of-others p i xs)))
    (λ t. by_test (p x)
    (λ u. rw (t, u, t) (ap (λ (ts : List ℕ). x.task ∷ ts) (tasks_of-others p i xs)))
    (λ u. rw (t, u) (tasks_of-others p i xs)))

-- a task is_asleep no more
pub due_in-gone : (ts : List Task) (i m : ℕ) (u : Task) → i < length ts
    → delayed_key u ≡ None → due_in (set ts i u) m ≡ but i (due_in ts m)
due_in-gone ts i m u l none =
    ap (λ (es : List Entry). tasks_of (filter (until (set ts i u) m) es)) (list-gone delayed_key i u ts l none)
    ∙ ap tasks_of (filter-until ts i m u (filter (other i) (list_by delayed_key ts)) (others_apart i (list_by delayed_key ts)))
    ∙ tasks_of-others (until ts m) i (list_by delayed_key ts)

filter-last : (p : Entry → Bool) (xs : List Entry) (e : Entry)
    → tasks_of (filter p (xs ++ e ∷ [])) ≡ tasks_of (filter p xs) ++ tasks_of (filter p (e ∷ []))
filter-last p [] e = refl
filter-last p (x ∷ xs) e = by_test (p x)
    (λ t. rw t (ap (λ (ts : List ℕ). x.task ∷ ts) (filter-last p xs e)))
    (λ t. rw t (filter-last p xs e))

all_before : (n : ℕ) (i : ℕ) (xs : List Entry) → AllByRecursion (λ e. e.key.ticket < n) xs
    → AllByRecursion (IsAfterEntry (entry i (key 0 n))) xs
all_before n i [] h = tt
all_before n i (x ∷ xs) h = (record { low = omega arith; late = λ le. let lt = h.0 in omega (arith, lt) }, all_before n i xs h.1)

-- a task begins to sleep
pub due_in-entered : (ts : List Task) (n i m w : ℕ) (u : Task) → AllTicketsBelow n ts → i < length ts
    → delayed_key (get_or ts i no_task) ≡ None → wake_time_of u.status ≡ Some w
    → delayed_status_key u.status ≡ Some (key 0 n) → due_in (set ts i u) m ≡ due_in ts m ++ tasks_at m ((i, w) ∷ [])
due_in-entered ts n i m w u tickets l none wakes is =
    let b = below_delayed n ts tickets in
    let here : AllByRecursion (λ e. e.task ≡ i → ⊥) (list_by delayed_key ts) = list_without delayed_key i ts none in
    let new : list_by delayed_key (set ts i u) ≡ list_by delayed_key ts ++ entry i (key 0 n) ∷ [] =
    list-entered delayed_key (key 0 n) i u ts l is b
    ∙ ap (put (entry i (key 0 n))) (filter-without i (list_by delayed_key ts) here)
    ∙ put_last (entry i (key 0 n)) (list_by delayed_key ts)
    (all_before n i (list_by delayed_key ts) (list_below delayed_key n ts b)) in
    let until_now : until (set ts i u) m (entry i (key 0 n)) ≡ (w == m) =
    ap (λ (t : Task). is_until m t.status) (get_or-set_same ts i u no_task l) ∙ ap (λ o. option_eq nat_eq o (Some m)) wakes in
    ap (λ (es : List Entry). tasks_of (filter (until (set ts i u) m) es)) new
    ∙ filter-last (until (set ts i u) m) (list_by delayed_key ts) (entry i (key 0 n))
    ∙ ap₂ (λ (xs ys : List ℕ). xs ++ ys)
    (ap tasks_of (filter-until ts i m u (list_by delayed_key ts) here))
    (by_test (w == m)
    (λ t. let v = until_now ∙ t in rw (v, t) refl)
    (λ t. let v = until_now ∙ t in rw (v, t) refl))

-- a task goes to sleep

pub asleep_none : (u : Status) → is_some (ticket_if_ready u) ≡ true → delayed_status_key u ≡ None
asleep_none (Ready n) t = refl
asleep_none (Awake w) t = absurd cc
asleep_none (Waiting w) t = absurd cc
asleep_none (Asleep m b) t = absurd cc
asleep_none (WaitingForBits g m d) t = absurd cc
asleep_none (WaitingForNotification m d) t = absurd cc
asleep_none Suspended t = refl
asleep_none Ended t = refl

stands_asleep : (t : Timeline) (s : State) (i w : ℕ) → StandsFor t s → has_node i t.delayed_list ≡ false → i < length s.tasks
    → is_ready s i ≡ true → StandsFor (record t { delayed_list = insert_sorted (i, w) t.delayed_list }) (sleep i w s)
unfolding sleep
stands_asleep t s i w h awake l ready =
    let u : Task = record (task_at s i) { status = Asleep w s.next_ticket } in
    let none : delayed_key (task_at s i) ≡ None = asleep_none (task_at s i).status ready in
    rw ready (record {
      now = h.now;
      age = h.age;
      held = h.held;
      sorted = IsSorted-insert_sorted i w t.delayed_list h.sorted;
      once = EachOnce-insert_sorted i w t.delayed_list (apart_from_test i t.delayed_list awake) h.once;
      delayed = λ m.
          tasks_at-insert_sorted m i w t.delayed_list h.sorted ∙ ap (λ (ts : List ℕ). ts ++ tasks_at m ((i, w) ∷ [])) (h.delayed m)
          ∙ sym (due_in-entered s.tasks s.next_ticket i m w u h.table.tickets l none refl refl);
      table = table-taken s i (Asleep w) h.table (omega arith);
    })

-- a task that waits until a time already is put into its place
pub stands_placed : (t new : Timeline) (s : State) (i w : ℕ) → new.now ≡ t.now → new.age ≡ t.age
    → new.held ≡ t.held → new.delayed_list ≡ insert_sorted (i, w) t.delayed_list
    → has_node i t.delayed_list ≡ false → StandsBefore i (Some w) t s → StandsFor new s
stands_placed t new s i w now age held sleepers awake h = record {
  now = now ∙ h.now;
  age = ap₂ (λ (a b : ℕ). a + b) age held ∙ h.age;
  held = held ∙ h.held;
  sorted = subst IsSorted (sym sleepers) (IsSorted-insert_sorted i w t.delayed_list h.sorted);
  once = subst EachOnce (sym sleepers) (EachOnce-insert_sorted i w t.delayed_list (apart_from_test i t.delayed_list awake) h.once);
  delayed = λ m. ap (tasks_at m) sleepers ∙ tasks_at-insert_sorted m i w t.delayed_list h.sorted ∙ h.delayed m;
  table = h.table;
}

-- one that waits for ever has no place among the sleepers
pub append-none : (xs : List ℕ) → xs ≡ xs ++ []
append-none xs = sym (append-nil xs)

-- the same of a time of these parts
pub same_parts : (t new : Timeline) (s : State) → new.now ≡ t.now → new.age ≡ t.age
    → new.held ≡ t.held → new.delayed_list ≡ t.delayed_list → StandsFor t s → StandsFor new s
same_parts t new s now age held sleepers h = record {
  now = now ∙ h.now;
  age = ap₂ (λ (a b : ℕ). a + b) age held ∙ h.age;
  held = held ∙ h.held;
  sorted = subst IsSorted (sym sleepers) h.sorted;
  once = subst EachOnce (sym sleepers) h.once;
  delayed = λ m. ap (tasks_at m) sleepers ∙ h.delayed m;
  table = h.table;
}

pub stands_slept : (old new : Timeline) (s : State) (i ticks : ℕ) → new.now ≡ old.now → new.age ≡ old.age → new.held ≡ old.held
    → new.delayed_list ≡ insert_sorted (i, old.now + ticks) old.delayed_list → has_node i old.delayed_list ≡ false
    → StandsFor old s → i < length s.tasks → is_ready s i ≡ true → StandsFor new (sleep i (s.time + ticks) s)
stands_slept old new s i ticks now age held sleepers awake h l ready =
    let wake_time : old.now + ticks ≡ s.time + ticks = ap (λ (n : ℕ). n + ticks) h.now in
    same_parts (record old { delayed_list = insert_sorted (i, s.time + ticks) old.delayed_list })
    new (sleep i (s.time + ticks) s) now age held
    (sleepers ∙ ap (λ (m : ℕ). insert_sorted (i, m) old.delayed_list) wake_time)
    (stands_asleep old s i (s.time + ticks) h awake l ready)

-- a task is woken

-- the ticks since reset, and those of them that are held
abbrev pub ticks_of : State → ℕ × ℕ
ticks_of s = (s.elapsed, s.held_ticks)

pub stands_woken : (t : Timeline) (s new : State) (i : ℕ) (u : Task) → StandsFor t s → i < length s.tasks
    → new.tasks ≡ set s.tasks i u → new.time ≡ s.time → ticks_of new ≡ ticks_of s → delayed_key u ≡ None
    → IsTable new → StandsFor (record t { delayed_list = without i t.delayed_list }) new
stands_woken t s new i u h l is time ticks none table = record {
  now = h.now ∙ sym time;
  age = h.age ∙ sym (ap (λ (p : ℕ × ℕ). p.0) ticks);
  held = h.held ∙ sym (ap (λ (p : ℕ × ℕ). p.1) ticks);
  sorted = IsSorted-without i t.delayed_list h.sorted;
  once = EachOnce-without i t.delayed_list h.once;
  delayed = λ m.
      tasks_at-without m i t.delayed_list ∙ ap (but i) (h.delayed m)
      ∙ sym (ap (λ (ts : List Task). due_in ts m) is ∙ due_in-gone s.tasks i m u l none);
  table = table;
}

-- a task changes and neither falls asleep nor wakes

pub record SleepsAlike (a b : Status) : Type 0 where
  pub key : delayed_status_key a ≡ delayed_status_key b
  pub wake_time : wake_time_of a ≡ wake_time_of b

pub due_in-kept : (ts : List Task) (i m : ℕ) (u : Task) → i < length ts
    → SleepsAlike u.status (get_or ts i no_task).status → due_in (set ts i u) m ≡ due_in ts m
due_in-kept ts i m u l same =
    ap (λ (es : List Entry). tasks_of (filter (until (set ts i u) m) es)) (list-kept delayed_key i u ts same.key)
    ∙ ap tasks_of (all_same (list_by delayed_key ts)) where
      until_same : (e : Entry) → until (set ts i u) m e ≡ until ts m e
      until_same e = elim (cases_eq e.task i) [
        | inl here ↦
            ap (λ (k : ℕ). is_until m (get_or (set ts i u) k no_task).status) here
            ∙ ap (λ (t : Task). is_until m t.status) (get_or-set_same ts i u no_task l)
            ∙ ap (λ (o : Option ℕ). option_eq nat_eq o (Some m)) same.wake_time
            ∙ ap (λ (k : ℕ). is_until m (get_or ts k no_task).status) (sym here)
        | inr apart ↦ ap (λ (t : Task). is_until m t.status) (get_or-set_other ts i e.task u no_task apart)
      ]

      all_same : (es : List Entry) → filter (until (set ts i u) m) es ≡ filter (until ts m) es
      all_same [] = refl
      all_same (e ∷ es) = ap₂ (λ (b : Bool) (fs : List Entry). cond b (e ∷ fs) fs) (until_same e) (all_same es)

pub stands_kept : (t : Timeline) (s new : State) (i : ℕ) (u : Task) → StandsFor t s
    → i < length s.tasks → new.tasks ≡ set s.tasks i u → new.time ≡ s.time → ticks_of new ≡ ticks_of s
    → SleepsAlike u.status (task_at s i).status → IsTable new → StandsFor t new
stands_kept t s new i u h l is time ticks same table = record {
  now = h.now ∙ sym time;
  age = h.age ∙ sym (ap (λ (p : ℕ × ℕ). p.0) ticks);
  held = h.held ∙ sym (ap (λ (p : ℕ × ℕ). p.1) ticks);
  sorted = h.sorted;
  once = h.once;
  delayed = λ m. h.delayed m ∙ sym (ap (λ (ts : List Task). due_in ts m) is ∙ due_in-kept s.tasks i m u l same);
  table = table;
}

-- the same while a task is still to be placed
pub stands_before_kept : (t : Timeline) (s new : State) (i j : ℕ) (deadline : Option ℕ) (u : Task)
    → StandsBefore i deadline t s → j < length s.tasks → new.tasks ≡ set s.tasks j u → new.time ≡ s.time
    → ticks_of new ≡ ticks_of s → SleepsAlike u.status (task_at s j).status → IsTable new → StandsBefore i deadline t new
stands_before_kept t s new i j deadline u h l is time ticks same table = record {
  now = h.now ∙ sym time;
  age = h.age ∙ sym (ap (λ (p : ℕ × ℕ). p.0) ticks);
  held = h.held ∙ sym (ap (λ (p : ℕ × ℕ). p.1) ticks);
  sorted = h.sorted;
  once = h.once;
  delayed = λ m. h.delayed m ∙ sym (ap (λ (ts : List Task). due_in ts m) is ∙ due_in-kept s.tasks j m u l same);
  awake = h.awake;
  table = table;
}

-- a tick passes

first_due : (ts : List Task) (p : Entry → Bool) (d : ℕ) (ds : List ℕ) (es : List Entry)
    → AllByRecursion (HasKey delayed_key ts) es → tasks_of (filter p es) ≡ d ∷ ds → d < length ts
first_due ts p d ds [] h e = absurd cc
first_due ts p d ds (x ∷ xs) h e = by_test (p x)
    (λ t. let f = rw t at e in let is : x.task ≡ d = cc in subst (λ (k : ℕ). k < length ts) is h.0.within)
    (λ t. let f = rw t at e in first_due ts p d ds xs h.1 f)

-- those that are due wake, one after another
pub all_woken : (ds : List ℕ) (t : Timeline) (rest : List (ℕ × ℕ)) (s : State) → StandsFor t s
    → t.delayed_list ≡ all_until t.now ds ++ rest → StandsFor (record t { delayed_list = rest }) (for_each make_ready ds s)
all_woken [] t rest s h is = subst (λ (es : List (ℕ × ℕ)). StandsFor (record t { delayed_list = es }) s) is h
all_woken (d ∷ ds) t rest s h is =
    let later = all_until t.now ds ++ rest in
    let u : Task = record (task_at s d) { status = Ready s.next_ticket } in
    let now_due : tasks_of (due (at_time s t.now)) ≡ d ∷ tasks_at t.now later =
    sym (h.delayed t.now) ∙ ap (tasks_at t.now) is ∙ tasks_at-same t.now (d, t.now) later refl in
    let l : d < length s.tasks =
    first_due s.tasks (until s.tasks t.now) d (tasks_at t.now later)
    (list_by delayed_key s.tasks) (list_has delayed_key s.tasks) now_due in
    let once : EachOnce ((d, t.now) ∷ later) = subst EachOnce is h.once in
    let left : without d t.delayed_list ≡ later =
    ap (without d) is ∙ without-same d (d, t.now) later refl ∙ without-apart d later once.0 in
    let one = stands_woken t s (make_ready d s) d u h l refl refl refl refl (table-make_ready s d h.table) in
    let next : StandsFor (record t { delayed_list = later }) (make_ready d s) =
    subst (λ (es : List (ℕ × ℕ)). StandsFor (record t { delayed_list = es }) (make_ready d s)) left one in
    all_woken ds (record t { delayed_list = later }) rest (make_ready d s) next refl
