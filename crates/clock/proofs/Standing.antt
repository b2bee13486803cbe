-- Each change of the sleepers is a deed of the definitions.
use Rattle.std.proofs.Common.{◌≡◌, ◌≢◌, ℕ, ◌+◌, ◌-◌, ◌<◌, inl, inr, Bool, true, false, not, Option, Some, None, List, []}
use Rattle.std.proofs.Common.{◌∷◌, ◌++◌, get_or, set, length, sym, ◌∙◌, ap, ap₂, subst, arith, refl, eqb, append-nil}
use Rattle.std.specs.Prelude.{◌==◌, ◌||◌, nat_eq, if◌then◌else◌}
use Rattle.std.specs.List.{AllByRecursion, IsDistinct, filter, list_any}
use Rattle.std.specs.Option.{IfSome, is_some, option_eq, option_map}
use Rattle.std.proofs.Math.ListN.{length-set}
use Rattle.std.proofs.lemmas.Bool.{cases_eq, eq-eqb, ne_eqb}
use Rattle.std.proofs.lemmas.List.{get_or-set_same}
use Rattle.std.proofs.lemmas.List.Elements.{filter-append}
use Rattle.model.specs.State.{State, Status, Task, Ready, Awake, Waiting, Asleep, WaitingForBits, WaitingForNotification, Suspended}
use Rattle.model.specs.State.{Ended, for_each}
use Rattle.model.specs.State.{no_task, status_at, task_at, progress_at, call_at, with_call, take_ticket, ticket_if_ready, ticket_of}
use Rattle.model.specs.State.{wake_time_of, with_status}
use Rattle.model.specs.Order.{Entry, key, list_by, tasks_of}
use Rattle.model.specs.Switching.{holds_ticks, is_ready, make_ready}
use Rattle.model.specs.Time.{advance, delayed_key, due, increment_tick, jump, wake_due}
use Rattle.model.specs.Invariant.{HasTicketBelow, IsTable}
use Rattle.model.proofs.Sorting.{by_test}
use Rattle.model.proofs.Lists.{eqb-refl}
use Rattle.model.proofs.Lists.{other}
use Rattle.model.proofs.Members.{has_task, has_task-key}
use Rattle.model.specs.declared.call.CallProgress.{CallProgress}
use Rattle.model.specs.declared.call.WaitList.{WaitList}
use Rattle.model.specs.Waiting.{wait_in}
use Rattle.model.specs.Groups.{wait_for_bits}
use Rattle.model.specs.Notifications.{wait_for_notification}
use Rattle.model.proofs.Statuses.{ready_awake}
use Rattle.model.proofs.Tables.{table-make_ready, table-set, table-taken, ticket_at}
use Rattle.lists.specs.Lists.{Each, EachOnce, IsSorted, has_node, without}
use Rattle.lists.proofs.Entries.{EachOnce-without, IsSorted-without}
use Rattle.lists.proofs.Entries.{has_node-other, has_node-same, has_node-without_other, has_or_not}
use Rattle.clock.specs.Timeline.{Advances, Jumps, Timeline, all_until, is_asleep, timeline_of}
use Rattle.clock.specs.StandsFor.{StandsFor, StandsBefore, before_held, at_next_tick, at_jump, tasks_at, with_deadline}
use Rattle.clock.proofs.Sleepers.{tasks_at-same, tasks_at-other, tasks_at-later, tasks_at-append, tasks_at-all_until, but}
use Rattle.clock.proofs.Sleepers.{tasks_at-without, is_until, delayed_status_key, until, due_in, due_in-gone, due_in-entered}
use Rattle.clock.proofs.Sleepers.{asleep_none, append-none, same_parts, stands_woken, SleepsAlike, due_in-kept, stands_kept}
use Rattle.clock.proofs.Sleepers.{all_woken}

-- ---- ticks pass

-- the sleepers when this many have passed, before anyone wakes
stands_jump : (ticks : ℕ) (old new : Timeline) (s : State) (ds : List ℕ) → Jumps ticks old new ds
    → StandsFor old s → StandsFor (record new { delayed_list = old.delayed_list }) (at_jump ticks s)
stands_jump ticks old new s ds a h =
    let age = h.age in
    let grown = a.age in
    let same = a.held in
    record {
      now = a.now ∙ ap (λ (n : ℕ). n + ticks) h.now;
      age = omega (arith, age, grown, same);
      held = a.held ∙ h.held;
      sorted = h.sorted;
      once = h.once;
      delayed = h.delayed;
      table = record { tickets = h.table.tickets; few = h.table.few; current = h.table.current; holders = h.table.holders };
    }

pub due_jump : (ticks : ℕ) (old new : Timeline) (s : State) (ds : List ℕ)
    → Jumps ticks old new ds → StandsFor old s → ds ≡ tasks_of (due (at_jump ticks s))
due_jump ticks old new s ds a h =
    let time : new.now ≡ s.time + ticks = a.now ∙ ap (λ (n : ℕ). n + ticks) h.now in
    sym (append-nil ds)
    ∙ ap₂ (λ (xs ys : List ℕ). xs ++ ys) (sym (tasks_at-all_until new.now ds))
    (sym (tasks_at-later new.now new.delayed_list a.later))
    ∙ sym (tasks_at-append new.now (all_until new.now ds) new.delayed_list)
    ∙ ap (tasks_at new.now) (sym a.delayed)
    ∙ h.delayed new.now
    ∙ ap (λ (m : ℕ). due_in s.tasks m) time

-- they come at once
pub stands_jumped : (ticks : ℕ) (old new : Timeline) (s : State) (ds : List ℕ)
    → Jumps ticks old new ds → StandsFor old s → StandsFor new (jump ticks s)
unfolding jump wake_due
stands_jumped ticks old new s ds a h =
    let woken =
    all_woken ds (record new { delayed_list = old.delayed_list }) new.delayed_list
    (at_jump ticks s) (stands_jump ticks old new s ds a h) a.delayed in
    subst (λ (es : List ℕ). StandsFor new (for_each make_ready es (at_jump ticks s))) (due_jump ticks old new s ds a h) woken

pub due_next : (old new : Timeline) (s : State) (ds : List ℕ)
    → Advances old new ds → StandsFor old s → ds ≡ tasks_of (due (at_next_tick s))
due_next old new s ds a h = due_jump 1 old new s ds a h

-- a tick comes and isn't held
pub stands_advanced : (old new : Timeline) (s : State) (ds : List ℕ) → Advances old new ds
    → StandsFor old s → holds_ticks s ≡ false → StandsFor new (increment_tick s)
unfolding increment_tick advance jump wake_due
stands_advanced old new s ds a h free = rw free (stands_jumped 1 old new s ds a h)

-- the clock, where this many ticks are held
abbrev pub holding : Timeline → ℕ → Timeline
holding t held = record t { held = held }

-- Another number is held, which is made of the one before.
pub held_now : (ls : List (List (ℕ × ℕ))) (age base tick current overflow held n : ℕ) (old : Timeline)
    → timeline_of ls age held base tick current overflow ≡ old → (f : ℕ → ℕ) → n ≡ f held
    → timeline_of ls age n base tick current overflow ≡ holding old (f old.held)
held_now ls age base tick current overflow held n old is f e =
    ap (λ (m : ℕ). timeline_of ls age m base tick current overflow) e ∙ ap (λ (t : Timeline). holding t (f t.held)) is

-- a tick comes and is held
pub stands_held : (t : Timeline) (s : State) → StandsFor t s
    → holds_ticks s ≡ true → StandsFor (holding t (t.held + 1)) (increment_tick s)
unfolding increment_tick
stands_held t s h on =
    let age = h.age in
    rw on (record {
      now = h.now;
      age = omega (arith, age);
      held = ap (λ (n : ℕ). n + 1) h.held;
      sorted = h.sorted;
      once = h.once;
      delayed = h.delayed;
      table = record { tickets = h.table.tickets; few = h.table.few; current = h.table.current; holders = h.table.holders };
    })

-- so it does while a task is still to be placed
pub before_tick_held : (t : Timeline) (s : State) (task : ℕ) (deadline : Option ℕ) → StandsBefore task deadline t s
    → holds_ticks s ≡ true → StandsBefore task deadline (holding t (t.held + 1)) (increment_tick s)
unfolding increment_tick
before_tick_held t s task deadline h on =
    let age = h.age in
    rw on (record {
      now = h.now;
      age = omega (arith, age);
      held = ap (λ (n : ℕ). n + 1) h.held;
      sorted = h.sorted;
      once = h.once;
      delayed = h.delayed;
      awake = h.awake;
      table = record { tickets = h.table.tickets; few = h.table.few; current = h.table.current; holders = h.table.holders };
    })

-- or it hasn't come yet
pub stands_released : (t : Timeline) (s : State) → StandsFor t s → 0 < t.held → StandsFor (holding t (t.held - 1)) (before_held s)
stands_released t s h some = record {
  now = h.now;
  age = let e = h.age in omega arith;
  held = let e = h.held in omega arith;
  sorted = h.sorted;
  once = h.once;
  delayed = h.delayed;
  table = record { tickets = h.table.tickets; few = h.table.few; current = h.table.current; holders = h.table.holders };
}

-- who is due is asleep before the tick, and comes once

or-true : (b : Bool) → (b || true) ≡ true
or-true true = refl
or-true false = refl

due_asleep-all : (m : ℕ) (ds : List ℕ) (rest : List (ℕ × ℕ)) → Each (λ d. has_node d (all_until m ds ++ rest) ≡ true) ds
due_asleep-all m [] rest = tt
due_asleep-all m (d ∷ ds) rest = (
  has_node-same d (d, m) (all_until m ds ++ rest) refl,
  Each-weaker d ds (due_asleep-all m ds rest),
) where
  Each-weaker : (d : ℕ) (es : List ℕ) → Each (λ e. has_node e (all_until m ds ++ rest) ≡ true) es
      → Each (λ e. has_node e ((d, m) ∷ all_until m ds ++ rest) ≡ true) es
  Each-weaker d [] h = tt
  Each-weaker d (e ∷ es) h = (ap (λ (b : Bool). d == e || b) h.0 ∙ or-true (d == e), Each-weaker d es h.1)

pub due_asleep : (ticks : ℕ) (old new : Timeline) (ds : List ℕ) → Jumps ticks old new ds → Each (λ d. is_asleep old d ≡ true) ds
due_asleep ticks old new ds a =
    subst (λ (es : List (ℕ × ℕ)). Each (λ d. has_node d es ≡ true) ds) (sym a.delayed) (due_asleep-all new.now ds new.delayed_list)

due_once-all : (m : ℕ) (ds : List ℕ) (rest : List (ℕ × ℕ)) → EachOnce (all_until m ds ++ rest) → IsDistinct eqb ds
unfolding IsDistinct
due_once-all m [] rest h = tt
due_once-all m (d ∷ ds) rest h = (each ds h.0, due_once-all m ds rest h.1) where
  each : (es : List ℕ) → Each (λ e. Some d ≢ Some e.0) (all_until m es ++ rest) → AllByRecursion (λ e. eqb d e ≡ false) es
  each [] k = tt
  each (e ∷ es) k = (ne_eqb d e (λ i. k.0 (ap Some i)), each es k.1)

pub due_once : (ticks : ℕ) (old new : Timeline) (ds : List ℕ)
    → Jumps ticks old new ds → EachOnce old.delayed_list → IsDistinct eqb ds
due_once ticks old new ds a once = due_once-all new.now ds new.delayed_list (subst EachOnce a.delayed once)

-- who is asleep has a wake time

abbrev pub among : ℕ → List ℕ → Bool
among i ts = list_any (λ t. t == i) ts

-- a sleeper sleeps until some time
pub node-at : (i : ℕ) (xs : List (ℕ × ℕ)) → has_node i xs ≡ true → (m : ℕ) × (among i (tasks_at m xs) ≡ true)
node-at i [] h = absurd cc
node-at i (x ∷ xs) h = elim (cases_eq x.0 i) [
  | inl same ↦ (x.1, ap (among i) (tasks_at-same x.1 x xs refl) ∙ (let t : (x.0 == i) ≡ true = eq-eqb x.0 i same in rw t refl))
  | inr apart ↦
      let r = node-at i xs (sym (has_node-other i x xs apart) ∙ h) in (
        r.0,
        elim (cases_eq x.1 r.0) [
          | inl now ↦ ap (among i) (tasks_at-same r.0 x xs now) ∙ ap (λ (b : Bool). x.0 == i || b) r.1 ∙ or-true (x.0 == i)
          | inr other_time ↦ ap (among i) (tasks_at-other r.0 x xs other_time) ∙ r.1
        ],
      )
]

at-node : (i m : ℕ) (xs : List (ℕ × ℕ)) → among i (tasks_at m xs) ≡ true → has_node i xs ≡ true
at-node i m [] h = absurd cc
at-node i m (x ∷ xs) h = elim (cases_eq x.0 i) [
  | inl same ↦ has_node-same i x xs same
  | inr apart ↦ has_node-other i x xs apart ∙ at-node i m xs (elim (cases_eq x.1 m) [
    | inl now ↦
        let t : (x.0 == i) ≡ false = ne_eqb x.0 i apart in
        let u = sym (ap (among i) (tasks_at-same m x xs now)) ∙ h in
        rw t at u
    | inr other_time ↦ sym (ap (among i) (tasks_at-other m x xs other_time)) ∙ h
  ])
]

-- who is due at a time has it as wake time, and the other way round
pub due-until : (ts : List Task) (i m : ℕ) (es : List Entry)
    → among i (tasks_of (filter (until ts m) es)) ≡ true → is_until m (get_or ts i no_task).status ≡ true
due-until ts i m [] h = absurd cc
due-until ts i m (e ∷ es) h = by_test (until ts m e)
    (λ t. elim (cases_eq e.task i) [
      | inl same ↦ subst (λ (k : ℕ). is_until m (get_or ts k no_task).status ≡ true) same t
      | inr apart ↦
          let n : (e.task == i) ≡ false = ne_eqb e.task i apart in
          due-until ts i m es (rw (t, n) at h)
    ])
    (λ t. due-until ts i m es (rw t at h))

until-due : (ts : List Task) (i m : ℕ) (es : List Entry) → has_task i es ≡ true
    → is_until m (get_or ts i no_task).status ≡ true → among i (tasks_of (filter (until ts m) es)) ≡ true
until-due ts i m [] h u = absurd cc
until-due ts i m (e ∷ es) h u = elim (cases_eq e.task i) [
  | inl same ↦
      let t : until ts m e ≡ true = subst (λ (k : ℕ). is_until m (get_or ts k no_task).status ≡ true) (sym same) u in
      let n : (e.task == i) ≡ true = eq-eqb e.task i same in
      rw (t, n) refl
  | inr apart ↦
      let n : eqb e.task i ≡ false = ne_eqb e.task i apart in
      let later = until-due ts i m es (rw n at h) u in
      by_test (until ts m e)
      (λ t. rw t (ap (λ (b : Bool). e.task == i || b) later ∙ or-true (e.task == i)))
      (λ t. rw t later)
]

some_until : (o : Option ℕ) (m : ℕ) → option_eq nat_eq o (Some m) ≡ true → is_some o ≡ true
some_until None m t = absurd cc
some_until (Some w) m t = refl

delayed_until : (deadline : Option ℕ) (ticket w : ℕ) → deadline ≡ Some w
    → (if is_some deadline then Some (key 0 ticket) else None) ≡ Some (key 0 ticket)
delayed_until None ticket w e = absurd cc
delayed_until (Some d) ticket w e = refl

some_time : (o : Option ℕ) → is_some o ≡ true → (w : ℕ) × (o ≡ Some w)
some_time None t = absurd cc
some_time (Some w) t = (w, refl)

-- a task that sleeps by its status is in the delayed list
sleeper_until : (t : Timeline) (s : State) (i w n : ℕ) (u : Status) → StandsFor t s → status_at s i ≡ u
    → wake_time_of u ≡ Some w → delayed_status_key u ≡ Some (key 0 n) → has_node i t.delayed_list ≡ true
sleeper_until t s i w n u h is until keyed =
    let has : has_task i (list_by delayed_key s.tasks) ≡ true =
    has_task-key delayed_key refl i (key 0 n) s.tasks (ap delayed_status_key is ∙ keyed) in
    let now : is_until w (get_or s.tasks i no_task).status ≡ true =
    ap (is_until w) is ∙ ap (λ o. option_eq nat_eq o (Some w)) until ∙ eqb-refl w in
    at-node i w t.delayed_list (ap (among i) (h.delayed w) ∙ until-due s.tasks i w (list_by delayed_key s.tasks) has now)

sleeper_in : (t : Timeline) (s : State) (i : ℕ) (u : Status) → StandsFor t s
    → status_at s i ≡ u → is_some (wake_time_of u) ≡ true → has_node i t.delayed_list ≡ true
sleeper_in t s i (Asleep w n) h is some = sleeper_until t s i w n (Asleep w n) h is refl refl
sleeper_in t s i (Waiting x) h is some =
    let d = some_time x.deadline some in
    sleeper_until t s i d.0 x.ticket (Waiting x) h is d.1 (delayed_until x.deadline x.ticket d.0 d.1)
sleeper_in t s i (Awake x) h is some =
    let d = some_time x.deadline some in
    sleeper_until t s i d.0 x.ticket (Awake x) h is d.1 (delayed_until x.deadline x.ticket d.0 d.1)
sleeper_in t s i (Ready n) h is some = absurd cc
sleeper_in t s i (WaitingForBits g n d) h is some =
    let u = some_time d some in
    sleeper_until t s i u.0 n (WaitingForBits g n d) h is u.1 (delayed_until d n u.0 u.1)
sleeper_in t s i (WaitingForNotification n d) h is some =
    let u = some_time d some in
    sleeper_until t s i u.0 n (WaitingForNotification n d) h is u.1 (delayed_until d n u.0 u.1)
sleeper_in t s i Suspended h is some = absurd cc
sleeper_in t s i Ended h is some = absurd cc

pub asleep_same : (t : Timeline) (s : State) (i : ℕ) → StandsFor t s → is_asleep t i ≡ is_some (wake_time_of (status_at s i))
asleep_same t s i h = elim (has_or_not i t.delayed_list) [
  | inl has ↦
      let r = node-at i t.delayed_list has in
      has
      ∙ sym (some_until (wake_time_of (status_at s i)) r.0
      (due-until s.tasks i r.0 (list_by delayed_key s.tasks) (sym (ap (among i) (h.delayed r.0)) ∙ r.1)))
  | inr none ↦ by_test (is_some (wake_time_of (status_at s i)))
      (λ some. absurd (let has = sleeper_in t s i (status_at s i) h refl some in cc))
      (λ t. none ∙ sym t)
]

-- ---- a wait begins

-- A Ready task begins to wait, with a status of this form, and the sleepers stay until it is placed.
module _ (t : Timeline) (s : State) (i : ℕ) (h : StandsFor t s) (l : i < length s.tasks) (ready : is_ready s i ≡ true)
    (status : ℕ → Option ℕ → Status) (timed : (n : ℕ) (d : Option ℕ) → wake_time_of (status n d) ≡ d)
    (numbered : (n : ℕ) (d : Option ℕ) → ticket_of (status n d) ≡ Some n) where
  waiting : Option ℕ → Task
  waiting deadline = record (task_at s i) { status = status s.next_ticket deadline }

  delayed_by : (deadline : Option ℕ)
      → delayed_key (waiting deadline) ≡ (if is_some deadline then Some (key 0 s.next_ticket) else None)
  unfolding waiting
  delayed_by deadline =
      ap₂ (λ (w n : Option ℕ). if is_some w then option_map (key 0) n else None)
      (timed s.next_ticket deadline) (numbered s.next_ticket deadline)

  due-waiting : (deadline : Option ℕ) (m : ℕ)
      → tasks_at m t.delayed_list ++ tasks_at m (with_deadline i deadline) ≡ due_in (set s.tasks i (waiting deadline)) m
  unfolding waiting
  due-waiting None m =
      let alike : SleepsAlike (waiting None).status (task_at s i).status =
      record {
        key = delayed_by None ∙ sym (asleep_none (task_at s i).status ready);
        wake_time = timed s.next_ticket None ∙ sym (ready_awake (task_at s i).status ready);
      } in
      sym (append-none (tasks_at m t.delayed_list)) ∙ h.delayed m ∙ sym (due_in-kept s.tasks i m (waiting None) l alike)
  due-waiting (Some w) m =
      ap (λ (ts : List ℕ). ts ++ tasks_at m ((i, w) ∷ [])) (h.delayed m)
      ∙ sym (due_in-entered s.tasks s.next_ticket i m w (waiting (Some w)) h.table.tickets l
      (asleep_none (task_at s i).status ready) (timed s.next_ticket (Some w)) (delayed_by (Some w)))

  waits : (deadline : Option ℕ) → StandsBefore i deadline t (take_ticket i (λ ticket. status ticket deadline) s)
  unfolding waiting
  waits deadline =
      let below : HasTicketBelow (s.next_ticket + 1) (status s.next_ticket deadline) =
      subst (λ (o : Option ℕ). IfSome o (λ ticket. ticket < s.next_ticket + 1))
      (sym (numbered s.next_ticket deadline)) (omega arith) in
      record {
        now = h.now;
        age = h.age;
        held = h.held;
        sorted = h.sorted;
        once = h.once;
        delayed = due-waiting deadline;
        awake = asleep_same t s i h ∙ ap (λ (o : Option ℕ). is_some o) (ready_awake (status_at s i) ready);
        table = table-taken s i (λ ticket. status ticket deadline) h.table below;
      }

pub stands_waiting : (t : Timeline) (s : State) (i : ℕ) (list : WaitList) → StandsFor t s
    → i < length s.tasks → is_ready s i ≡ true → StandsBefore i (call_at s i).deadline t (wait_in i list s)
unfolding wait_in
stands_waiting t s i list h l ready =
    let call : CallProgress = record (call_at s i) { waits = true } in
    let u : Task = record (task_at s i) { progress = record (progress_at s i) { call = call } } in
    let s1 : State = with_call i call s in
    let at : task_at s1 i ≡ u = get_or-set_same s.tasks i u no_task l in
    let table : IsTable s1 = table-set s i u h.table (ticket_at s.next_ticket i s.tasks h.table.tickets) in
    let h1 : StandsFor t s1 = stands_kept t s s1 i u h l refl refl refl (record { key = refl; wake_time = refl }) table in
    let ready1 : is_ready s1 i ≡ true = ap (λ (v : Task). is_some (ticket_if_ready v.status)) at ∙ ready in
    let priority : ℕ = (task_at s i).priority in
    waits t s1 i h1 (rw length-set l) ready1
    (λ ticket deadline. Waiting (record { list = list; priority = priority; ticket = ticket; deadline = deadline }))
    (λ n d. refl) (λ n d. refl) (call_at s i).deadline

-- The same, for bits.
pub stands_waiting_bits : (t : Timeline) (s : State) (i group : ℕ) → StandsFor t s → i < length s.tasks
    → is_ready s i ≡ true → StandsBefore i (call_at s i).deadline t (wait_for_bits i group s)
unfolding wait_for_bits
stands_waiting_bits t s i group h l ready =
    waits t s i h l ready (λ ticket deadline. WaitingForBits group ticket deadline)
    (λ n d. refl) (λ n d. refl) (call_at s i).deadline

-- The same, for a notification.
pub stands_waiting_notification : (t : Timeline) (s : State) (i : ℕ) → StandsFor t s → i < length s.tasks
    → is_ready s i ≡ true → StandsBefore i (call_at s i).deadline t (wait_for_notification i s)
unfolding wait_for_notification
stands_waiting_notification t s i h l ready =
    waits t s i h l ready (λ ticket deadline. WaitingForNotification ticket deadline)
    (λ n d. refl) (λ n d. refl) (call_at s i).deadline

-- a task is suspended, and is asleep no more
pub stands_suspended : (old new : Timeline) (s : State) (i : ℕ) → new.now ≡ old.now
    → new.age ≡ old.age → new.held ≡ old.held → new.delayed_list ≡ without i old.delayed_list
    → StandsFor old s → i < length s.tasks → StandsFor new (with_status i Suspended s)
stands_suspended old new s i now age held sleepers h l =
    let u : Task = record (task_at s i) { status = Suspended } in
    same_parts (record old { delayed_list = without i old.delayed_list }) new (with_status i Suspended s) now age held sleepers
    (stands_woken old s (with_status i Suspended s) i u h l refl refl refl refl (table-set s i u h.table tt))

-- a task becomes Ready, and is asleep no more
pub stands_made_ready : (old new : Timeline) (s : State) (i : ℕ) → new.now ≡ old.now → new.age ≡ old.age → new.held ≡ old.held
    → new.delayed_list ≡ without i old.delayed_list → StandsFor old s → i < length s.tasks → StandsFor new (make_ready i s)
stands_made_ready old new s i now age held sleepers h l =
    let u : Task = record (task_at s i) { status = Ready s.next_ticket } in
    same_parts (record old { delayed_list = without i old.delayed_list }) new (make_ready i s) now age held sleepers
    (stands_woken old s (make_ready i s) i u h l refl refl refl refl (table-make_ready s i h.table))

-- the same while another is still to be placed
without_apart : (i j m : ℕ) (deadline : Option ℕ) → i ≢ j
    → but j (tasks_at m (with_deadline i deadline)) ≡ tasks_at m (with_deadline i deadline)
without_apart i j m None ne = refl
without_apart i j m (Some w) ne = by_test (eqb w m)
    (λ t. rw (t, ne_eqb i j ne) refl)
    (λ t. rw t refl)

pub stands_before_made_ready : (old new : Timeline) (s : State) (i j : ℕ) (deadline : Option ℕ)
    → new.now ≡ old.now → new.age ≡ old.age → new.held ≡ old.held
    → new.delayed_list ≡ without j old.delayed_list → StandsBefore i deadline old s → i ≢ j → j < length s.tasks
    → StandsBefore i deadline new (make_ready j s)
stands_before_made_ready old new s i j deadline now age held sleepers h ne l =
    let u : Task = record (task_at s j) { status = Ready s.next_ticket } in
    record {
      now = now ∙ h.now;
      age = ap₂ (λ (a b : ℕ). a + b) age held ∙ h.age;
      held = held ∙ h.held;
      sorted = subst IsSorted (sym sleepers) (IsSorted-without j old.delayed_list h.sorted);
      once = subst EachOnce (sym sleepers) (EachOnce-without j old.delayed_list h.once);
      delayed = λ m.
          let own : List ℕ = tasks_at m (with_deadline i deadline) in
          ap (λ (es : List (ℕ × ℕ)). tasks_at m es ++ own) sleepers
          ∙ ap₂ (λ (xs ys : List ℕ). xs ++ ys) (tasks_at-without m j old.delayed_list) (sym (without_apart i j m deadline ne))
          ∙ sym (filter-append (λ t. not (eqb t j)) (tasks_at m old.delayed_list) own)
          ∙ ap (but j) (h.delayed m)
          ∙ sym (due_in-gone s.tasks j m u l refl);
      awake = ap (has_node i) sleepers ∙ has_node-without_other j i old.delayed_list ne ∙ h.awake;
      table = table-make_ready s j h.table;
    }
