-- A task is still to be placed: what the calls of handlers make of the states that the kernel represents then.
use Rattle.std.proofs.Common.{◌≡◌, ◌≢◌, ◌<◌, ℕ, true, false, eqb, ltb, set, List, [], ◌∷◌, length, get_or, Option, Some, None, refl}
use Rattle.std.proofs.Common.{ap, sym, subst, ◌∙◌}
use Rattle.std.proofs.Common.{◌≤◌, ◌-◌, arith}
use Rattle.std.specs.Prelude.{if◌then◌else◌}
use Rattle.std.specs.List.{AllByRecursion}
use Rattle.std.specs.Option.{option_map, option_and_then}
use Rattle.model.specs.declared.call.WaitList.{WaitList}
use Rattle.model.specs.State.{State, Task, Progress, Status, Object, Ready, Awake, Waiting, Asleep, WaitingForBits}
use Rattle.model.specs.State.{WaitingForNotification, Suspended}
use Rattle.model.specs.State.{Ended, wait_if_waiting, task_at, status_at, progress_at, call_at, with_object, for_one, no_task}
use Rattle.model.specs.Order.{Key, Entry, first, task_of}
use Rattle.model.specs.Switching.{is_ready, make_ready}
use Rattle.model.specs.Waiting.{wait_key, same_list, awake_status, awaken, is_locked, waiters, wake_one, wake_best}
use Rattle.model.specs.Invariant.{IsTable, wait_of}
use Rattle.model.proofs.Sorting.{by_test}
use Rattle.model.proofs.Lists.{HasKey, eqb-refl, eqb-same, list_has}
use Rattle.model.proofs.Members.{has_task}
use Rattle.model.proofs.Tables.{each-set}
use Rattle.lists.specs.Lists.{has_node, without}
use Rattle.lists.proofs.Entries.{has_node-without_other}
use Rattle.task_lists.specs.Priorities.{with_priorities}
use Rattle.task_lists.proofs.Priorities.{has_node-with_priorities}
use Rattle.sched.specs.StandsFor as sched
use Rattle.sched.specs.Schedule as schedule
use Rattle.sched.specs.Schedule.{Schedule, lined_up}
use Rattle.sched.proofs.Standing as on_sched
use Rattle.clock.specs.StandsFor as clock
use Rattle.clock.specs.Timeline.{Timeline}
use Rattle.clock.proofs.Sleepers as on_sleepers
use Rattle.objects.specs.WaitingLists.{waiting_in}
use Rattle.task_lists.specs.Tasks.{insert_by_priority}
use Rattle.objects.specs.WaitersStand.{AtLocked, Decider, standing}
use Rattle.objects.specs.Objects as objects
use Rattle.objects.specs.Objects.{Objects, SameWaits}
use Rattle.objects.proofs.Kept.{stands_same}
use Rattle.objects.proofs.Keys.{same_list-true, same_list-refl}
use Rattle.objects.proofs.Awake.{at_locked_same, at_locked-stored, at_locked-wake_best}
use Rattle.groups.specs.EventGroups.{EventGroups}
use Rattle.groups.specs.StandsFor as groups
use Rattle.groups.specs.StandsFor.{SameEventWaits}
use Rattle.groups.proofs.Standing as on_groups
use Rattle.groups.proofs.Kept as bits_kept
use Rattle.groups.proofs.Elsewhere as bits_elsewhere
use Rattle.machine.specs.declared.machine.Machine.{Machine}
use Rattle.machine.specs.StandsFor.{AreNotifications, StandsBefore, Stands, decider, released_ticks}
use Rattle.machine.specs.StandsFor.Stands.{Placed, Placing}
use Rattle.machine.proofs.Parts.{Kept, kept_of, progress-kept, same_parts, sources_on}
use Rattle.machine.proofs.Waking.{progress-ready}
use Rattle.ops.proofs.Waits.{awake_unready, awake_resumes, awake_alike, best, woken_free, waits_there, opened, wakes_it, Unwoken}
use Rattle.ops.proofs.Waits.{unwoken}
use Rattle.ops.proofs.Waits.Unwoken.{Nobody, Counted}

-- ---- what isn't changed stays

-- A task changes, but not its priority.
pub priority-kept : (ts : List Task) (i : ℕ) (t : Task) → t.priority ≡ (get_or ts i no_task).priority
    → (j : ℕ) → (get_or (set ts i t) j no_task).priority ≡ (get_or ts j no_task).priority
priority-kept ts i t e = each-set no_task (λ j (u : Task). u.priority ≡ (get_or ts j no_task).priority) ts i t e (λ j. refl)

-- The scheduler, the clock, the objects and the groups are given; each task keeps its place in its script, and what is kept beside
-- the parts stays.
pub before_with_groups : {task : ℕ} {list : WaitList} {k : Machine} {s new : State} {v : Schedule} {t : Timeline} {q : Objects}
    {g : EventGroups} → StandsBefore task list k s → sched.StandsBefore task v new
    → clock.StandsBefore task (call_at s task).deadline t new
    → objects.StandsFor q (Some (decider task list s)) new → AtLocked (Some (decider task list s)) new → groups.StandsFor g new
    → ((i : ℕ) → progress_at new i ≡ progress_at s i) → (task_at new task).priority ≡ (task_at s task).priority
    → released_ticks s ≤ released_ticks new → kept_of new ≡ kept_of s → new.current ≡ s.current → new.call_hold ≡ s.call_hold
    → StandsBefore task list (record k { sched = v; clock = t; objects = q; groups = g }) new
before_with_groups {task} {list} {k} {s} {new} {v} {t} {q} {g} b on awake there locked bits progress
    rank since kept runs held = record {
      sched = on;
      clock = subst (λ (p : Progress). clock.StandsBefore task p.call.deadline t new) (sym (progress task)) awake;
      objects =
          subst (λ (n : ℕ). objects.StandsFor q (Some (record { task = task; list = list; priority = n })) new) (sym rank) there;
      groups = bits;
      awake = subst (λ (n : ℕ). AtLocked (Some (record { task = task; list = list; priority = n })) new) (sym rank) locked;
      progress = λ i. b.progress i ∙ sym (progress i);
      full = b.full;
      notifications = subst (AreNotifications k.notifications) (sym (ap (λ (x : Kept). x.5) kept)) b.notifications;
      variables = b.variables ∙ sym (ap (λ (x : Kept). x.4) kept);
      sources = sources_on k s new (ap (λ (x : Kept). x.2) kept) since b.sources;
      sections = b.sections ∙ sym (ap (λ (x : Kept). x.3) kept);
      steps = b.steps ∙ sym (ap (λ (x : Kept). x.0) kept);
      stopped = b.stopped ∙ sym (ap (λ (x : Kept). x.1) kept);
      current = runs ∙ b.current;
      held = held ∙ b.held;
      phase = ap (λ (p : Progress). p.call.phase) (progress task) ∙ b.phase;
      wait_list = b.wait_list;
      placed = b.placed;
    }

-- the same, if the same tasks wait for bits or for a notification
before_with : {task : ℕ} {list : WaitList} {k : Machine} {s new : State} {v : Schedule} {t : Timeline} {q : Objects}
    → StandsBefore task list k s → sched.StandsBefore task v new → clock.StandsBefore task (call_at s task).deadline t new
    → objects.StandsFor q (Some (decider task list s)) new → AtLocked (Some (decider task list s)) new → SameEventWaits s new
    → ((i : ℕ) → progress_at new i ≡ progress_at s i) → (task_at new task).priority ≡ (task_at s task).priority
    → released_ticks s ≤ released_ticks new → kept_of new ≡ kept_of s → new.current ≡ s.current → new.call_hold ≡ s.call_hold
    → StandsBefore task list (record k { sched = v; clock = t; objects = q }) new
before_with {k = k} {s = s} {new = new} b on awake there locked bits =
    before_with_groups b on awake there locked (on_groups.stands_same k.groups s new b.groups bits on.table)

-- How many ticks have come, and how many are held, is another number.
pub before_with_ticks : (k : Machine) (s : State) (task : ℕ) (list : WaitList) → StandsBefore task list k s → (t : Timeline)
    → (elapsed held : ℕ) → released_ticks s ≤ elapsed - held
    → clock.StandsBefore task (call_at s task).deadline t (record s { elapsed = elapsed; held_ticks = held })
    → StandsBefore task list (record k { clock = t }) (record s { elapsed = elapsed; held_ticks = held })
before_with_ticks k s task list b t elapsed held since on =
    let new : State = record s { elapsed = elapsed; held_ticks = held } in
    let waits : SameWaits s new = same_parts s new refl refl refl in
    before_with b
    (record {
      ready = b.sched.ready;
      still = b.sched.still;
      current = b.sched.current;
      priorities = b.sched.priorities;
      base_priorities = b.sched.base_priorities;
      depth = b.sched.depth;
      suspensions = b.sched.suspensions;
      suspended = b.sched.suspended;
      table = on.table;
    })
    on (stands_same s new waits k.objects (Some (decider task list s)) b.objects on.table)
    (at_locked_same (Some (decider task list s)) s new waits b.awake) (bits_kept.same_parts s new refl refl)
    (λ i. refl) refl since refl refl refl

-- ---- it waits in its list, or was woken there

has_node-inserted : (i p : ℕ) (es : List (ℕ × ℕ)) → has_node i (insert_by_priority (i, p) es) ≡ true
has_node-inserted i p [] = rw (eqb-refl i) refl
has_node-inserted i p (f ∷ fs) = by_test (ltb f.1 p)
    (λ t. rw (t, eqb-refl i) refl)
    (λ t. rw t (by_test (eqb f.0 i) (λ u. rw u refl) (λ u. rw u (has_node-inserted i p fs))))

keyed_at : (key : Task → Option Key) (ts : List Task) (i : ℕ) (es : List Entry)
    → AllByRecursion (HasKey key ts) es → has_task i es ≡ true → (k : Key) × (key (get_or ts i no_task) ≡ Some k)
keyed_at key ts i [] has t = absurd (cc)
keyed_at key ts i (e ∷ es) has t = by_test (eqb e.task i)
    (λ u. (e.key, subst (λ (j : ℕ). key (get_or ts j no_task) ≡ Some e.key) (eqb-same e.task i u) has.0.key))
    (λ u. keyed_at key ts i es has.1 (rw u at t))

-- a task waits in one list, and is in another: they are one list
one_list : (a b : WaitList) (k m : Key) (u : Status) → option_and_then (wait_key a) (wait_if_waiting u) ≡ Some k
    → option_and_then (wait_key b) (wait_of u) ≡ Some m → a ≡ b
one_list a b k m (Ready n) e f = absurd (cc)
one_list a b k m (Awake w) e f = absurd (cc)
one_list a b k m (Waiting w) e f = by_test (same_list w.list a)
    (λ t. by_test (same_list w.list b)
    (λ u. sym (same_list-true w.list a t) ∙ same_list-true w.list b u)
    (λ u. let g = rw u at f in absurd (cc)))
    (λ t. let g = rw t at e in absurd (cc))
one_list a b k m (Asleep w n) e f = absurd (cc)
one_list a b k m (WaitingForBits g n d) e f = absurd (cc)
one_list a b k m (WaitingForNotification n d) e f = absurd (cc)
one_list a b k m Suspended e f = absurd (cc)
one_list a b k m Ended e f = absurd (cc)

module _ (task : ℕ) (list : WaitList) (k : Machine) (s : State) (b : StandsBefore task list k s) where
  pub stands_there : (m : Key) × (option_and_then (wait_key list) (wait_of (status_at s task)) ≡ Some m)
  stands_there =
      let own : same_list list list ≡ true = same_list-refl list in
      let joined : insert_by_priority (task, (task_at s task).priority) (waiting_in k.objects.waiting list)
      ≡ with_priorities (standing s list) =
      rw own at (b.objects.waiters.lists list) in
      let node : has_task task (standing s list) ≡ true =
      sym (has_node-with_priorities task (standing s list)) ∙ ap (has_node task) (sym joined)
      ∙ has_node-inserted task (task_at s task).priority (waiting_in k.objects.waiting list) in
      keyed_at (λ (t : Task). option_and_then (wait_key list) (wait_of t.status)) s.tasks task (standing s list)
      (list_has (λ (t : Task). option_and_then (wait_key list) (wait_of t.status)) s.tasks) node

  -- A task that is woken from a list that isn't locked is another.
  pub woken_apart : (i : ℕ) (other : WaitList) (n : Key) → is_locked s.locked other ≡ false
      → option_and_then (wait_key other) (wait_if_waiting (status_at s i)) ≡ Some n → task ≢ i
  woken_apart i other n off e same =
      let there : option_and_then (wait_key other) (wait_if_waiting (status_at s task)) ≡ Some n =
      subst (λ (j : ℕ). option_and_then (wait_key other) (wait_if_waiting (status_at s j)) ≡ Some n) (sym same) e in
      let one : other ≡ list = one_list other list n stands_there.0 (status_at s task) there stands_there.1 in
      let on : is_locked s.locked list ≡ true = b.awake.to_place in
      let f : false ≡ true = sym off ∙ ap (is_locked s.locked) one ∙ on in
      absurd (cc)

  -- Another is Ready in the scheduler if it is in the state.
  pub ready_beside : (i : ℕ) → task ≢ i → schedule.is_ready k.sched i ≡ is_ready s i
  ready_beside i ne =
      let gone : Schedule = record k.sched { ready = without task (lined_up k.sched); pending = [] } in
      let stands : sched.StandsFor gone s =
      record {
        ready = b.sched.ready;
        current = b.sched.current;
        priorities = b.sched.priorities;
        base_priorities = b.sched.base_priorities;
        depth = b.sched.depth;
        suspensions = b.sched.suspensions;
        suspended = b.sched.suspended;
        table = b.sched.table;
      } in
      sym (has_node-without_other task i (lined_up k.sched) (λ e. ne (sym e))) ∙ on_sched.ready_same gone s i stands

  -- an object changes
  pub stored_before : (o : ℕ) (x : Object) (q : Objects) → objects.StandsFor q (Some (decider task list s)) (with_object o x s)
      → StandsBefore task list (record k { objects = q }) (with_object o x s)
  stored_before o x q there =
      let table : IsTable (with_object o x s) = there.waiters.table in
      let on : sched.StandsBefore task k.sched (with_object o x s) =
      record {
        ready = b.sched.ready;
        still = b.sched.still;
        current = b.sched.current;
        priorities = b.sched.priorities;
        base_priorities = b.sched.base_priorities;
        depth = b.sched.depth;
        suspensions = b.sched.suspensions;
        suspended = b.sched.suspended;
        table = table;
      } in
      let awake : clock.StandsBefore task (call_at s task).deadline k.clock (with_object o x s) =
      record {
        now = b.clock.now;
        age = b.clock.age;
        held = b.clock.held;
        sorted = b.clock.sorted;
        once = b.clock.once;
        delayed = b.clock.delayed;
        awake = b.clock.awake;
        table = table;
      } in
      before_with b on awake there (at_locked-stored (Some (decider task list s)) o x s b.awake)
      (bits_kept.same_object o x s) (λ _. refl) refl (omega arith) refl refl refl

  -- someone is Awake, perhaps itself
  pub awakened_before : (i : ℕ) → i < length s.tasks → (q : Objects)
      → objects.StandsFor q (Some (decider task list s)) (awaken i s) → AtLocked (Some (decider task list s)) (awaken i s)
      → SameEventWaits s (awaken i s) → StandsBefore task list (record k { objects = q }) (awaken i s)
  awakened_before i l q there locked bits =
      let t : Task = record (task_at s i) { status = awake_status (status_at s i) } in
      let table : IsTable (awaken i s) = there.waiters.table in
      let on =
      on_sched.stands_before_kept k.sched s (awaken i s) task i t b.sched l refl refl refl
      (ap (λ (o : Option ℕ). option_map (λ n. record { priority = (task_at s i).priority; ticket = n }) o)
      (awake_unready (status_at s i)))
      refl refl table (awake_resumes (status_at s i)) in
      let awake =
      on_sleepers.stands_before_kept k.clock s (awaken i s) task i (call_at s task).deadline
      t b.clock l refl refl refl (awake_alike (status_at s i)) table in
      before_with b on awake there locked bits (progress-kept s.tasks i t refl) (priority-kept s.tasks i t refl task)
      (omega arith) refl refl refl

-- a woken task becomes Ready
module _ (task : ℕ) (tl : WaitList) (k : Machine) (s : State) (b : StandsBefore task tl k s)
    (list : WaitList) (i : ℕ) (is : Some i ≡ (if is_locked s.locked list then None else best s list)) where
  apart_there : task ≢ i
  apart_there = woken_apart task tl k s b i list (waits_there s list i is).key (opened s list i is) (waits_there s list i is).there

  pub free_before : schedule.is_ready k.sched i ≡ false
  free_before = ready_beside task tl k s b i apart_there ∙ (waits_there s list i is).unready

  pub woken_before : (v : Schedule) (t : Timeline) (q : Objects)
      → (task ≢ i → i < length s.tasks → sched.StandsBefore task v (make_ready i s))
      → (task ≢ i → i < length s.tasks → clock.StandsBefore task (call_at s task).deadline t (make_ready i s))
      → objects.StandsFor q (Some (decider task tl s)) (wake_best list s)
      → StandsBefore task tl (record k { sched = v; clock = t; objects = q }) (wake_best list s)
  woken_before v t q on awake there =
      let l = (waits_there s list i is).within in
      let one = wakes_it s list i is in
      let d : Option Decider = Some (decider task tl s) in
      let left = subst (objects.StandsFor q d) one there in
      let locked = subst (AtLocked d) one (at_locked-wake_best d list s b.awake) in
      let bits = subst (SameEventWaits s) one (bits_elsewhere.same_wake_best list s) in
      let priority = priority-kept s.tasks i (record (task_at s i) { status = Ready s.next_ticket }) refl task in
      subst (StandsBefore task tl (record k { sched = v; clock = t; objects = q })) (sym one)
      (before_with b (on apart_there l) (awake apart_there l) left locked bits (progress-ready s i) priority
      (omega arith) refl refl refl)

-- in either case a woken task isn't Ready in the scheduler
pub woken_free_any : (k : Machine) (s : State) (list : WaitList) (i : ℕ) → Stands k s
    → ((d : Option Decider) → objects.StandsFor k.objects d s → AtLocked d s
    → Some i ≡ (if is_locked s.locked list then None else best s list))
    → schedule.is_ready k.sched i ≡ false
woken_free_any k s list i (Placed h) is = woken_free k s h list i (is None h.rest.objects h.rest.awake)
woken_free_any k s list i (Placing task tl b) is =
    free_before task tl k s b list i (is (Some (decider task tl s)) b.objects b.awake)

-- or nobody does
module _ (task : ℕ) (tl : WaitList) (k : Machine) (s : State) (b : StandsBefore task tl k s)
    (list : WaitList) (is : None ≡ (if is_locked s.locked list then None else best s list))
    (q : Objects) (there : objects.StandsFor q (Some (decider task tl s)) (wake_best list s)) where
  pub unwoken_before : StandsBefore task tl (record k { objects = q }) (wake_best list s)
  unwoken_before = by_case (unwoken s list is) where
    by_case : Unwoken s list → StandsBefore task tl (record k { objects = q }) (wake_best list s)
    by_case (Nobody one) = subst (StandsBefore task tl (record k { objects = q })) (sym one)
        (before_with b b.sched b.clock (subst (objects.StandsFor q (Some (decider task tl s))) one there)
        b.awake (bits_kept.same s) (λ _. refl) refl (omega arith) refl refl refl)
    by_case (Counted i l one) =
        subst (StandsBefore task tl (record k { objects = q })) (sym one)
        (awakened_before task tl k s b i l q (subst (objects.StandsFor q (Some (decider task tl s))) one there)
        (subst (AtLocked (Some (decider task tl s))) one (at_locked-wake_best (Some (decider task tl s)) list s b.awake))
        (subst (SameEventWaits s) one (bits_elsewhere.same_wake_best list s)))

-- what a wake reports: nothing
pub log-wake_best : (list : WaitList) (s : State) → (wake_best list s).log ≡ s.log
unfolding wake_best
log-wake_best list s = by_first (task_of (first (waiters s list))) where
  by_first : (o : Option ℕ) → (for_one (λ task. wake_one task list) o s).log ≡ s.log
  by_first None = refl
  by_first (Some i) = by_test (is_locked s.locked list) (λ t. rw t refl) (λ t. rw t refl)
