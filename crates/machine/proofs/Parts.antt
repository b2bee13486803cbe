-- What the parts of the kernel make of the states that it represents.
use Rattle.std.proofs.Common.{◌≡◌, ◌≢◌, ◌<◌, ◌≤◌, ◌-◌, ℕ, zero, suc, Bool, true, false, eqb, List, [], ◌∷◌, ◌++◌, length, get_or}
use Rattle.std.proofs.Common.{set}
use Rattle.std.proofs.Common.{Option, Some, None, refl, ap, sym, subst, ◌∙◌, arith, get_or-set_same, get_or-set_other}
use Rattle.std.specs.List.{filter}
use Rattle.std.specs.Option.{option_eq, is_some}
use Rattle.std.proofs.Math.ListN.{length-set}
use Rattle.model.specs.declared.call.Phase.TheVariants.{Place}
use Rattle.model.specs.declared.event.Event.{Event}
use Rattle.model.specs.declared.event.End.{End}
use Rattle.model.specs.declared.notification.Notification.{Notification}
use Rattle.model.specs.State.{State, Task, Progress, Status, Ready, Awake, Waiting, Asleep, WaitingForBits, WaitingForNotification}
use Rattle.model.specs.State.{Suspended, Ended}
use Rattle.model.specs.State.{Object, Source, ticket_if_ready, wait_if_awake, wake_time_of, no_call, no_task, no_progress, task_at}
use Rattle.model.specs.State.{status_at, progress_at, call_at, with_task, printed}
use Rattle.model.specs.State as state
use Rattle.model.specs.Order.{Entry, list_by, tasks_of}
use Rattle.model.specs.Switching.{is_ready, make_ready, ready_key, write}
use Rattle.model.specs.Time.{delayed_key, sleep}
use Rattle.model.specs.Ops.{moved_to}
use Rattle.model.specs.Suspension.{can_resume}
use Rattle.model.specs.Invariant.{IsTable, wait_of}
use Rattle.model.proofs.Sorting.{by_test}
use Rattle.model.proofs.Lists.{eqb-refl, eqb-same}
use Rattle.model.proofs.Tables.{ticket_at, table-set, table-make_ready, each-set}
use Rattle.model.proofs.Statuses.{ready_awake, ready_free}
use Rattle.task_lists.specs.Priorities.{with_priorities}
use Rattle.sched.specs.StandsFor as sched
use Rattle.sched.specs.Schedule.{Schedule, block}
use Rattle.sched.specs.Schedule as schedule
use Rattle.sched.proofs.Standing as on_sched
use Rattle.sched.proofs.Choosing as on_choosing
use Rattle.sched.proofs.Choosing.{depth_by, holds_of}
use Rattle.clock.specs.StandsFor as clock
use Rattle.clock.specs.Timeline.{Timeline, is_asleep}
use Rattle.clock.proofs.Sleepers as on_sleepers
use Rattle.clock.proofs.Standing.{asleep_same}
use Rattle.clock.proofs.Sleepers.{SleepsAlike, ticks_of}
use Rattle.objects.specs.WaitersStand.{AtLocked}
use Rattle.objects.specs.Objects as objects
use Rattle.objects.specs.Objects.{Objects, SameWaits}
use Rattle.objects.proofs.Kept.{stands_same, same_free, same_ticket, same_progress, same_ready}
use Rattle.objects.proofs.Awake.{at_locked_same}
use Rattle.groups.specs.EventGroups.{EventGroups}
use Rattle.groups.specs.StandsFor as groups
use Rattle.groups.specs.StandsFor.{SameEventWaits, event_wait}
use Rattle.groups.proofs.Standing as on_groups
use Rattle.groups.proofs.Kept as bits_kept
use Rattle.groups.proofs.Kept.{ready_waits_not}
use Rattle.machine.specs.declared.machine.Machine.{Machine}
use Rattle.machine.proofs.AlikeSources.{are_later}
use Rattle.machine.specs.StandsFor.{AreNotifications, progress_in, AreSources, RestStandsFor, StandsFor, At}
use Rattle.machine.specs.StandsFor.{released_ticks, with_progress}

-- ---- each task's progress

-- The progress of a task changes alike on both sides.
pub progress-set : (ps : List Progress) (ts : List Task) (i : ℕ) (t : Task)
    → ((j : ℕ) → progress_in ps j ≡ (get_or ts j no_task).progress) → i < length ps → i < length ts
    → (j : ℕ) → progress_in (set ps i t.progress) j ≡ (get_or (set ts i t) j no_task).progress
progress-set ps ts i t h l m j = by_test (eqb j i)
    (λ u. let same : j ≡ i = eqb-same j i u in
    rw (same, get_or-set_same ps i t.progress no_progress l, get_or-set_same ts i t no_task m) refl)
    (λ u. let apart : j ≢ i = (λ q. let w : eqb j i ≡ true = rw q (eqb-refl i) in absurd (cc)) in
    rw (get_or-set_other ps i j t.progress no_progress apart, get_or-set_other ts i j t no_task apart) (h j))

-- A task changes, but not its progress.
pub progress-kept : (ts : List Task) (i : ℕ) (t : Task) → t.progress ≡ (get_or ts i no_task).progress
    → (j : ℕ) → (get_or (set ts i t) j no_task).progress ≡ (get_or ts j no_task).progress
progress-kept ts i t e = each-set no_task (λ j (u : Task). u.progress ≡ (get_or ts j no_task).progress) ts i t e (λ j. refl)

-- ---- the scheduler

-- The scheduler represents each state of the same tasks, if the same one runs, tasks hold it as often, and a call
-- holds it as before.
pub sched-same : {v : Schedule} {s new : State} → sched.StandsFor v s → IsTable new
    → new.tasks ≡ s.tasks → new.current ≡ s.current → holds_of new ≡ holds_of s → sched.StandsFor v new
sched-same h table tasks current holds = record {
  ready = h.ready ∙ sym (ap (λ ts. with_priorities (list_by ready_key ts)) tasks);
  current = h.current ∙ sym current;
  priorities = λ i. h.priorities i ∙ sym (ap (λ ts. (get_or ts i no_task).priority) tasks);
  base_priorities = λ i. h.base_priorities i ∙ sym (ap (λ ts. (get_or ts i no_task).base_priority) tasks);
  depth = h.depth ∙ sym (ap depth_by holds);
  suspensions = h.suspensions ∙ sym (ap (λ (p : ℕ × Bool). p.0) holds);
  suspended = λ i. h.suspended i ∙ sym (ap (λ ts. can_resume (get_or ts i no_task).status) tasks);
  table = table;
}

-- ---- the clock

-- the tasks that wake at a time, by the tasks alone
asleep_until : List Task → ℕ → List ℕ
asleep_until ts m =
    tasks_of
    (filter (λ (e : Entry). option_eq eqb (wake_time_of (get_or ts e.task no_task).status) (Some m)) (list_by delayed_key ts))

-- The clock represents each state of the same table and time.
pub clock-same : (t : Timeline) (s new : State) → clock.StandsFor t s → new.tasks ≡ s.tasks
    → new.time ≡ s.time → ticks_of new ≡ ticks_of s → IsTable new → clock.StandsFor t new
unfolding asleep_until
clock-same t s new h tasks time ticks table = record {
  now = h.now ∙ sym time;
  age = h.age ∙ sym (ap (λ (p : ℕ × ℕ). p.0) ticks);
  held = h.held ∙ sym (ap (λ (p : ℕ × ℕ). p.1) ticks);
  sorted = h.sorted;
  once = h.once;
  delayed = λ m. h.delayed m ∙ ap (λ ts. asleep_until ts m) (sym tasks);
  table = table;
}

pub asleep_is : (t : Timeline) (s : State) → clock.StandsFor t s → (i : ℕ) → is_asleep t i ≡ is_some (wake_time_of (status_at s i))
asleep_is t s h i = asleep_same t s i h

pub same_alike : (a b : Status) → a ≡ b → SleepsAlike a b
same_alike a b e = subst (SleepsAlike a) e (record { key = refl; wake_time = refl })

pub ready_alike : (u : Status) (n : ℕ) → wake_time_of u ≡ None → SleepsAlike (Ready n) u
ready_alike (Ready m) n t = record { key = refl; wake_time = refl }
ready_alike (Awake w) n t = record { key = rw t refl; wake_time = sym t }
ready_alike (Waiting w) n t = record { key = rw t refl; wake_time = sym t }
ready_alike (Asleep w m) n t = absurd (cc)
ready_alike (WaitingForBits g m d) n t = record { key = rw t refl; wake_time = sym t }
ready_alike (WaitingForNotification m d) n t = record { key = rw t refl; wake_time = sym t }
ready_alike Suspended n t = record { key = refl; wake_time = refl }
ready_alike Ended n t = record { key = refl; wake_time = refl }

ended_alike : (u : Status) → wake_time_of u ≡ None → SleepsAlike Ended u
ended_alike (Ready m) t = record { key = refl; wake_time = refl }
ended_alike (Awake w) t = record { key = rw t refl; wake_time = sym t }
ended_alike (Waiting w) t = record { key = rw t refl; wake_time = sym t }
ended_alike (Asleep w m) t = absurd (cc)
ended_alike (WaitingForBits g m d) t = record { key = rw t refl; wake_time = sym t }
ended_alike (WaitingForNotification m d) t = record { key = rw t refl; wake_time = sym t }
ended_alike Suspended t = record { key = refl; wake_time = refl }
ended_alike Ended t = record { key = refl; wake_time = refl }

-- A task that is Ready in the scheduler is not asleep in the clock, and the other way round.
pub apart : (k : Machine) (s : State) → StandsFor k s → (i : ℕ) → schedule.is_ready k.sched i ≡ true → is_asleep k.clock i ≡ false
apart k s h i t =
    let on : is_ready s i ≡ true = sym (on_sched.ready_same k.sched s i h.sched) ∙ t in
    asleep_is k.clock s h.rest.clock i ∙ ap (λ (o : Option ℕ). is_some o) (ready_awake (status_at s i) on)

pub apart_back : (k : Machine) (s : State) → StandsFor k s → (i : ℕ)
    → is_asleep k.clock i ≡ true → schedule.is_ready k.sched i ≡ false
apart_back k s h i t = by_test (schedule.is_ready k.sched i)
    (λ u. let f = apart k s h i u in absurd (cc))
    (λ u. u)

-- ---- all but the scheduler

-- the same tasks, the same objects
pub same_parts : (s new : State) → new.tasks ≡ s.tasks → new.objects ≡ s.objects → new.locked ≡ s.locked → SameWaits s new
same_parts s new tasks objects locked = record {
  objects = objects;
  waits = λ i. ap (λ ts. wait_of (get_or ts i no_task).status) tasks;
  awake = λ i. ap (λ ts. wait_if_awake (get_or ts i no_task).status) tasks;
  locked = locked;
}

-- what the kernel keeps of a state beside its parts
abbrev pub Kept : Type 0
Kept = ℕ × Option End × List Source × ℕ × List ℕ × (ℕ → Notification)

abbrev pub kept_of : State → Kept
kept_of s = (s.steps, s.stopped, s.sources, s.sections, s.variables, s.notifications)

-- The sources are kept if no fewer ticks have passed.
pub sources_on : (k : Machine) (s new : State) → new.sources ≡ s.sources → released_ticks s ≤ released_ticks new
    → AreSources (released_ticks s) k.sources s.sources → AreSources (released_ticks new) k.sources new.sources
sources_on k s new same since are =
    subst (AreSources (released_ticks new) k.sources) (sym same)
    (are_later (released_ticks s) (released_ticks new) k.sources s.sources since are)

-- The clock represents the new state, up to which no fewer ticks have passed; each task keeps its place in its script, and what is
-- kept beside the parts stays.
module _ {k : Machine} {s new : State} {v : Schedule} {t : Timeline} (h : RestStandsFor k s) (on : clock.StandsFor t new)
    (since : released_ticks s ≤ released_ticks new)
    (progress : (i : ℕ) → progress_at new i ≡ progress_at s i) (kept : kept_of new ≡ kept_of s) where
  -- the objects and the groups are given too; the guess at the next interrupt may be another
  pub rest_with : {q : Objects} {g : EventGroups} {next : ℕ} → objects.StandsFor q None new
      → AtLocked None new → groups.StandsFor g new
      → RestStandsFor (record k { sched = v; clock = t; objects = q; groups = g; next_interrupt = next }) new
  rest_with left locked there = record {
    progress = λ i. h.progress i ∙ sym (progress i);
    full = h.full;
    clock = on;
    objects = left;
    groups = there;
    awake = locked;
    notifications = subst (AreNotifications k.notifications) (sym (ap (λ (x : Kept). x.5) kept)) h.notifications;
    variables = h.variables ∙ sym (ap (λ (x : Kept). x.4) kept);
    sources = sources_on k s new (ap (λ (x : Kept). x.2) kept) since h.sources;
    sections = h.sections ∙ sym (ap (λ (x : Kept). x.3) kept);
    steps = h.steps ∙ sym (ap (λ (x : Kept). x.0) kept);
    stopped = h.stopped ∙ sym (ap (λ (x : Kept). x.1) kept);
    placed = h.placed;
  }

  -- the objects are given, and the same tasks wait for bits
  pub rest_with_objects : {q : Objects} → objects.StandsFor q None new → AtLocked None new
      → SameEventWaits s new → RestStandsFor (record k { sched = v; clock = t; objects = q }) new
  rest_with_objects left locked bits = rest_with left locked (on_groups.stands_same k.groups s new h.groups bits on.table)

  -- the groups are given, and the same tasks wait at objects
  pub rest_with_groups : {g : EventGroups} → SameWaits s new → groups.StandsFor g new
      → RestStandsFor (record k { sched = v; clock = t; groups = g }) new
  rest_with_groups waits there =
      rest_with (stands_same s new waits k.objects None h.objects on.table) (at_locked_same None s new waits h.awake) there

  -- the same tasks wait
  pub rest_with_clock : SameWaits s new → SameEventWaits s new → RestStandsFor (record k { sched = v; clock = t }) new
  rest_with_clock waits bits = rest_with_groups waits (on_groups.stands_same k.groups s new h.groups bits on.table)

-- Other parts represent the same state, and the guess may be another.
pub rest_again : {k : Machine} {s : State} {v : Schedule} {t : Timeline} {q : Objects} {g : EventGroups} {next : ℕ}
    → RestStandsFor k s → clock.StandsFor t s → objects.StandsFor q None s → groups.StandsFor g s
    → RestStandsFor (record k { sched = v; clock = t; objects = q; groups = g; next_interrupt = next }) s
rest_again h on left there = rest_with h on (omega arith) (λ _. refl) refl left h.awake there

-- A task's progress changes, in the kernel and in its state, and is not in Place; the same tasks wait.
pub rest_moved : {k : Machine} {s new : State} {v : Schedule} → RestStandsFor k s → clock.StandsFor k.clock new
    → released_ticks s ≤ released_ticks new → kept_of new ≡ kept_of s → (i : ℕ) (t : Task)
    → i < length s.tasks → length s.tasks ≤ 32
    → new.tasks ≡ set s.tasks i t → t.progress.call.phase ≢ Place → SameWaits s new → SameEventWaits s new
    → RestStandsFor (record k { progress = set k.progress i t.progress; sched = v }) new
rest_moved {k} {s} {new} h on since kept i t l few is off waits bits =
    let n = h.full in
    let m : i < length k.progress = omega arith in
    record {
      progress = λ j. progress-set k.progress s.tasks i t h.progress m l j ∙ sym (ap (λ ts. (get_or ts j no_task).progress) is);
      full = rw length-set h.full;
      clock = on;
      objects = stands_same s new waits k.objects None h.objects on.table;
      groups = on_groups.stands_same k.groups s new h.groups bits on.table;
      awake = at_locked_same None s new waits h.awake;
      notifications = subst (AreNotifications k.notifications) (sym (ap (λ (x : Kept). x.5) kept)) h.notifications;
      variables = h.variables ∙ sym (ap (λ (x : Kept). x.4) kept);
      sources = sources_on k s new (ap (λ (x : Kept). x.2) kept) since h.sources;
      sections = h.sections ∙ sym (ap (λ (x : Kept). x.3) kept);
      steps = h.steps ∙ sym (ap (λ (x : Kept). x.0) kept);
      stopped = h.stopped ∙ sym (ap (λ (x : Kept). x.1) kept);
      placed = each-set no_progress (λ _ (p : Progress). p.call.phase ≢ Place) k.progress i t.progress off h.placed;
    }

-- what the clock, the objects, the groups, the notifications, the variables and the sources see of a state
abbrev pub Seen : Type 0
Seen = List Task × ℕ × (ℕ × ℕ) × List Object × (ℕ → ℕ) × Option ℕ × List Source × List ℕ × (ℕ → Notification)

abbrev pub seen : State → Seen
seen s = (s.tasks, s.time, ticks_of s, s.objects, s.group_bits, s.locked, s.sources, s.variables, s.notifications)

-- Nothing changes that they see.
pub rest_unseen : {k : Machine} {s new : State} {v : Schedule} {m n : ℕ} {e : Option End} → RestStandsFor k s
    → IsTable new → seen new ≡ seen s → m ≡ new.sections → n ≡ new.steps → e ≡ new.stopped
    → RestStandsFor (record k { sched = v; sections = m; steps = n; stopped = e }) new
rest_unseen {k} {s} {new} h table same sections steps stopped =
    let tasks = ap (λ (x : Seen). x.0) same in
    let waits = same_parts s new tasks (ap (λ (x : Seen). x.3) same) (ap (λ (x : Seen). x.5) same) in
    record {
      progress = λ i. h.progress i ∙ ap (λ ts. (get_or ts i no_task).progress) (sym tasks);
      full = h.full;
      clock = clock-same k.clock s new h.clock tasks (ap (λ (x : Seen). x.1) same) (ap (λ (x : Seen). x.2) same) table;
      objects = stands_same s new waits k.objects None h.objects table;
      groups = on_groups.stands_same k.groups s new h.groups (bits_kept.same_parts s new tasks (ap (λ (x : Seen). x.4) same)) table;
      awake = at_locked_same None s new waits h.awake;
      notifications = subst (AreNotifications k.notifications) (sym (ap (λ (x : Seen). x.8) same)) h.notifications;
      variables = h.variables ∙ sym (ap (λ (x : Seen). x.7) same);
      sources = sources_on k s new (ap (λ (x : Seen). x.6) same)
          (let e : released_ticks new ≡ released_ticks s = ap (λ (x : Seen). x.2.0 - x.2.1) same in omega (arith, e)) h.sources;
      sections = sections;
      steps = steps;
      stopped = stopped;
      placed = h.placed;
    }

-- No part sees which events were reported, how many steps are done, and which end one has brought about.
pub stands-unseen : (k : Machine) (s : State) → StandsFor k s
    → (log : List Event) (steps n : ℕ) (stopped end : Option End) → n ≡ steps → end ≡ stopped
    → StandsFor (record k { steps = n; stopped = end }) (record s { log = log; steps = steps; stopped = stopped })
stands-unseen k s h log steps n stopped end same same_end =
    let new : State = record s { log = log; steps = steps; stopped = stopped } in
    let old = h.sched.table in
    let table : IsTable new = record { tickets = old.tickets; few = old.few; current = old.current; holders = old.holders } in
    record {
      sched = sched-same h.sched table refl refl refl;
      rest = rest_unseen h.rest table refl h.rest.sections same same_end;
    }

-- other events alone
pub stands-told : (k : Machine) (s : State) → StandsFor k s → (log : List Event) → StandsFor k (record s { log = log })
stands-told k s h log = stands-unseen k s h log s.steps k.steps s.stopped k.stopped h.rest.steps h.rest.stopped

-- who has such a status is a task, if a task that isn't there hasn't
pub there_if : (p : Status → Bool) → p Ended ≡ false → (s : State) (i : ℕ) → p (status_at s i) ≡ true → i < length s.tasks
there_if p none s i t = by_index s.tasks i t where
  by_index : (ts : List Task) (i : ℕ) → p (get_or ts i no_task).status ≡ true → i < length ts
  by_index [] i t = absurd (cc)
  by_index (u ∷ us) zero t = omega arith
  by_index (u ∷ us) (suc i) t = let l = by_index us i t in omega arith

-- a Ready task is a task
pub ready_within : (s : State) (i : ℕ) → is_ready s i ≡ true → i < length s.tasks
ready_within s i t = there_if (λ u. is_some (ticket_if_ready u)) refl s i t

-- a Ready task waits for no bits
pub not_for_bits : {X : Type 0} (s : State) (i : ℕ) → is_ready s i ≡ true → is_some (event_wait (status_at s i)) ≡ true → X
not_for_bits s i ready some =
    let none = ready_waits_not s i ready in
    let f : false ≡ true = sym (ap (λ o. is_some o) none) ∙ some in
    absurd (cc)

module _ (k : Machine) (s : State) (h : StandsFor k s) (i : ℕ) (l : i < length s.tasks) where
  -- a Ready task moves after its equals
  pub rest-made_ready : is_ready s i ≡ true → RestStandsFor k (make_ready i s)
  rest-made_ready on =
      let u : Status = status_at s i in
      let t : Task = record (task_at s i) { status = Ready s.next_ticket } in
      let alike : SleepsAlike t.status u = ready_alike u s.next_ticket (ready_awake u on) in
      let c =
      on_sleepers.stands_kept k.clock s (make_ready i s) i t h.rest.clock l
      refl refl refl alike (table-make_ready s i h.sched.table) in
      rest_with_clock h.rest c (omega arith) (progress-kept s.tasks i t refl) refl
      (same_ready i s (ready_free u on)) (bits_kept.same_ready i s (ready_waits_not s i on))

  -- a Ready task begins to sleep
  pub stands-slept : (wake_time : ℕ) → is_ready s i ≡ true → (v : Schedule) → v ≡ block i k.sched → (t : Timeline)
      → clock.StandsFor t (sleep i wake_time s) → StandsFor (record k { sched = v; clock = t }) (sleep i wake_time s)
  unfolding sleep
  stands-slept wake_time on v blocks t slept =
      let u : Task = record (task_at s i) { status = Asleep wake_time s.next_ticket } in
      let new : State = state.take_ticket i (Asleep wake_time) s in
      let c : clock.StandsFor t new = rw on at slept in
      rw on (record {
        sched =
            rw blocks (on_sched.stands_blocked k.sched s new i u h.sched l refl refl refl refl
            refl refl c.table (sym (on_choosing.ready_unsuspended (status_at s i) on)));
        rest =
            rest_with_clock h.rest c (omega arith) (progress-kept s.tasks i u refl) refl
            (same_ticket i (Asleep wake_time) s refl (ready_free (status_at s i) on))
            (bits_kept.same_ticket i (Asleep wake_time) s refl (ready_waits_not s i on));
      })

  -- a task's progress changes
  pub stands-changed : (p : Progress) → p.call.phase ≢ Place
      → (is_some (event_wait (status_at s i)) ≡ true → p.call.wants ≡ (call_at s i).wants)
      → StandsFor (with_progress i p k) (state.with_progress i p s)
  stands-changed p off wants =
      let t : Task = record (task_at s i) { progress = p } in
      let new : State = with_task i t s in
      let table : IsTable new = table-set s i t h.sched.table (ticket_at s.next_ticket i s.tasks h.sched.table.tickets) in
      let c =
      on_sleepers.stands_kept k.clock s new i t h.rest.clock l refl refl
      refl (same_alike (status_at s i) (status_at s i) refl) table in
      record {
        sched = on_sched.stands_kept k.sched s new i t h.sched l refl refl refl refl refl refl table refl;
        rest =
            rest_moved h.rest c (omega arith) refl i t l h.sched.table.few refl off (same_progress i p s)
            (bits_kept.same_task i t s refl wants);
      }

  -- it goes on at an op, of this many, which isn't past the last one
  pub stands-gone : (count op_index : ℕ) (p : Progress) → eqb op_index count ≡ false → is_ready s i ≡ true
      → StandsFor (with_progress i (record p { op_index = op_index; used = 0; call = no_call }) k)
      (with_task i (moved_to count op_index p (task_at s i)) s)
  stands-gone count op_index p off ready =
      rw off
      (stands-changed (record p { op_index = op_index; used = 0; call = no_call }) (λ e. absurd (cc)) (not_for_bits s i ready))

  -- or is Ended
  pub stands-ended : (count op_index : ℕ) (p : Progress) → eqb op_index count ≡ true → is_ready s i ≡ true → (v : Schedule)
      → v ≡ block i k.sched
      → StandsFor (record k { progress = set k.progress i (record p { op_index = op_index; used = 0; call = no_call }); sched = v })
      (with_task i (moved_to count op_index p (task_at s i)) s)
  stands-ended count op_index p on ready v blocks =
      let u : Status = status_at s i in
      let t : Task =
      record (task_at s i) { progress = record p { op_index = op_index; used = 0; call = no_call }; status = Ended } in
      let new : State = with_task i t s in
      let table : IsTable new = table-set s i t h.sched.table tt in
      let c = on_sleepers.stands_kept k.clock s new i t h.rest.clock l refl refl refl (ended_alike u (ready_awake u ready)) table in
      rw on (record {
        sched =
            rw blocks (on_sched.stands_blocked k.sched s new i t h.sched l refl refl
            refl refl refl refl table (sym (on_choosing.ready_unsuspended u ready)));
        rest =
            rest_moved h.rest c (omega arith) refl i t l h.sched.table.few refl (λ e. absurd (cc))
            (same_free i t s refl (ready_free u ready)) (bits_kept.same_free i t s refl (ready_waits_not s i ready));
      })

-- An event is reported.
pub at_written : (k : Machine) (log new_log : List Event) (s : State) (e : Event) → At k log s
    → new_log ≡ log ++ e ∷ [] → e.step ≡ k.steps → e.tick ≡ printed k.clock.now → At k new_log (write e.what s)
at_written k log new_log s e h told step tick = record {
  stands = stands-told k s h.stands (write e.what s).log;
  log =
      told
      ∙ rw h.log (ap (λ (x : Event). s.log ++ x ∷ [])
      (event_same e s.steps (printed s.time) (step ∙ h.stands.rest.steps) (tick ∙ ap printed h.stands.rest.clock.now)));
} where
  event_same : (e : Event) (n m : ℕ) → e.step ≡ n → e.tick ≡ m → e ≡ record { step = n; tick = m; what = e.what }
  event_same e n m a b = ap (λ (x : ℕ). record e { step = x }) a ∙ ap (λ (x : ℕ). record e { step = n; tick = x }) b
