-- Event groups: what a change of their bits, and a wait for them, make of the states that the kernel represents.
use Rattle.std.proofs.Common.{◌≡◌, ◌≢◌, ◌<◌, ◌+◌, ◌||◌, ℕ, zero, suc, Bool, true, false, eqb, List, [], ◌∷◌, length, get_or, set}
use Rattle.std.proofs.Common.{Option, Some, None, refl, ap, sym, subst, ◌∙◌}
use Rattle.std.proofs.Common.{arith}
use Rattle.std.specs.Prelude.{if◌then◌else◌}
use Rattle.std.specs.List.{AllByRecursion, filter}
use Rattle.std.specs.Option.{is_some, option_eq, option_map}
use Rattle.std.proofs.Math.ListN.{length-set}
use Rattle.model.specs.declared.call.CallProgress.{CallProgress}
use Rattle.model.specs.declared.call.Condition.{Condition}
use Rattle.model.specs.declared.call.Phase.{Phase}
use Rattle.model.specs.declared.call.Phase.TheVariants.{Start, Try, Decide, Place, Unlock, Leave}
use Rattle.model.specs.declared.event.Event.{Event}
use Rattle.model.specs.declared.op.Op.TheVariants.{SetBits, WaitBits}
use Rattle.model.specs.Application.{Application}
use Rattle.model.specs.State.{State, Task, Progress, Status, Ready, Awake, Waiting, WaitingForBits, WaitingForNotification, Asleep}
use Rattle.model.specs.State.{Suspended, Ended}
use Rattle.model.specs.State.{no_task, ticket_if_ready, ticket_if_for_bits, task_at, status_at, progress_at, call_at, bits_at}
use Rattle.model.specs.State.{with_bits, for_each}
use Rattle.model.specs.Order.{Key, Entry, key, tasks_of}
use Rattle.model.specs.Switching.{is_ready, make_ready}
use Rattle.model.specs.Suspension.{can_resume}
use Rattle.model.specs.Waiting.{set_deadline}
use Rattle.model.specs.Groups.{is_met, is_met_for, bits_left, bits_key, bits_set, waiters_for_bits, met_by, want, left_by, wake_all}
use Rattle.model.specs.Groups.{keep_answer, wake_with_bits, wait_for_bits, answer_bits, begin_bits_wait, check, final_bits}
use Rattle.model.specs.Groups.{set_bits, wait_bits, set as set_in_group}
use Rattle.model.specs.Step.{act}
use Rattle.model.specs.Invariant.{wait_of}
use Rattle.model.proofs.Sorting.{by_test}
use Rattle.model.proofs.Lists.{HasKey, list_has}
use Rattle.model.proofs.Statuses.{ready_free}
use Rattle.lists.specs.Lists.{place_of}
use Rattle.sched.specs.StandsFor as sched
use Rattle.sched.specs.StandsFor.{task_holds_of}
use Rattle.sched.specs.Schedule.{Schedule, IsCalm}
use Rattle.sched.specs.Schedule as schedule
use Rattle.sched.proofs.Standing as on_sched
use Rattle.clock.specs.StandsFor as clock
use Rattle.clock.specs.Timeline.{Timeline, is_asleep}
use Rattle.clock.proofs.Standing as on_clock
use Rattle.objects.specs.Objects.{SameWaits}
use Rattle.objects.proofs.Kept.{same, same_both, same_ready, same_ticket}
use Rattle.objects.proofs.Counting.{Distinct, distinct_from}
use Rattle.groups.specs.EventGroups.{EventGroups}
use Rattle.groups.specs.StandsFor as groups
use Rattle.groups.proofs.Standing as on_groups
use Rattle.groups.proofs.Kept.{ready_waits_not}
use Rattle.machine.specs.declared.machine.Machine.{Machine}
use Rattle.machine.specs.StandsFor.{StandsFor, At, AtAny, DoesAny, Moves, progress_in, with_progress}
use Rattle.machine.specs.Logged.{Logged}
use Rattle.machine.specs.Keeping.{keep_in, kept_by}
use Rattle.machine.specs.Can.{AreThere, AreToWake}
use Rattle.ops.specs.Can.{CanDecide, CanAwaitEvent}
use Rattle.machine.proofs.Parts.{apart, clock-same, not_for_bits, progress-kept, rest_again, rest_with_groups, same_parts}
use Rattle.machine.proofs.Parts.{sched-same}
use Rattle.machine.proofs.Acting.{within, changed}
use Rattle.machine.proofs.Continuing.{not_placing, recalled}
use Rattle.ops.proofs.Deciding.{not_held, hold_at}
use Rattle.machine.proofs.Either.{progress_is}
use Rattle.machine.proofs.Waking.{kept-all_ready, progress-all_ready, log-all_ready, released-all_ready}

-- ---- the bits of a group

module _ (k : Machine) (log : List Event) (s : State) (h : At k log s) (group : ℕ) (g : EventGroups) where
  -- A group has other bits.
  pub put_at : (bits : ℕ) → groups.StandsFor g (with_bits group bits s) → At (record k { groups = g }) log (with_bits group bits s)
  put_at bits there =
      let new : State = with_bits group bits s in
      let c = clock-same k.clock s new h.stands.rest.clock refl refl refl there.table in
      record {
        stands = record {
          sched = sched-same h.stands.sched there.table refl refl refl;
          rest = rest_with_groups h.stands.rest c (omega arith) (λ _. refl) refl (same_parts s new refl refl refl) there;
        };
        log = h.log;
      }

  -- It has the same.
  unput_at : groups.StandsFor g s → At (record k { groups = g }) log s
  unput_at there = record {
    stands = record { sched = h.stands.sched; rest = rest_again h.stands.rest h.stands.rest.clock h.stands.rest.objects there };
    log = h.log;
  }

  -- A wait is over, and may clear them.
  pub final_at : (c : Condition)
      → groups.StandsFor g (if is_met (bits_at s group) c then with_bits group (bits_left (bits_at s group) c) s else s)
      → At (record k { groups = g }) log
      (if is_met (bits_at s group) c then with_bits group (bits_left (bits_at s group) c) s else s)
  final_at c there = by_if (is_met (bits_at s group) c) there where
    by_if : (b : Bool) → groups.StandsFor g (if b then with_bits group (bits_left (bits_at s group) c) s else s)
        → At (record k { groups = g }) log (if b then with_bits group (bits_left (bits_at s group) c) s else s)
    by_if true on = put_at (bits_left (bits_at s group) c) on
    by_if false on = unput_at on

-- ---- a call holds the scheduler

-- if nothing is held
pub held_then : (k : Machine) (log : List Event) (s : State) → At k log s → k.sched.depth ≡ 0
    → (v : Schedule) → (s.call_hold ≡ false → sched.StandsFor v (record s { call_hold = true }))
    → At (record k { sched = v }) log (record s { call_hold = true })
held_then k log s h free v holds =
    hold_at true k log s h v (holds (not_held (task_holds_of s) s.call_hold k.sched.depth h.stands.sched.depth free))

-- ---- a task begins to wait for bits

-- A call that need not wait returns, and another waits.
module _ (app : Application) (new : Machine) (log : List Event) (s : State) (i group : ℕ) (c : Condition) (ticks : Option ℕ) where
  pub checked : (is_met (bits_at s group) c || option_eq eqb ticks (Some 0)) ≡ true
      → At new log (answer_bits app i group c s) → At new log (check app i group c ticks s)
  unfolding check
  checked t h = rw t h

  pub checked_not : (is_met (bits_at s group) c || option_eq eqb ticks (Some 0)) ≡ false
      → At new log (begin_bits_wait i group c ticks s) → At new log (check app i group c ticks s)
  unfolding check
  checked_not t h = rw t h

-- What the call wants changes no deadline.
pub deadline_in : (wants : Option Condition) (ps : List Progress) (i : ℕ)
    → (progress_in (set ps i (record (progress_in ps i) { call = record (progress_in ps i).call { wants = wants } }))
    i).call.deadline
    ≡ (progress_in ps i).call.deadline
deadline_in wants [] i = refl
deadline_in wants (p ∷ ps) zero = refl
deadline_in wants (p ∷ ps) (suc i) = deadline_in wants ps i

module _ (k : Machine) (log : List Event) (s : State) (h : At k log s) (i : ℕ)
    (r : k.sched.current ≡ Some i) (on : schedule.is_ready k.sched i ≡ true) where
  ready : is_ready s i ≡ true
  ready = sym (on_sched.ready_same k.sched s i h.stands.sched) ∙ on

  l : i < length s.tasks
  l = within k log s h i r

  wanted_at : (new : Machine) (c : Condition)
      → new
      ≡ with_progress i (record (progress_in k.progress i) { call = record (progress_in k.progress i).call { wants = Some c } }) k
      → At new log (want i c s)
  wanted_at new c is =
      recalled k new log s h i r (record (progress_in k.progress i).call { wants = Some c })
      (record (call_at s i) { wants = Some c }) is
      (ap (λ (p : Progress). record p.call { wants = Some c }) (h.stands.rest.progress i))
      (not_placing k new log s h i r) (not_for_bits s i ready)

  listed_not : place_of k.groups.waiting i ≡ None
  listed_not = on_groups.free k.groups s h.stands.rest.groups i (ready_waits_not s i ready)

  asleep_not : is_asleep k.clock i ≡ false
  asleep_not = apart k s h.stands i on

  pub waits_at : (group : ℕ) → k.sched.pending ≡ [] → (v : Schedule) (t : Timeline) (g : EventGroups) (deadline : Option ℕ)
      → deadline ≡ (progress_in k.progress i).call.deadline
      → (sched.StandsBefore i k.sched (wait_for_bits i group s) → sched.StandsFor v (wait_for_bits i group s))
      → (clock.StandsBefore i deadline k.clock (wait_for_bits i group s) → clock.StandsFor t (wait_for_bits i group s))
      → groups.StandsFor g (wait_for_bits i group s)
      → At (record k { sched = v; clock = t; groups = g }) log (wait_for_bits i group s)
  unfolding wait_for_bits
  waits_at group calm v t g deadline until blocks sleeps there =
      let until_then : Option ℕ = (call_at s i).deadline in
      let new : State = wait_for_bits i group s in
      let u : Task = record (task_at s i) { status = WaitingForBits group s.next_ticket until_then } in
      let same : SameWaits s new =
      same_ticket i (λ ticket. WaitingForBits group ticket until_then) s refl (ready_free (status_at s i) ready) in
      let same_deadline : deadline ≡ until_then = until ∙ ap (λ (p : Progress). p.call.deadline) (h.stands.rest.progress i) in
      let c =
      sleeps (subst (λ (d : Option ℕ). clock.StandsBefore i d k.clock new) (sym same_deadline)
      (on_clock.stands_waiting_bits k.clock s i group h.stands.rest.clock l ready)) in
      record {
        stands = record {
          sched = blocks (on_sched.stands_waiting_bits k.sched s i group calm h.stands.sched l ready);
          rest = rest_with_groups h.stands.rest c (omega arith) (progress-kept s.tasks i u refl) refl same there;
        };
        log = h.log;
      }

-- The running task's call holds the scheduler, has its deadline, and wants the bits.
pub record Wanting (new : Machine) (log : List Event) (timed : State) (i : ℕ) (condition : Condition) : Type 0 where
  pub at : At new log (want i condition timed)
  pub within : i < length timed.tasks
  pub groups : groups.StandsFor new.groups timed
  pub runs : new.sched.current ≡ Some i
  pub ready : schedule.is_ready new.sched i ≡ true
  pub calm : new.sched.pending ≡ []
  -- it is in no list yet
  pub free : place_of new.groups.waiting i ≡ None
  pub awake : is_asleep new.clock i ≡ false

pub wanting : (k : Machine) (log : List Event) (s : State) → At k log s → (i : ℕ) → CanDecide k i → (v : Schedule)
    → IsCalm k.sched → v ≡ schedule.hold k.sched → (s.call_hold ≡ false → sched.StandsFor v (record s { call_hold = true }))
    → (timed : Machine) (ticks : Option ℕ) → Moves (record k { sched = v }) timed (set_deadline i ticks) → timed.sched ≡ v
    → (new : Machine) (condition : Condition)
    → new
    ≡ with_progress i
    (record (progress_in timed.progress i) { call = record (progress_in timed.progress i).call { wants = Some condition } })
    timed
    → Wanting new log (set_deadline i ticks (record s { call_hold = true })) i condition
wanting k log s h i c v calm held holds timed ticks times kept new condition is =
    let due : State = set_deadline i ticks (record s { call_hold = true }) in
    let before : timed.sched ≡ schedule.hold k.sched = kept ∙ held in
    let runs : timed.sched.current ≡ Some i = ap (λ (w : Schedule). w.current) before ∙ c.runs.current in
    let ready : schedule.is_ready timed.sched i ≡ true = ap (λ (w : Schedule). schedule.is_ready w i) before ∙ c.runs.ready in
    let there : At timed log due = times log (record s { call_hold = true }) (held_then k log s h c.depth v holds) in
    let wants : At new log (want i condition due) = wanted_at timed log due there i runs ready new condition is in
    let after : new.sched ≡ timed.sched = ap (λ (x : Machine). x.sched) is in
    let still : new.sched.current ≡ Some i = ap (λ (w : Schedule). w.current) after ∙ runs in
    let on : schedule.is_ready new.sched i ≡ true = ap (λ (w : Schedule). schedule.is_ready w i) after ∙ ready in
    record {
      at = wants;
      within = within timed log due there i runs;
      groups =
          subst (λ (g : EventGroups). groups.StandsFor g due) (sym (ap (λ (x : Machine). x.groups) is)) there.stands.rest.groups;
      runs = still;
      ready = on;
      calm = ap (λ (w : Schedule). w.pending) (after ∙ before) ∙ calm c.depth;
      free = listed_not new log (want i condition due) wants i still on;
      awake = asleep_not new log (want i condition due) wants i still on;
    }

-- ---- a set

-- A task's call changes, and its place in its script doesn't.
pub placed_in : (call : CallProgress) (ps : List Progress) (i : ℕ)
    → (progress_in (set ps i (record (progress_in ps i) { call = call })) i).op_index ≡ (progress_in ps i).op_index
placed_in call [] i = refl
placed_in call (p ∷ ps) zero = refl
placed_in call (p ∷ ps) (suc i) = placed_in call ps i

-- The results that are kept change no task's place in its script, nor how many tasks there are.
pub kept_place : (bits : ℕ) (is : List ℕ) (ps : List Progress) (i : ℕ)
    → (progress_in (kept_by bits is ps) i).op_index ≡ (progress_in ps i).op_index
kept_place bits [] ps i = refl
kept_place bits (j ∷ is) ps i = kept_place bits is (keep_in bits ps j) i ∙ one ps j i where
  one : (ps : List Progress) (j i : ℕ) → (progress_in (keep_in bits ps j) i).op_index ≡ (progress_in ps i).op_index
  one [] j i = refl
  one (p ∷ ps) zero zero = refl
  one (p ∷ ps) zero (suc i) = refl
  one (p ∷ ps) (suc j) zero = refl
  one (p ∷ ps) (suc j) (suc i) = one ps j i

pub kept_length : (bits : ℕ) (is : List ℕ) (ps : List Progress) → length (kept_by bits is ps) ≡ length ps
kept_length bits [] ps = refl
kept_length bits (j ∷ is) ps = kept_length bits is (keep_in bits ps j) ∙ length-set ps j _

-- a task that waits for bits can become Ready
pub record CanMeet (s : State) (i : ℕ) : Type 0 where
  pub within : i < length s.tasks
  pub unready : is_ready s i ≡ false
  pub unsuspended : can_resume (status_at s i) ≡ false
  pub free : wait_of (status_at s i) ≡ None

waits_for_bits : (group : ℕ) (u : Status) (k : Key) → option_map (key 0) (ticket_if_for_bits group u) ≡ Some k
    → (is_some (ticket_if_ready u) ≡ false) × (can_resume u ≡ false) × (wait_of u ≡ None)
waits_for_bits group (Ready n) k e = absurd (cc)
waits_for_bits group (Awake w) k e = absurd (cc)
waits_for_bits group (Waiting w) k e = absurd (cc)
waits_for_bits group (Asleep w n) k e = absurd (cc)
waits_for_bits group (WaitingForBits g m d) k e = (refl, refl, refl)
waits_for_bits group (WaitingForNotification m d) k e = (refl, refl, refl)
waits_for_bits group Suspended k e = absurd (cc)
waits_for_bits group Ended k e = absurd (cc)

-- of the tasks of a list those that a set meets
module _ (s : State) (group : ℕ) (p : ℕ → Bool) where
  abbrev Has : Entry → Type 0
  Has = HasKey (bits_key group) s.tasks

  can_meet : (es : List Entry) → AllByRecursion Has es → AllByRecursion (CanMeet s) (filter p (tasks_of es))
  can_meet [] has = tt
  can_meet (e ∷ es) has =
      let w = waits_for_bits group (status_at s e.task) e.key has.0.key in
      by_test (p e.task)
      (λ t. rw t (record { within = has.0.within; unready = w.0; unsuspended = w.1; free = w.2 }, can_meet es has.1))
      (λ t. rw t (can_meet es has.1))

  each_apart : (i : ℕ) (es : List Entry) → AllByRecursion (λ x. x.task ≡ i → ⊥) es
      → AllByRecursion (λ other. other ≢ i) (filter p (tasks_of es))
  each_apart i [] d = tt
  each_apart i (e ∷ es) d = by_test (p e.task) (λ t. rw t (d.0, each_apart i es d.1)) (λ t. rw t (each_apart i es d.1))

  all_wake : (v : Schedule) → ((i : ℕ) → is_ready s i ≡ false → schedule.is_ready v i ≡ false)
      → (es : List Entry) → AllByRecursion Has es → Distinct es → AreToWake v (filter p (tasks_of es))
  all_wake v off [] has d = tt
  all_wake v off (e ∷ es) has d =
      let w = waits_for_bits group (status_at s e.task) e.key has.0.key in
      by_test (p e.task)
      (λ t. rw t (off e.task w.0, each_apart e.task es d.0, all_wake v off es has.1 d.1))
      (λ t. rw t (all_wake v off es has.1 d.1))

-- the tasks whose conditions these bits meet
pub met_can : (s : State) (group bits : ℕ) → AllByRecursion (CanMeet s) (met_by group bits s)
met_can s group bits = can_meet s group (is_met_for bits s) (waiters_for_bits s group) (list_has (bits_key group) s.tasks)

pub met_wake : (k : Machine) (s : State) → StandsFor k s → (group bits : ℕ) → AreToWake k.sched (met_by group bits s)
met_wake k s h group bits =
    all_wake s group (is_met_for bits s) k.sched (λ i off. on_sched.ready_same k.sched s i h.sched ∙ off)
    (waiters_for_bits s group) (list_has (bits_key group) s.tasks) (distinct_from (bits_key group) 0 s.tasks)

-- ---- the bits are kept for each of them, and then each becomes Ready

abbrev keep_all : ℕ → List ℕ → State → State
keep_all bits is s = for_each (λ i. keep_answer i bits) is s

abbrev kept_task : ℕ → Task → Task
kept_task bits t = record t { progress = record t.progress { call = record t.progress.call { kept = Some bits } } }

abbrev ready_task : ℕ → Task → Task
ready_task n t = record t { status = Ready n }

-- in either order
swapped_in : (bits n : ℕ) (ts : List Task) (i j : ℕ)
    → set (set ts i (ready_task n (get_or ts i no_task))) j
    (kept_task bits (get_or (set ts i (ready_task n (get_or ts i no_task))) j no_task))
    ≡ set (set ts j (kept_task bits (get_or ts j no_task))) i
    (ready_task n (get_or (set ts j (kept_task bits (get_or ts j no_task))) i no_task))
swapped_in bits n [] i j = refl
swapped_in bits n (t ∷ ts) zero zero = refl
swapped_in bits n (t ∷ ts) zero (suc j) = refl
swapped_in bits n (t ∷ ts) (suc i) zero = refl
swapped_in bits n (t ∷ ts) (suc i) (suc j) = ap (λ (us : List Task). t ∷ us) (swapped_in bits n ts i j)

swapped : (bits i j : ℕ) (s : State) → keep_answer j bits (make_ready i s) ≡ make_ready i (keep_answer j bits s)
swapped bits i j s =
    ap (λ (ts : List Task). record s { tasks = ts; next_ticket = s.next_ticket + 1 }) (swapped_in bits s.next_ticket s.tasks i j)

kept_past : (bits i : ℕ) (js : List ℕ) (s : State) → keep_all bits js (make_ready i s) ≡ make_ready i (keep_all bits js s)
kept_past bits i [] s = refl
kept_past bits i (j ∷ js) s = ap (keep_all bits js) (swapped bits i j s) ∙ kept_past bits i js (keep_answer j bits s)

woken_in_turn : (bits : ℕ) (is : List ℕ) (s : State)
    → wake_all is bits s ≡ for_each make_ready is (keep_all bits is s)
woken_in_turn bits [] s = refl
woken_in_turn bits (i ∷ is) s =
    woken_in_turn bits is (wake_with_bits i bits s) ∙ ap (for_each make_ready is) (kept_past bits i is (keep_answer i bits s))

-- It changes no task's status.
status_in : (bits : ℕ) (ts : List Task) (i j : ℕ)
    → (get_or (set ts i (kept_task bits (get_or ts i no_task))) j no_task).status ≡ (get_or ts j no_task).status
status_in bits [] i j = refl
status_in bits (t ∷ ts) zero zero = refl
status_in bits (t ∷ ts) zero (suc j) = refl
status_in bits (t ∷ ts) (suc i) zero = refl
status_in bits (t ∷ ts) (suc i) (suc j) = status_in bits ts i j

still_can : (bits i : ℕ) (s : State) (js : List ℕ) → AllByRecursion (CanMeet s) js
    → AllByRecursion (CanMeet (keep_answer i bits s)) js
still_can bits i s [] a = tt
still_can bits i s (j ∷ js) a =
    let same : status_at (keep_answer i bits s) j ≡ status_at s j = status_in bits s.tasks i j in (
      record {
        within = rw length-set a.0.within;
        unready = ap (λ (u : Status). is_some (ticket_if_ready u)) same ∙ a.0.unready;
        unsuspended = ap can_resume same ∙ a.0.unsuspended;
        free = ap wait_of same ∙ a.0.free;
      },
      still_can bits i s js a.1,
    )

all_still_can : (bits : ℕ) (is : List ℕ) (s : State) (js : List ℕ)
    → AllByRecursion (CanMeet s) js → AllByRecursion (CanMeet (keep_all bits is s)) js
all_still_can bits [] s js a = a
all_still_can bits (i ∷ is) s js a = all_still_can bits is (keep_answer i bits s) js (still_can bits i s js a)

are_there : (s : State) (is : List ℕ) → AllByRecursion (CanMeet s) is → AreThere s is
are_there s [] a = tt
are_there s (i ∷ is) a = ((a.0.within, a.0.unsuspended), are_there s is a.1)

kept_one : (k : Machine) (log : List Event) (s : State) → At k log s → (bits i : ℕ) → i < length s.tasks
    → At (record k { progress = keep_in bits k.progress i }) log (keep_answer i bits s)
kept_one k log s h bits i l =
    let P : Progress → Type 0 = λ p.
    At (with_progress i (record p { call = record p.call { kept = Some bits } }) k) log (keep_answer i bits s) in
    let off : (call_at s i).phase ≢ Place =
    (λ e. h.stands.rest.placed i (ap (λ (p : Progress). p.call.phase) (h.stands.rest.progress i) ∙ e)) in
    subst P (sym (h.stands.rest.progress i))
    (changed k log s h i l (record (progress_at s i) { call = record (call_at s i) { kept = Some bits } }) off (λ _. refl))

kept_at : (k : Machine) (log : List Event) (s : State) → At k log s → (bits : ℕ) (is : List ℕ)
    → AllByRecursion (CanMeet s) is → At (record k { progress = kept_by bits is k.progress }) log (keep_all bits is s)
kept_at k log s h bits [] a = h
kept_at k log s h bits (i ∷ is) a =
    kept_at (record k { progress = keep_in bits k.progress i }) log (keep_answer i bits s)
    (kept_one k log s h bits i a.0.within) bits is (still_can bits i s is a.1)

-- a task that doesn't wait at an object becomes Ready
all_waits_same : (is : List ℕ) (s : State) → AllByRecursion (λ i. wait_of (status_at s i) ≡ None) is
    → SameWaits s (for_each make_ready is s)
all_waits_same [] s a = same s
all_waits_same (i ∷ is) s a =
    same_both s (make_ready i s) (for_each make_ready is (make_ready i s))
    one (all_waits_same is (make_ready i s) (still is a.1)) where
      one : SameWaits s (make_ready i s)
      one = same_ready i s a.0

      still : (js : List ℕ) → AllByRecursion (λ j. wait_of (status_at s j) ≡ None) js
          → AllByRecursion (λ j. wait_of (status_at (make_ready i s) j) ≡ None) js
      still [] b = tt
      still (j ∷ js) b = (one.waits j ∙ b.0, still js b.1)

waits_nowhere : (s : State) (is : List ℕ) → AllByRecursion (CanMeet s) is → AllByRecursion (λ i. wait_of (status_at s i) ≡ None) is
waits_nowhere s [] a = tt
waits_nowhere s (i ∷ is) a = (a.0.free, waits_nowhere s is a.1)

module _ (k : Machine) (log : List Event) (s : State) (h : At k log s) (group mask : ℕ) (is : List ℕ)
    (bits : ℕ) (met : is ≡ met_by group (bits_set group mask s) s) (by : bits ≡ bits_set group mask s) where
  all_can : AllByRecursion (CanMeet s) is
  all_can = rw met (met_can s group (bits_set group mask s))

  abbrev kept : State
  kept = for_each (λ i. keep_answer i bits) is s

  abbrev woken : State
  woken = for_each make_ready is kept

  still_all : AllByRecursion (CanMeet kept) is
  still_all = all_still_can bits is s is all_can

  pub kept_there : AreThere (for_each (λ i. keep_answer i bits) is s) is
  kept_there = are_there kept is still_all

  kept_before : At (record k { progress = kept_by bits is k.progress }) log kept
  kept_before = kept_at k log s h bits is all_can

  pub sched_kept : sched.StandsFor k.sched (for_each (λ i. keep_answer i bits) is s)
  sched_kept = kept_before.stands.sched

  pub clock_kept : clock.StandsFor k.clock (for_each (λ i. keep_answer i bits) is s)
  clock_kept = kept_before.stands.rest.clock

  -- what the set makes of the state
  abbrev left : State
  left = with_bits group (left_by (met_by group (bits_set group mask s) s) (bits_set group mask s) s) woken

  set_is : set_in_group group mask s ≡ left
  unfolding set_in_group
  set_is =
      let one : wake_all (met_by group (bits_set group mask s) s) (bits_set group mask s) s ≡ woken =
      rw (met, by) (woken_in_turn (bits_set group mask s) (met_by group (bits_set group mask s) s) s) in
      ap (with_bits group (left_by (met_by group (bits_set group mask s) s) (bits_set group mask s) s)) one

  pub set_at : (v : Schedule) (t : Timeline) (g : EventGroups)
      → sched.StandsFor v (for_each make_ready is (for_each (λ i. keep_answer i bits) is s))
      → clock.StandsFor t (for_each make_ready is (for_each (λ i. keep_answer i bits) is s))
      → groups.StandsFor g (set_in_group group mask s)
      → At (record k { progress = kept_by bits is k.progress; sched = v; clock = t; groups = g }) log (set_in_group group mask s)
  set_at v t g on awake there =
      let before = kept_before.stands in
      let shown : groups.StandsFor g left = subst (groups.StandsFor g) set_is there in
      let waits : SameWaits kept left =
      same_both kept woken left (all_waits_same is kept (waits_nowhere kept is still_all)) (same_parts woken left refl refl refl) in
      let c = clock-same t woken left awake refl refl refl shown.table in
      subst (At (record k { progress = kept_by bits is k.progress; sched = v; clock = t; groups = g }) log) (sym set_is) (record {
        stands = record {
          sched = sched-same on shown.table refl refl refl;
          rest = rest_with_groups before.rest c (let e = released-all_ready is kept in omega (arith, e))
              (progress-all_ready is kept)
              (kept-all_ready is kept) waits shown;
        };
        log = kept_before.log ∙ sym (log-all_ready is kept);
      })

-- what is left of the bits is kept as the answer of the set
pub left_at : (k new : Machine) (log : List Event) (s : State) → At k log s → (i : ℕ) → k.sched.current ≡ Some i → (left bits : ℕ)
    → left ≡ bits
    → new
    ≡ with_progress i (record (progress_in k.progress i) { call = record (progress_in k.progress i).call { kept = Some left } }) k
    → At new log (keep_answer i bits s)
left_at k new log s h i r left bits e is =
    recalled k new log s h i r (record (progress_in k.progress i).call { kept = Some left })
    (record (call_at s i) { kept = Some bits }) is
    (ap (λ (p : Progress). record p.call { kept = Some left }) (h.stands.rest.progress i)
    ∙ ap (λ (n : ℕ). record (call_at s i) { kept = Some n }) e)
    (not_placing k new log s h i r) (λ _. refl)

-- Past Start and Leave, a wait for bits can decide.
pub decides_at_last : (k : Machine) (task : ℕ) (ticks : Option ℕ) (phase : Phase)
    → phase ≢ Start → phase ≢ Leave → CanAwaitEvent k task ticks phase → CanDecide k task
decides_at_last k task ticks Start off on can = absurd (off refl)
decides_at_last k task ticks Try off on can = can
decides_at_last k task ticks Decide off on can = can
decides_at_last k task ticks Place off on can = can
decides_at_last k task ticks Unlock off on can = can
decides_at_last k task ticks Leave off on can = absurd (on refl)

-- ---- the phases

module _ (app : Application) (old new : Machine) (old_log new_log : Logged) (task group : ℕ) where
  -- of a set
  pub set_in_phase : (mask : ℕ) (phase : Phase) → (progress_in old.progress task).call.phase ≡ phase
      → DoesAny 2 old old_log new new_log (set_bits app task group mask phase)
      → DoesAny 2 old old_log new new_log (act app task (SetBits group mask))
  set_in_phase mask phase e d = record {
    at = λ s h.
        let now : (call_at s task).phase ≡ phase =
        ap (λ (p : Progress). p.call.phase) (sym (progress_is old s h.stands task)) ∙ e in
        subst (λ (p : Phase). AtAny new new_log.told (set_bits app task group mask p s)) (sym now) (d.at s h);
    few = d.few;
    before = d.before;
  }

  -- of a wait
  pub wait_in_phase : (condition : Condition) (ticks : Option ℕ) (phase : Phase)
      → (progress_in old.progress task).call.phase ≡ phase
      → DoesAny 2 old old_log new new_log (wait_bits app task group condition ticks phase)
      → DoesAny 2 old old_log new new_log (act app task (WaitBits group condition ticks))
  wait_in_phase condition ticks phase e d = record {
    at = λ s h.
        let now : (call_at s task).phase ≡ phase =
        ap (λ (p : Progress). p.call.phase) (sym (progress_is old s h.stands task)) ∙ e in
        subst (λ (p : Phase). AtAny new new_log.told (wait_bits app task group condition ticks p s)) (sym now) (d.at s h);
    few = d.few;
    before = d.before;
  }

  waits_at_last : (condition : Condition) (ticks : Option ℕ) (phase : Phase) → phase ≢ Start → phase ≢ Leave
      → DoesAny 2 old old_log new new_log (λ s. final_bits app task group condition (call_at s task).kept s)
      → DoesAny 2 old old_log new new_log (wait_bits app task group condition ticks phase)
  waits_at_last condition ticks Start off on d = absurd (off refl)
  waits_at_last condition ticks Try off on d = d
  waits_at_last condition ticks Decide off on d = d
  waits_at_last condition ticks Place off on d = d
  waits_at_last condition ticks Unlock off on d = d
  waits_at_last condition ticks Leave off on d = absurd (on refl)

  -- past Start and Leave
  pub wait_at_last : (condition : Condition) (ticks : Option ℕ) (phase : Phase)
      → (progress_in old.progress task).call.phase ≡ phase → phase ≢ Start → phase ≢ Leave
      → DoesAny 2 old old_log new new_log (λ s. final_bits app task group condition (call_at s task).kept s)
      → DoesAny 2 old old_log new new_log (act app task (WaitBits group condition ticks))
  wait_at_last condition ticks phase e off on d =
      wait_in_phase condition ticks phase e (waits_at_last condition ticks phase off on d)
