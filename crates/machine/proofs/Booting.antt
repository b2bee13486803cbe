-- The kernel at reset.
use Rattle.std.proofs.Common.{◌≡◌, ◌≢◌, ◌<◌, ◌≤◌, ◌+◌, ℕ, zero, suc, Bool, true, false, cond, eqb, List, [], ◌∷◌, ◌++◌, map, length}
use Rattle.std.proofs.Common.{get_or, set, take, replicate, refl, ap, sym, subst, ◌∙◌, arith, get_or-set_same, get_or-set_other}
use Rattle.std.proofs.Common.{append-nil, length-append, inl, inr, None}
use Rattle.std.specs.List.{AllByRecursion}
use Rattle.std.proofs.lemmas.List.{take_more, map-append, length-map, get_or_past}
use Rattle.std.proofs.lemmas.Bool.{cases_lt}
use Rattle.model.specs.declared.call.Phase.TheVariants.{Place}
use Rattle.model.specs.declared.op.Op.{Op}
use Rattle.model.specs.Application.{Application, Definition, Limits}
use Rattle.model.specs.Scripts.{IsDefinition, IsWellFormed}
use Rattle.model.specs.State.{State, Task, Progress, no_call, Ready, Ended, wake_time_of, no_task, no_progress, task_at, status_at}
use Rattle.model.specs.State.{Source, no_source, for_each}
use Rattle.model.specs.Order.{keyed, list_by, tasks_of}
use Rattle.model.specs.Switching.{make_ready, ready_key, choice, choose, dispatch, is_held, is_same}
use Rattle.model.specs.Time.{delayed_key, due}
use Rattle.model.specs.Step.{task_at_reset, with_ops, reset, nobody_ready, ready_at_reset, source_at_reset}
use Rattle.model.proofs.Sorting.{by_test}
use Rattle.model.proofs.Lists.{eqb-refl, eqb-same}
use Rattle.model.proofs.Chosen.{choice_within, each-end, same_eq}
use Rattle.soundness.proofs.Keeping.{keeps-all_ready}
use Rattle.soundness.proofs.Settled.{held_by_none}
use Rattle.task_lists.specs.Priorities.{with_priorities}
use Rattle.sched.specs.StandsFor as sched
use Rattle.sched.specs.Schedule as schedule
use Rattle.sched.specs.Schedule.{Schedule, priority_in}
use Rattle.clock.specs.StandsFor as clock
use Rattle.clock.specs.StandsFor.{at_time}
use Rattle.clock.specs.Timeline.{Timeline}
use Rattle.clock.proofs.Sleepers as on_sleepers
use Rattle.std.proofs.Math.ListN.{length-set}
use Rattle.std.specs.Prelude.{None}
use Rattle.model.proofs.Tables.{table-make_ready}
use Rattle.soundness.proofs.Reached.{with_ops_within}
use Rattle.machine.specs.declared.machine.Machine.{Machine}
use Rattle.machine.specs.Sources.{Sources, source_from, source_in}
use Rattle.machine.specs.StandsFor.{progress_in, AreSources, StandsFor, Stands}
use Rattle.machine.specs.Boot.{priorities_in, HasNoneFrom}
use Rattle.machine.proofs.Arriving.{with_last}
use Rattle.machine.proofs.Parts.{clock-same, ready_alike, rest_with_clock}
use Rattle.sched.proofs.LinedUp.{ready_made}
use Rattle.machine.proofs.Waking.{released-all_ready, kept-all_ready, progress-all_ready, still_awake}
use Rattle.model.specs.Suspension.{can_resume}
use Rattle.groups.specs.StandsFor.{event_wait, SameEventWaits}
use Rattle.groups.proofs.Kept as bits_kept
use Rattle.model.specs.Invariant.{Hold, Suspension, IsTable}
use Rattle.model.proofs.Resets.{call-reset}
use Rattle.model.proofs.Statuses.{free_unwoken}
use Rattle.objects.specs.Objects as objects
use Rattle.objects.specs.Objects.{Objects, SameWaits}
use Rattle.objects.specs.WaitersStand.{AtLocked}
use Rattle.objects.proofs.Awake.{at_locked-nobody}
use Rattle.objects.proofs.Kept.{stands_same}
use Rattle.objects.proofs.Locking.{objects-all_ready}
use Rattle.objects.proofs.Resetting.{nobody_waits-reset}
use Rattle.model.specs.declared.plan.Injection.{Injection}
use Rattle.model.specs.Run.{state_after}
use Rattle.machine.specs.Can.{IsUnderWay}
use Rattle.machine.proofs.Either.{steps_are}

pub zeros : (n i : ℕ) → let nothing : ℕ = 0 in get_or (replicate n nothing) i nothing ≡ nothing
zeros zero i = refl
zeros (suc n) zero = refl
zeros (suc n) (suc i) = zeros n i

pub all_zero : (n : ℕ) → AllByRecursion (λ (priority : ℕ). priority < 32) (let nothing : ℕ = 0 in replicate n nothing)
all_zero zero = tt
all_zero (suc n) = (omega arith, all_zero n)

-- every place holds nothing, and so do those past the last
pub all_blank : (ps : List Progress) → length ps ≡ 32
    → ((i : ℕ) → i < 32 → get_or ps i no_progress ≡ no_progress) → (i : ℕ) → progress_in ps i ≡ no_progress
all_blank ps n h i = elim (cases_lt i 32) [ inl l ↦ h i l | inr m ↦ get_or_past ps i no_progress (omega arith) ]

-- no task is in a list

none_keyed_ready : (start : ℕ) (ds : List Definition) (o : ℕ) → keyed ready_key o (map (task_at_reset start) ds) ≡ []
none_keyed_ready start [] o = refl
none_keyed_ready start (d ∷ ds) o = none_keyed_ready start ds (o + 1)

none_keyed_delayed : (start : ℕ) (ds : List Definition) (o : ℕ) → keyed delayed_key o (map (task_at_reset start) ds) ≡ []
none_keyed_delayed start [] o = refl
none_keyed_delayed start (d ∷ ds) o = none_keyed_delayed start ds (o + 1)

pub none_ready : (start : ℕ) (ds : List Definition) → with_priorities (list_by ready_key (map (task_at_reset start) ds)) ≡ []
none_ready start ds = rw (none_keyed_ready start ds 0) refl

none_delayed : (start : ℕ) (ds : List Definition) → list_by delayed_key (map (task_at_reset start) ds) ≡ []
none_delayed start ds = rw (none_keyed_delayed start ds 0) refl

pub none_due : (app : Application) (m : ℕ) → tasks_of (due (at_time (nobody_ready app) m)) ≡ []
unfolding nobody_ready
none_due app m = rw (none_delayed app.start app.tasks) refl

-- ---- priorities

pub priority_at : (start : ℕ) (ds : List Definition) (i : ℕ)
    → priority_in (priorities_in ds) i ≡ (get_or (map (task_at_reset start) ds) i no_task).priority
priority_at start [] i = refl
priority_at start (d ∷ ds) zero = refl
priority_at start (d ∷ ds) (suc i) = priority_at start ds i

pub base_priority_at : (start : ℕ) (ds : List Definition) (i : ℕ)
    → priority_in (priorities_in ds) i ≡ (get_or (map (task_at_reset start) ds) i no_task).base_priority
base_priority_at start [] i = refl
base_priority_at start (d ∷ ds) zero = refl
base_priority_at start (d ∷ ds) (suc i) = base_priority_at start ds i

priority_at_low : (ds : List Definition) (k : ℕ) (d : Definition)
    → AllByRecursion IsDefinition ds → k < length ds → (get_or ds k d).priority < 32
priority_at_low [] k d h l = absurd (omega arith)
priority_at_low (x ∷ ds) zero d h l = h.0.priority
priority_at_low (x ∷ ds) (suc k) d h l = priority_at_low ds k d h.1 (omega arith)

pub priority_low : (ds : List Definition) (k : ℕ) (d : Definition)
    → AllByRecursion IsDefinition ds → k < length ds → d ≡ get_or ds k d → d.priority < 32
priority_low ds k d h l e = rw e (priority_at_low ds k d h l)

pub known_more : (ps : List ℕ) (k p : ℕ) → AllByRecursion (λ (n : ℕ). n < 32) ps
    → p < 32 → AllByRecursion (λ (n : ℕ). n < 32) (set ps k p)
known_more [] k p h l = tt
known_more (q ∷ ps) zero p h l = (l, h.1)
known_more (q ∷ ps) (suc k) p h l = (h.0, known_more ps k p h.1 l)

-- ---- one task more

at_end : {X : Type 0} → (xs : List X) (y d : X) → get_or (xs ++ y ∷ []) (length xs) d ≡ y
at_end [] y d = refl
at_end (x ∷ xs) y d = at_end xs y d

not_at_end : {X : Type 0} → (xs : List X) (y d : X) (i : ℕ) → i ≢ length xs → get_or (xs ++ y ∷ []) i d ≡ get_or xs i d
not_at_end [] y d zero h = absurd (h refl)
not_at_end [] y d (suc i) h = refl
not_at_end (x ∷ xs) y d zero h = refl
not_at_end (x ∷ xs) y d (suc i) h = not_at_end xs y d i (λ e. h (ap suc e))

length_taken : (ds : List Definition) (k : ℕ) → k < length ds → length (take k ds) ≡ k
length_taken [] k l = absurd (omega arith)
length_taken (d ∷ ds) zero l = refl
length_taken (d ∷ ds) (suc k) l = ap suc (length_taken ds k (omega arith))

-- An array whose places are those of a list, each seen in a way, and one more of each
filled_more : {V X : Type 0} → (array : List V) (none v : V) (xs : List X) (empty x : X) (look : X → V) (k : ℕ)
    → k ≡ length xs → k < length array → ((i : ℕ) → get_or array i none ≡ look (get_or xs i empty))
    → v ≡ look x → (i : ℕ) → get_or (set array k v) i none ≡ look (get_or (xs ++ x ∷ []) i empty)
filled_more array none v xs empty x look k long l h e i = by_test (eqb i k)
    (λ u. let same : i ≡ k = eqb-same i k u in
    rw (same, get_or-set_same array k v none l)
    (e ∙ ap look (sym (ap (λ n. get_or (xs ++ x ∷ []) n empty) long ∙ at_end xs x empty))))
    (λ u. let apart : i ≢ k = (λ q. let w : eqb i k ≡ true = rw q (eqb-refl k) in absurd (cc)) in
    rw (get_or-set_other array k i v none apart) (h i ∙ ap look (sym (not_at_end xs x empty i (λ q. apart (q ∙ sym long))))))

module _ (ds : List Definition) (k : ℕ) (d : Definition) (few : length ds ≤ 32) (l : k < length ds) (at : d ≡ get_or ds k d) where
  one_more : take (k + 1) ds ≡ take k ds ++ d ∷ []
  one_more = take_more ds k d l ∙ ap (λ x. take k ds ++ x ∷ []) (sym at)

  pub progress_more : (start : ℕ) (ps : List Progress) → length ps ≡ 32
      → ((i : ℕ) → progress_in ps i ≡ (get_or (map (task_at_reset start) (take k ds)) i no_task).progress)
      → (p : Progress) → p ≡ record no_progress { previous_wake = start; stamp = start } → (i : ℕ)
      → progress_in (set ps k p) i ≡ (get_or (map (task_at_reset start) (take (k + 1) ds)) i no_task).progress
  progress_more start ps full h p e i =
      let more : map (task_at_reset start) (take (k + 1) ds) ≡ map (task_at_reset start) (take k ds) ++ task_at_reset start d ∷ [] =
      ap (map (task_at_reset start)) one_more ∙ map-append (task_at_reset start) (take k ds) (d ∷ []) in
      let long : k ≡ length (map (task_at_reset start) (take k ds)) =
      sym (length-map (take k ds) (task_at_reset start) ∙ length_taken ds k l) in
      rw more (filled_more ps no_progress p (map (task_at_reset start) (take k ds)) no_task
      (task_at_reset start d) (λ (t : Task). t.progress) k long (omega arith) h e i)

  pub priorities_more : (ps : List ℕ) → length ps ≡ 32 → ((i : ℕ) → get_or ps i 0 ≡ get_or (priorities_in (take k ds)) i 0)
      → (i : ℕ) → get_or (set ps k d.priority) i 0 ≡ get_or (priorities_in (take (k + 1) ds)) i 0
  priorities_more ps full h i =
      let more : priorities_in (take (k + 1) ds) ≡ priorities_in (take k ds) ++ d.priority ∷ [] =
      ap priorities_in one_more ∙ map-append (λ (x : Definition). x.priority) (take k ds) (d ∷ []) in
      let long : k ≡ length (priorities_in (take k ds)) =
      sym (length-map (take k ds) (λ (x : Definition). x.priority) ∙ length_taken ds k l) in
      rw more (filled_more ps 0 d.priority (priorities_in (take k ds)) 0 d.priority (λ (n : ℕ). n) k long (omega arith) h refl i)

-- ---- the tasks that have an op

with_ops-append : (o : ℕ) (ds : List Definition) (d : Definition)
    → with_ops o (ds ++ d ∷ []) ≡ with_ops o ds ++ cond (eqb (length d.script) 0) [] ((o + length ds) ∷ [])
with_ops-append o [] d = let n : o + 0 ≡ o = omega arith in rw n refl
with_ops-append o (x ∷ ds) d =
    let n : (o + 1) + length ds ≡ o + suc (length ds) = omega arith in
    let later : with_ops (o + 1) (ds ++ d ∷ [])
    ≡ with_ops (o + 1) ds ++ cond (eqb (length d.script) 0) [] ((o + suc (length ds)) ∷ []) =
    rw n at (with_ops-append (o + 1) ds d) in
    by_test (eqb (length x.script) 0) (λ t. rw t later) (λ t. rw t (ap (λ l. o ∷ l) later))

pub empty_of : {ops script : List Op} {b : Bool} → ops ≡ script → eqb (length ops) 0 ≡ b → eqb (length script) 0 ≡ b
empty_of {ops} {script} {b} e t = ap (λ (xs : List Op). eqb (length xs) 0) (sym e) ∙ t

module _ (s : State) (ds : List Definition) (j : ℕ) (d : Definition) (l : j < length ds) (at : d ≡ get_or ds j d) where
  with_more : with_ops 0 (take (j + 1) ds) ≡ with_ops 0 (take j ds) ++ cond (eqb (length d.script) 0) [] (j ∷ [])
  with_more =
      ap (with_ops 0) (take_more ds j d l ∙ ap (λ x. take j ds ++ x ∷ []) (sym at)) ∙ with_ops-append 0 (take j ds) d
      ∙ rw (length_taken ds j l) (let z : 0 + j ≡ j = omega arith in rw z refl)

  abbrev so : State
  so = for_each make_ready (with_ops 0 (take j ds)) s

  pub ready_skipped : (v : Schedule) → eqb (length d.script) 0 ≡ true → sched.StandsFor v so
      → sched.StandsFor v (for_each make_ready (with_ops 0 (take (j + 1) ds)) s)
  ready_skipped v e h =
      let same : with_ops 0 (take (j + 1) ds) ≡ with_ops 0 (take j ds) = with_more ∙ rw e (append-nil (with_ops 0 (take j ds))) in
      rw same h

  pub ready_one_more : (new : Schedule) → eqb (length d.script) 0 ≡ false → length s.tasks ≡ length ds
      → ((i : ℕ) → can_resume (status_at s i) ≡ false)
      → (j < length so.tasks → can_resume (status_at so j) ≡ false → sched.StandsFor new (make_ready j so))
      → sched.StandsFor new (for_each make_ready (with_ops 0 (take (j + 1) ds)) s)
  ready_one_more new e n awake goes =
      let same : with_ops 0 (take (j + 1) ds) ≡ with_ops 0 (take j ds) ++ j ∷ [] = with_more ∙ rw e refl in
      let low : j < length so.tasks = rw ((keeps-all_ready (with_ops 0 (take j ds)) s).tasks, n) l in
      rw (same, each-end make_ready s (with_ops 0 (take j ds)) j) (goes low (still_awake s (with_ops 0 (take j ds)) j (awake j)))

pub none_more : (v new : Schedule) (j : ℕ) → new ≡ schedule.make_ready j v → HasNoneFrom j v → HasNoneFrom (j + 1) new
none_more v new j is h task le =
    let P : Schedule → Type 0 = λ x. schedule.is_ready x task ≡ false in
    let ne : task ≢ j = omega arith in
    subst P (sym is) (ready_made v j task ne ∙ h task (omega arith))

pub none_less : (v : Schedule) (j : ℕ) → HasNoneFrom j v → HasNoneFrom (j + 1) v
none_less v j h task le = h task (omega arith)

-- ---- the choice runs, and that is no event

sched_chosen : (v : Schedule) (s : State) → sched.StandsFor v (choose s) → sched.StandsFor v (record s { current = choice s })
unfolding choose dispatch
sched_chosen v s h = by_test (is_same (choice s) s.current)
    (λ t. let g : sched.StandsFor v s = rw t at h in
    record {
      ready = g.ready;
      current = g.current ∙ sym (same_eq (choice s) s.current t);
      priorities = g.priorities;
      base_priorities = g.base_priorities;
      depth = g.depth;
      suspensions = g.suspensions;
      suspended = g.suspended;
      table = record { tickets = g.table.tickets; few = g.table.few; current = choice_within s; holders = g.table.holders };
    })
    (λ t. let g = rw t at h in
    record {
      ready = g.ready;
      current = g.current;
      priorities = g.priorities;
      base_priorities = g.base_priorities;
      depth = g.depth;
      suspensions = g.suspensions;
      suspended = g.suspended;
      table = record { tickets = g.table.tickets; few = g.table.few; current = choice_within s; holders = g.table.holders };
    })

-- Nobody sleeps.
NobodyAsleep : State → Type 0
NobodyAsleep s = (i : ℕ) → wake_time_of (status_at s i) ≡ None

awake-ready : (s : State) (i : ℕ) → NobodyAsleep s → NobodyAsleep (make_ready i s)
unfolding NobodyAsleep
awake-ready s i h j = by_index s.tasks i j h where
  by_index : (ts : List Task) (i j : ℕ) → ((j : ℕ) → wake_time_of (get_or ts j no_task).status ≡ None)
      → wake_time_of (get_or (set ts i (record (get_or ts i no_task) { status = Ready s.next_ticket })) j no_task).status ≡ None
  by_index [] i j h = refl
  by_index (u ∷ us) zero zero h = refl
  by_index (u ∷ us) zero (suc j) h = h (suc j)
  by_index (u ∷ us) (suc i) zero h = h 0
  by_index (u ∷ us) (suc i) (suc j) h = by_index us i j (λ k. h (suc k))

ended_at_reset : (start : ℕ) (ds : List Definition) (i : ℕ)
    → wake_time_of (get_or (map (task_at_reset start) ds) i no_task).status ≡ None
ended_at_reset start [] i = refl
ended_at_reset start (d ∷ ds) zero = refl
ended_at_reset start (d ∷ ds) (suc i) = ended_at_reset start ds i

clock-all_ready : (t : Timeline) (is : List ℕ) (s : State) → clock.StandsFor t s → NobodyAsleep s
    → AllByRecursion (λ i. i < length s.tasks) is → clock.StandsFor t (for_each make_ready is s)
unfolding NobodyAsleep
clock-all_ready t [] s h none l = h
clock-all_ready t (i ∷ is) s h none l =
    let u : Task = record (task_at s i) { status = Ready s.next_ticket } in
    let next : clock.StandsFor t (make_ready i s) =
    on_sleepers.stands_kept t s (make_ready i s) i u h l.0 refl refl refl
    (ready_alike (status_at s i) s.next_ticket (none i)) (table-make_ready s i h.table) in
    clock-all_ready t is (make_ready i s) next (awake-ready s i none) (still_within is l.1) where
      still_within : (js : List ℕ) → AllByRecursion (λ j. j < length s.tasks) js
          → AllByRecursion (λ j. j < length (make_ready i s).tasks) js
      still_within [] a = tt
      still_within (j ∷ js) a = (rw length-set a.0, still_within js a.1)

-- Nobody waits, before the tasks become Ready and after.
module _ (app : Application) where
  same_at_reset : SameWaits (nobody_ready app) (reset app)
  unfolding nobody_ready reset ready_at_reset
  same_at_reset = record {
    objects = objects-all_ready (with_ops 0 app.tasks) (nobody_ready app);
    waits = λ i. nobody_waits-reset app i ∙ sym (call-reset app.start i app.tasks).1;
    awake = λ i. free_unwoken _ (nobody_waits-reset app i) ∙ sym (free_unwoken _ (call-reset app.start i app.tasks).1);
    locked = ap (λ (hold : Hold). hold.locked) (keeps-all_ready (with_ops 0 app.tasks) (nobody_ready app)).hold;
  }

  pub objects_at_reset : (v : Objects) → objects.StandsFor v None (reset app)
      → IsTable (nobody_ready app) → objects.StandsFor v None (nobody_ready app)
  objects_at_reset v h table =
      let same = same_at_reset in
      stands_same (reset app) (nobody_ready app)
      (record {
        objects = sym same.objects;
        waits = λ i. sym (same.waits i);
        awake = λ i. sym (same.awake i);
        locked = sym same.locked;
      })
      v None h table

  pub nobody_awake-reset : AtLocked None (nobody_ready app)
  unfolding nobody_ready
  nobody_awake-reset = at_locked-nobody (nobody_ready app) (λ i. free_unwoken _ (call-reset app.start i app.tasks).1)

  pub none_placing : (ps : List Progress)
      → ((i : ℕ) → progress_in ps i ≡ (get_or (map (task_at_reset app.start) app.tasks) i no_task).progress)
      → (i : ℕ) → (progress_in ps i).call.phase ≢ Place
  none_placing ps h i q =
      let e : (progress_in ps i).call ≡ no_call = ap (λ (p : Progress). p.call) (h i) ∙ (call-reset app.start i app.tasks).0 in
      let f = rw e at q in
      absurd (cc)

-- nobody is suspended in a new scheduler
pub nobody_suspended : (i : ℕ) → get_or (replicate 32 false) i false ≡ false
nobody_suspended i = all_false 32 i where
  all_false : (n i : ℕ) → get_or (replicate n false) i false ≡ false
  all_false zero i = refl
  all_false (suc n) zero = refl
  all_false (suc n) (suc i) = all_false n i

-- nobody has been Ready yet
pub ended_reset : (start i : ℕ) (ds : List Definition) → (get_or (map (task_at_reset start) ds) i no_task).status ≡ Ended
ended_reset start i [] = refl
ended_reset start zero (d ∷ ds) = refl
ended_reset start (suc i) (d ∷ ds) = ended_reset start i ds

pub booted : (app : Application) → IsWellFormed app → (k : Machine) (v w : Schedule) → StandsFor k (nobody_ready app)
    → sched.StandsFor v (for_each make_ready (with_ops 0 app.tasks) (nobody_ready app))
    → ((s : State) → sched.StandsFor v s → is_held s ≡ false → sched.StandsFor w (choose s))
    → StandsFor (record k { sched = w }) (reset app)
unfolding reset ready_at_reset nobody_ready NobodyAsleep
booted app formed k v w h ready chooses =
    let none : State = nobody_ready app in
    let is : List ℕ = with_ops 0 app.tasks in
    let s : State = for_each make_ready is none in
    let low : AllByRecursion (λ i. i < length none.tasks) is =
    with_ops_within 0 (length none.tasks) app.tasks
    (let n : length none.tasks ≡ length app.tasks = length-map app.tasks (task_at_reset app.start) in omega arith) in
    let awake : (i : ℕ) → wake_time_of (status_at none i) ≡ None = ended_at_reset app.start app.tasks in
    let keep = keeps-all_ready is none in
    let on =
    sched_chosen w s (chooses s ready
    (held_by_none s (ap (λ (h : Hold). h.held) keep.hold) (ap (λ (x : Suspension). x.suspensions) keep.suspension)
    (ap (λ (x : Suspension). x.sections) keep.suspension))) in
    let bits : SameEventWaits none (reset app) =
    bits_kept.same_both none s (reset app) (bits_kept.same_all_ready is none (nobody_waits is))
    (bits_kept.same_parts s (reset app) refl refl) in
    let c =
    clock-same k.clock s (record s { current = choice s })
    (clock-all_ready k.clock is none h.rest.clock awake low) refl refl refl on.table in
    record {
      sched = on;
      rest =
          rest_with_clock h.rest c (let e = released-all_ready is none in omega (arith, e)) (progress-all_ready is none)
          (kept-all_ready is none) (same_at_reset app) bits;
    } where
      nobody_waits : (js : List ℕ) → AllByRecursion (λ i. event_wait (status_at (nobody_ready app) i) ≡ None) js
      nobody_waits [] = tt
      nobody_waits (j ∷ js) = (ap event_wait (ended_reset app.start j app.tasks), nobody_waits js)

-- ---- the sources

pub sources_at_reset : (app : Application) → length app.handlers ≤ 16 → (kept : Sources)
    → kept.number ≡ length app.handlers + 1
    → ((source : ℕ) → source_in kept source ≡ get_or (map source_at_reset app.handlers) source no_source)
    → (length kept.pending ≡ 17) × (length kept.arrivals ≡ 17)
    → AreSources 0 kept (map source_at_reset app.handlers ++ no_source ∷ [])
sources_at_reset app few kept number each full =
    let of_handlers : List Source = map source_at_reset app.handlers in
    let many : length (of_handlers ++ no_source ∷ []) ≡ length app.handlers + 1 =
    length-append of_handlers (no_source ∷ []) ∙ ap (λ (n : ℕ). n + 1) (length-map app.handlers source_at_reset) in
    record {
      number = number ∙ sym many;
      same = λ source. ap (source_from 0) (each source ∙ with_last of_handlers no_source source);
      full = full;
      few = omega arith;
    }

-- ---- how many steps are done

pub steps-reset : (app : Application) → (reset app).steps ≡ 0
unfolding reset ready_at_reset nobody_ready
steps-reset app = (keeps-all_ready (with_ops 0 app.tasks) (nobody_ready app)).steps

-- the kernel at reset
pub steps_begin : (app : Application) (k : Machine) → Stands k (reset app) → k.steps ≡ 0
steps_begin app k h = steps_are k (reset app) h ∙ steps-reset app

pub begins : (app : Application) (plan : List Injection) (limits : Limits) (k : Machine)
    → Stands k (reset app) → IsUnderWay app plan limits k
begins app plan limits k h = record {
  stands = let Q : ℕ → Type 0 = λ n. Stands k (state_after app limits plan n) in subst Q (sym (steps_begin app k h)) h;
  goes_on = λ n l. let e = steps_begin app k h in absurd (omega arith);
}
