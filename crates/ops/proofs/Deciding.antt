-- A call decides to wait, and is placed: what that makes of the states that the kernel represents.
use Rattle.std.proofs.Common.{◌≡◌, ◌≢◌, ◌<◌, ◌+◌, ◌||◌, ℕ, Bool, true, false, eqb, set, List, [], length, get_or, get_or-set_same}
use Rattle.std.proofs.Common.{get_or-set_other, Option, Some, None, refl, ap, sym, subst, ◌∙◌, arith}
use Rattle.std.specs.Prelude.{if◌then◌else◌}
use Rattle.std.specs.Option.{IfSome}
use Rattle.std.proofs.Math.ListN.{length-set}
use Rattle.model.specs.declared.call.CallProgress.{CallProgress}
use Rattle.model.specs.declared.call.Phase.{Phase}
use Rattle.model.specs.declared.call.Phase.TheVariants.{Place, Unlock, Start, Try, Decide, Leave}
use Rattle.model.specs.declared.call.WaitList.{WaitList}
use Rattle.model.specs.declared.op.Access.{Access}
use Rattle.model.specs.declared.event.Event.{Event}
use Rattle.model.specs.State.{State, Task, Progress, Waiting, Wait, wait_if_awake, task_at, status_at, progress_at, call_at}
use Rattle.model.specs.State.{with_task, go_on, no_task}
use Rattle.model.specs.Switching.{is_ready}
use Rattle.model.specs.Waiting.{wait_in, is_expired, let_go}
use Rattle.model.specs.Objects.{possible, list_for}
use Rattle.model.specs.Calls.{lock, decide}
use Rattle.model.specs.Mutexes.{inherit}
use Rattle.model.specs.Invariant.{IsTable}
use Rattle.model.proofs.Sorting.{by_test}
use Rattle.model.proofs.Lists.{eqb-refl, eqb-same}
use Rattle.model.proofs.Tables.{ticket_at, table-set}
use Rattle.model.proofs.Statuses.{ready_free}
use Rattle.sched.specs.StandsFor as sched
use Rattle.sched.specs.StandsFor.{task_holds_of}
use Rattle.sched.specs.Schedule.{Schedule, IsCalm}
use Rattle.sched.proofs.Standing as on_sched
use Rattle.clock.specs.StandsFor as clock
use Rattle.clock.specs.Timeline.{Timeline}
use Rattle.clock.proofs.Standing as on_clock
use Rattle.clock.proofs.Sleepers as on_sleepers
use Rattle.objects.specs.WaitersStand.{AtLocked}
use Rattle.objects.specs.Objects as objects
use Rattle.objects.specs.Objects.{CountsNobody, Objects, SameWaits, locked_by}
use Rattle.objects.proofs.Kept.{stands_same, same_progress}
use Rattle.objects.proofs.Awake.{nobody_awake, at_locked_same, at_locked-locked, at_locked-decides, at_locked-placed}
use Rattle.objects.proofs.Deciding.{stands_deciding}
use Rattle.groups.specs.StandsFor as groups
use Rattle.groups.proofs.Standing as on_groups
use Rattle.groups.proofs.Kept as bits_kept
use Rattle.groups.proofs.Kept.{ready_waits_not}
use Rattle.groups.proofs.Elsewhere as bits_elsewhere
use Rattle.machine.specs.declared.machine.Machine.{Machine}
use Rattle.machine.specs.StandsFor.{AreNotifications, AreSources, StandsBefore, At, AtAny, decider, progress_in, released_ticks}
use Rattle.machine.specs.StandsFor.{with_progress}
use Rattle.machine.specs.StandsFor.Stands.{Placing}
use Rattle.ops.specs.Can.{CanDecide, CanLeave}
use Rattle.machine.proofs.Parts.{clock-same, progress-set, rest_unseen, rest_with_objects, same_parts, same_alike, sched-same}
use Rattle.machine.proofs.Parts.{sources_on}
use Rattle.machine.proofs.Acting.{within}
use Rattle.machine.proofs.Continuing.{recalled}
use Rattle.ops.specs.InCall.{IsSilent}

pub not_held : (n : ℕ) (b : Bool) (depth : ℕ) → depth ≡ n + (if b then 1 else 0) → depth ≡ 0 → b ≡ false
not_held n true depth e z = absurd (omega (arith, e, z))
not_held n false depth e z = refl

is_held : (n : ℕ) (b : Bool) (depth : ℕ) → depth ≡ n + (if b then 1 else 0) → n ≡ 0 → depth ≡ 1 → b ≡ true
is_held n true depth e z l = refl
is_held n false depth e z l = absurd (omega (arith, e, z, l))

-- ---- a task begins to wait

-- What the task is then, and that it is placed next.
module _ (s : State) (i : ℕ) (list : WaitList) (object : ℕ) (l : i < length s.tasks) where
  abbrev begun : State
  begun = wait_in i list s

  abbrev pub locked_then : State
  locked_then = record begun { call_hold = true; locked = Some object }

  abbrev pub decided : State
  decided = go_on i Place locked_then

  call : CallProgress
  call = record (call_at s i) { waits = true }

  first : Task
  unfolding call
  first = record (task_at s i) { progress = record (progress_at s i) { call = call } }

  wait : Wait
  wait = record { list = list; priority = (task_at s i).priority; ticket = s.next_ticket; deadline = (call_at s i).deadline }

  then_tasks : begun.tasks ≡ set (set s.tasks i first) i (record (get_or (set s.tasks i first) i no_task) { status = Waiting wait })
  unfolding wait_in first call wait
  then_tasks = refl

  begun_length : length begun.tasks ≡ length s.tasks
  begun_length = ap (λ (ts : List Task). length ts) then_tasks ∙ length-set (set s.tasks i first) i _ ∙ length-set s.tasks i first

  begun_within : i < length begun.tasks
  begun_within = rw begun_length l

  begun_at : task_at begun i ≡ record first { status = Waiting wait }
  begun_at =
      let here : get_or (set s.tasks i first) i no_task ≡ first = get_or-set_same s.tasks i first no_task l in
      let m : i < length (set s.tasks i first) = rw length-set l in
      ap (λ (ts : List Task). get_or ts i no_task) then_tasks
      ∙ get_or-set_same (set s.tasks i first) i
      (record (get_or (set s.tasks i first) i no_task) { status = Waiting wait }) no_task m
      ∙ ap (λ (t : Task). record t { status = Waiting wait }) here

  begun_others : (j : ℕ) → j ≢ i → task_at begun j ≡ task_at s j
  begun_others j ne =
      ap (λ (ts : List Task). get_or ts j no_task) then_tasks
      ∙ get_or-set_other (set s.tasks i first) i j
      (record (get_or (set s.tasks i first) i no_task) { status = Waiting wait }) no_task ne
      ∙ get_or-set_other s.tasks i j first no_task ne

  next_call : CallProgress
  next_call = record (call_at begun i) { phase = Place }

  last : Task
  unfolding next_call
  last = record (task_at begun i) { progress = record (progress_at begun i) { call = next_call } }

  decided_at : task_at decided i ≡ last
  unfolding last next_call
  decided_at = get_or-set_same begun.tasks i last no_task begun_within

  decided_others : (j : ℕ) → j ≢ i → task_at decided j ≡ task_at s j
  unfolding last next_call
  decided_others j ne = get_or-set_other begun.tasks i j last no_task ne ∙ begun_others j ne

  pub progress_decided : progress_at decided i
      ≡ record (progress_at s i) { call = record (call_at s i) { phase = Place; waits = true } }
  unfolding last next_call first call
  progress_decided =
      ap (λ (t : Task). t.progress) decided_at
      ∙ ap (λ (t : Task). record t.progress { call = record t.progress.call { phase = Place } }) begun_at

  pub priority_decided : (task_at decided i).priority ≡ (task_at s i).priority
  unfolding last next_call first call
  priority_decided = ap (λ (t : Task). t.priority) decided_at ∙ ap (λ (t : Task). t.priority) begun_at

  pub progress_others : (j : ℕ) → j ≢ i → progress_at decided j ≡ progress_at s j
  progress_others j ne = ap (λ (t : Task). t.progress) (decided_others j ne)

  pub begun_free : (begun.call_hold ≡ s.call_hold) × (begun.current ≡ s.current) × (begun.time ≡ s.time)
      × (begun.elapsed ≡ s.elapsed) × (begun.steps ≡ s.steps) × (begun.stopped ≡ s.stopped) × (begun.log ≡ s.log)
      × (begun.sources ≡ s.sources) × (begun.sections ≡ s.sections) × (begun.variables ≡ s.variables)
      × (begun.notifications ≡ s.notifications) × (begun.held_ticks ≡ s.held_ticks)
  unfolding wait_in
  begun_free = (refl, refl, refl, refl, refl, refl, refl, refl, refl, refl, refl, refl)

  -- the scheduler
  pub sched_decided : (v : Schedule) → v.pending ≡ [] → sched.StandsFor v s → is_ready s i ≡ true → s.call_hold ≡ false
      → (w : Schedule) → w ≡ record v { depth = v.depth + 1 } → IsTable decided → sched.StandsBefore i w decided
  unfolding last next_call
  sched_decided v calm h ready free w is table =
      let one : sched.StandsBefore i v begun = on_sched.stands_waiting v s i list calm h l ready in
      let mid : IsTable locked_then =
      record { tickets = one.table.tickets; few = one.table.few; current = one.table.current; holders = one.table.holders } in
      let two = on_sched.stands_before_held v begun locked_then i one (begun_free.0 ∙ free) refl refl refl mid in
      rw is (on_sched.stands_before_kept (record v { depth = v.depth + 1 }) locked_then
      decided i i last two begun_within refl refl refl refl refl refl table refl)

  -- the clock
  pub clock_decided : (t : Timeline) → clock.StandsFor t s → is_ready s i ≡ true
      → IsTable decided → clock.StandsBefore i (call_at decided i).deadline t decided
  unfolding last next_call
  clock_decided t h ready table =
      let one : clock.StandsBefore i (call_at s i).deadline t begun = on_clock.stands_waiting t s i list h l ready in
      let same : (call_at decided i).deadline ≡ (call_at s i).deadline = ap (λ (p : Progress). p.call.deadline) progress_decided in
      subst (λ (d : Option ℕ). clock.StandsBefore i d t decided) (sym same)
      (on_sleepers.stands_before_kept t begun decided i i (call_at s i).deadline last one
      begun_within refl refl refl (record { key = refl; wake_time = refl }) table)

-- The queue is locked, and the scheduler held.
module _ (k : Machine) (log : List Event) (s : State) (h : At k log s) (i o : ℕ) (c : CanDecide k i) (v : Schedule) (q : Objects)
    (calm : IsCalm k.sched) (holds : s.call_hold ≡ false → sched.StandsFor v (record s { call_hold = true }))
    (held : v ≡ record k.sched { depth = k.sched.depth + 1 })
    (locks : ((j : ℕ) → wait_if_awake (status_at s j) ≡ None) → objects.StandsFor q None (record s { locked = Some o })) where
  l : i < length s.tasks
  l = within k log s h i c.runs.current

  free : s.call_hold ≡ false
  free = not_held (task_holds_of s) s.call_hold k.sched.depth h.stands.sched.depth c.depth

  unlocked : s.locked ≡ None
  unlocked = sym h.stands.rest.objects.locked ∙ ap locked_by c.free

  ready : is_ready s i ≡ true
  ready = sym (on_sched.ready_same k.sched s i h.stands.sched) ∙ c.runs.ready

  locking : objects.StandsFor q None (record s { locked = Some o })
  locking = locks (nobody_awake None s unlocked h.stands.rest.awake)

  -- and the call goes on: nobody waits
  abbrev shut : State
  shut = record s { call_hold = true; locked = Some o }

  pub held_at : At (record k { sched = v; objects = q }) log shut
  held_at =
      let on = holds free in
      let table : IsTable shut =
      record { tickets = on.table.tickets; few = on.table.few; current = on.table.current; holders = on.table.holders } in
      let there : State = record s { locked = Some o } in
      let same : SameWaits there shut = same_parts there shut refl refl refl in
      let c = clock-same k.clock s shut h.stands.rest.clock refl refl refl table in
      let locked = at_locked_same None there shut same (at_locked-locked s o unlocked h.stands.rest.awake) in
      record {
        stands = record {
          sched = sched-same on table refl refl refl;
          rest =
              rest_with_objects h.stands.rest c (omega arith) (λ _. refl) refl (stands_same there shut same q None locking table)
              locked (bits_kept.same_parts s shut refl refl);
        };
        log = h.log;
      }

  -- or it waits
  module _ (a : Access ℕ) (nobody : CountsNobody q) (next : WaitList) (next_is : next ≡ list_for o a) (p : Progress)
      (is : p
      ≡ record (progress_in k.progress i) { call = record (progress_in k.progress i).call { phase = Place; waits = true } }) where
    list : WaitList
    list = list_for o a

    after : State
    unfolding list
    after = decided s i list o l

    in_place : objects.StandsFor q (Some (decider i list after)) after
    unfolding list after
    in_place =
        subst (λ (n : ℕ). objects.StandsFor q (Some (record { task = i; list = list_for o a; priority = n })) after)
        (sym (priority_decided s i list o l))
        (stands_deciding q s i o locking a l (ready_free (status_at s i) ready) nobody)

    awake_there : AtLocked (Some (decider i list after)) after
    unfolding list after
    awake_there = at_locked-decides s i o a unlocked h.stands.rest.awake (task_at after i).priority l

    table : IsTable after
    table = in_place.waiters.table

    long : i < length k.progress
    long = let n = h.stands.rest.full in let m = h.stands.sched.table.few in let w = l in omega arith

    own : p ≡ record (progress_at s i) { call = record (call_at s i) { phase = Place; waits = true } }
    unfolding list
    own = is ∙ ap (λ (x : Progress). record x { call = record x.call { phase = Place; waits = true } }) (h.stands.rest.progress i)

    progress_then : (j : ℕ) → progress_in (set k.progress i p) j ≡ progress_at after j
    unfolding list after
    progress_then j = by_test (eqb j i)
        (λ u. let same : j ≡ i = eqb-same j i u in
        rw (same, get_or-set_same k.progress i p _ long) (own ∙ sym (progress_decided s i list o l)))
        (λ u. let apart : j ≢ i = (λ e. let w : eqb j i ≡ true = rw e (eqb-refl i) in absurd (cc)) in
        rw (get_or-set_other k.progress i j p _ apart) (h.stands.rest.progress j ∙ sym (progress_others s i list o l j apart)))

    pub waits : AtAny (with_progress i p (record k { sched = v; objects = q; wait_list = next }))
        log (lock i o Place (wait_in i (list_for o a) s))
    unfolding list after
    waits =
        let new : Machine = with_progress i p (record k { sched = v; objects = q; wait_list = next }) in
        let kept = begun_free s i list o l in
        record {
          stands = Placing i list (record {
            sched = sched_there;
            clock = clock_there;
            objects = in_place;
            groups = groups_then;
            awake = awake_there;
            progress = progress_then;
            full = rw length-set h.stands.rest.full;
            notifications = notifications_then;
            variables = variables_then;
            sources = sources_then;
            sections = sections_then;
            steps = steps_then;
            stopped = stopped_then;
            current = current_then;
            held = held_then;
            phase = phase_then;
            wait_list = next_is;
            placed = λ j ne e.
                h.stands.rest.placed j (ap (λ (x : Progress). x.call.phase) (sym (get_or-set_other k.progress i j p _ ne)) ∙ e);
          });
          log = log_then;
        } where
          sched_there : sched.StandsBefore i v after
          sched_there = sched_decided s i list o l k.sched (calm c.depth) h.stands.sched ready free v held table

          groups_then : groups.StandsFor k.groups after
          groups_then =
              let begun_then : State = wait_in i (list_for o a) s in
              let locked_then : State = record begun_then { call_hold = true; locked = Some o } in
              on_groups.stands_same k.groups s after h.stands.rest.groups
              (bits_kept.same_both s begun_then after (bits_elsewhere.same_wait_in i (list_for o a) s (ready_waits_not s i ready))
              (bits_kept.same_both begun_then locked_then after
              (bits_kept.same_parts begun_then locked_then refl refl) (bits_kept.same_go_on i Place locked_then)))
              table

          clock_there : clock.StandsBefore i (call_at after i).deadline k.clock after
          clock_there = clock_decided s i list o l k.clock h.stands.rest.clock ready table

          steps_then : k.steps ≡ after.steps
          steps_then = h.stands.rest.steps ∙ sym (begun_free s i list o l).4

          sources_then : AreSources (released_ticks after) k.sources after.sources
          sources_then =
              let free = begun_free s i list o l in
              sources_on k s after free.7 (let e = free.3 in let held = free.11 in omega (arith, e, held)) h.stands.rest.sources

          notifications_then : AreNotifications k.notifications after.notifications
          notifications_then =
              subst (AreNotifications k.notifications) (sym (begun_free s i list o l).10) h.stands.rest.notifications

          variables_then : k.variables ≡ after.variables
          variables_then = h.stands.rest.variables ∙ sym (begun_free s i list o l).9

          sections_then : k.sections ≡ after.sections
          sections_then = h.stands.rest.sections ∙ sym (begun_free s i list o l).8

          stopped_then : k.stopped ≡ after.stopped
          stopped_then = h.stands.rest.stopped ∙ sym (begun_free s i list o l).5

          current_then : after.current ≡ Some i
          current_then = (begun_free s i list o l).1 ∙ sym h.stands.sched.current ∙ c.runs.current

          held_then : after.call_hold ≡ true
          held_then = refl

          phase_then : (call_at after i).phase ≡ Place
          phase_then = ap (λ (x : Progress). x.call.phase) (progress_decided s i list o l)

          log_then : log ≡ after.log
          log_then = h.log ∙ sym (begun_free s i list o l).6

-- The call goes on at once, or it waits.
module _ (new : Machine) (log : List Event) (s : State) (i o : ℕ) (a : Access ℕ) where
  pub decided_not : (possible s o a || is_expired s i) ≡ true → AtAny new log (lock i o Unlock s) → AtAny new log (decide i o a s)
  unfolding decide
  decided_not t h = rw t h

  pub decided_to_wait : (possible s o a || is_expired s i) ≡ false
      → AtAny new log (lock i o Place (wait_in i (list_for o a) (inherit i o s))) → AtAny new log (decide i o a s)
  unfolding decide
  decided_to_wait t h = rw t h

-- ---- a task is placed

module _ (k : Machine) (log : List Event) (s : State) (i : ℕ) (list : WaitList) (b : StandsBefore i list k s)
    (told : log ≡ s.log) (v : Schedule) (q : Objects) (t : Timeline) (next : WaitList) (new : Machine)
    (on : sched.StandsFor v s) (there : objects.StandsFor q None s) (awake : clock.StandsFor t s)
    (is : new
    ≡ with_progress i (record (progress_in k.progress i) { call = record (progress_in k.progress i).call { phase = Unlock } })
    (record k { sched = v; objects = q; clock = t; wait_list = next })) where
  l_then : i < length s.tasks
  l_then = let L : Option ℕ → Type 0 = λ o. IfSome o (λ j. j < length s.tasks) in subst L b.current on.table.current

  long_then : i < length k.progress
  long_then = let n = b.full in let m = on.table.few in let w = l_then in omega arith

  p : Progress
  p = record (progress_at s i) { call = record (call_at s i) { phase = Unlock } }

  placed_then : (j : ℕ) → (progress_in (set k.progress i p) j).call.phase ≢ Place
  unfolding p
  placed_then j e = by_test (eqb j i)
      (λ u. let same : j ≡ i = eqb-same j i u in
      let own : progress_in (set k.progress i p) j ≡ p =
      ap (λ (m : ℕ). progress_in (set k.progress i p) m) same ∙ get_or-set_same k.progress i p _ long_then in
      let f : Unlock ≡ Place = sym (ap (λ (x : Progress). x.call.phase) own) ∙ e in absurd (cc))
      (λ u. let apart : j ≢ i = (λ r. let w : eqb j i ≡ true = rw r (eqb-refl i) in absurd (cc)) in
      b.placed j apart (ap (λ (x : Progress). x.call.phase) (sym (get_or-set_other k.progress i j p _ apart)) ∙ e))

  pub placed_at : At new log (go_on i Unlock s)
  unfolding p
  placed_at =
      let u : Task = record (task_at s i) { progress = p } in
      let later : State = with_task i u s in
      let same : SameWaits s later = same_progress i p s in
      let shown = stands_same s later same q None there in
      let one : p ≡ record (progress_in k.progress i) { call = record (progress_in k.progress i).call { phase = Unlock } } =
      ap (λ (x : Progress). record x { call = record x.call { phase = Unlock } }) (sym (b.progress i)) in
      let is_new : new ≡ with_progress i p (record k { sched = v; objects = q; clock = t; wait_list = next }) =
      is ∙ ap (λ (x : Progress). with_progress i x (record k { sched = v; objects = q; clock = t; wait_list = next })) (sym one) in
      let table : IsTable later = kept_table in
      subst (λ (x : Machine). At x log later) (sym is_new) (record {
        stands = record {
          sched = on_sched.stands_kept v s later i u on l_then refl refl refl refl refl refl table refl;
          rest = record {
            progress = progress-set k.progress s.tasks i u b.progress long_then l_then;
            full = rw length-set b.full;
            clock =
                on_sleepers.stands_kept t s later i u awake l_then refl refl refl
                (same_alike (status_at s i) (status_at s i) refl) table;
            objects = shown table;
            groups = on_groups.stands_same k.groups s later b.groups (bits_kept.same_task i u s refl (λ _. refl)) table;
            awake = at_locked_same None s later same (at_locked-placed (Some (decider i list s)) s b.awake);
            notifications = b.notifications;
            variables = b.variables;
            sources = b.sources;
            sections = b.sections;
            steps = b.steps;
            stopped = b.stopped;
            placed = placed_then;
          };
        };
        log = told;
      }) where
        kept_table : IsTable (with_task i (record (task_at s i) { progress = p }) s)
        kept_table =
            table-set s i (record (task_at s i) { progress = p }) on.table (ticket_at s.next_ticket i s.tasks on.table.tickets)

-- ---- a hold begins, or ends

pub hold_at : (b : Bool) (k : Machine) (log : List Event) (s : State) → At k log s → (v : Schedule)
    → sched.StandsFor v (record s { call_hold = b }) → At (record k { sched = v }) log (record s { call_hold = b })
hold_at b k log s h v on =
    record {
      stands =
          record {
            sched = on;
            rest = rest_unseen h.stands.rest on.table refl h.stands.rest.sections h.stands.rest.steps h.stands.rest.stopped;
          };
      log = h.log;
    }

-- The task's call has let go of the scheduler, and goes on with this phase.
module _ (k new : Machine) (log : List Event) (s : State) (h : At k log s) (i : ℕ) (c : CanLeave k i) (w : Schedule)
    (unhold : s.call_hold ≡ true → sched.StandsFor w (record s { call_hold = false })) (runs : w.current ≡ k.sched.current)
    (v : Progress) (view : v ≡ progress_in k.progress i) (phase : Phase) (off : phase ≢ Place)
    (is : new
    ≡ with_progress i (record (progress_in k.progress i) { call = record v.call { phase = phase; waits = false } })
    (record k { sched = w })) where
  same : v ≡ progress_at s i
  same = view ∙ h.stands.rest.progress i

  pub freed : At new log (let_go i phase s)
  freed =
      recalled (record k { sched = w }) new log (record s { call_hold = false })
      (hold_at false k log s h w (unhold
      (is_held (task_holds_of s) s.call_hold k.sched.depth h.stands.sched.depth (sym h.stands.sched.suspensions ∙ c.awake) c.held)))
      i
      (runs ∙ c.call.current)
      (record v.call { phase = phase; waits = false }) (record (call_at s i) { phase = phase; waits = false })
      is (ap (λ (p : Progress). record p.call { phase = phase; waits = false }) same) off (λ _. refl)

-- There are three phases in which a call reports nothing.
pub none_else : (phase : Phase) → IsSilent phase → phase ≢ Decide → phase ≢ Place → phase ≢ Unlock → ⊥
none_else Start s a b c = s
none_else Try s a b c = s
none_else Decide s a b c = a refl
none_else Place s a b c = b refl
none_else Unlock s a b c = c refl
none_else Leave s a b c = s
