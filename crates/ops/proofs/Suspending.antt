-- Tasks suspended and resumed: what that makes of the states that the kernel represents.
use Rattle.std.proofs.Common.{◌≡◌, ◌≢◌, ◌<◌, ◌+◌, ℕ, zero, suc, true, false, eqb, set, List, [], ◌∷◌, length, get_or-set_same}
use Rattle.std.proofs.Common.{get_or-set_other, Option, Some, None, refl, ap, sym, subst, ◌∙◌, arith}
use Rattle.std.specs.Option.{IfSome, is_some, option_and_then}
use Rattle.std.proofs.Math.ListN.{length-set}
use Rattle.std.proofs.lemmas.List.{set-set}
use Rattle.model.specs.declared.call.Phase.{Phase}
use Rattle.model.specs.declared.call.Phase.TheVariants.{Start, Try, Decide, Place, Unlock, Leave}
use Rattle.model.specs.declared.call.WaitList.{WaitList}
use Rattle.model.specs.declared.event.Event.{Event}
use Rattle.model.specs.Application.{Application, op_count}
use Rattle.model.specs.State.{State, Task, Progress, Status, Ready, Awake, Waiting, Asleep, WaitingForBits, WaitingForNotification}
use Rattle.model.specs.State.{Suspended, Ended}
use Rattle.model.specs.State.{ticket_if_ready, wait_if_awake, wake_time_of, task_at, status_at, progress_at, call_at, with_task}
use Rattle.model.specs.State.{with_status, no_task}
use Rattle.model.specs.State as state
use Rattle.model.specs.Switching.{is_ready, preempt, write}
use Rattle.model.specs.Ops.{moved_to, called, go_to, answer, one_if}
use Rattle.model.specs.Suspension.{can_suspend, can_resume, suspend, phase_resumed, resumed, resume, call_suspend, call_resume}
use Rattle.model.specs.Waiting.{is_locked, wait_key}
use Rattle.model.specs.Invariant.{IsTable, wait_of}
use Rattle.model.proofs.Sorting.{by_test}
use Rattle.model.proofs.Lists.{eqb-refl, eqb-same}
use Rattle.model.proofs.Tables.{each-set}
use Rattle.sched.specs.StandsFor as sched
use Rattle.sched.specs.Schedule as schedule
use Rattle.sched.specs.Schedule.{Schedule}
use Rattle.sched.proofs.Standing as on_sched
use Rattle.clock.specs.StandsFor as clock
use Rattle.clock.specs.Timeline.{Timeline}
use Rattle.clock.proofs.Sleepers as on_sleepers
use Rattle.objects.specs.WaitersStand.{AtLocked}
use Rattle.objects.specs.Objects as objects
use Rattle.objects.specs.Objects.{Objects, SameWaits}
use Rattle.objects.proofs.Kept.{stands_same, same_task}
use Rattle.objects.proofs.Awake.{at_locked_same}
use Rattle.groups.specs.StandsFor as groups
use Rattle.groups.specs.StandsFor.{event_wait}
use Rattle.groups.specs.EventGroups.{EventGroups}
use Rattle.groups.proofs.Standing as on_groups
use Rattle.groups.proofs.Kept as bits_kept
use Rattle.machine.specs.declared.machine.Machine.{Machine}
use Rattle.machine.specs.StandsFor.{StandsFor, StandsBefore, Stands, At, AtAny, progress_in, with_progress}
use Rattle.machine.specs.StandsFor.Stands.{Placed, Placing}
use Rattle.machine.specs.Can.{Runs}
use Rattle.machine.proofs.Parts.{there_if, progress-kept, progress-set, ready_alike, rest_moved, rest_with}
use Rattle.machine.proofs.Either.{any, either}
use Rattle.ops.proofs.Before.{ready_beside, stands_there}

-- ---- which task a suspend changes

pub ready_can : (u : Status) → is_some (ticket_if_ready u) ≡ true → can_suspend u ≡ true
ready_can (Ready n) t = refl
ready_can (Awake w) t = refl
ready_can (Waiting w) t = refl
ready_can (Asleep w n) t = refl
ready_can (WaitingForBits g n d) t = refl
ready_can (WaitingForNotification n d) t = refl
ready_can Suspended t = absurd (cc)
ready_can Ended t = absurd (cc)

pub asleep_can : (u : Status) → is_some (wake_time_of u) ≡ true → can_suspend u ≡ true
asleep_can (Ready n) t = refl
asleep_can (Awake w) t = refl
asleep_can (Waiting w) t = refl
asleep_can (Asleep w n) t = refl
asleep_can (WaitingForBits g n d) t = refl
asleep_can (WaitingForNotification n d) t = refl
asleep_can Suspended t = absurd (cc)
asleep_can Ended t = absurd (cc)

pub waiting_can : (u : Status) → is_some (wait_of u) ≡ true → can_suspend u ≡ true
waiting_can (Ready n) t = refl
waiting_can (Awake w) t = refl
waiting_can (Waiting w) t = refl
waiting_can (Asleep w n) t = refl
waiting_can (WaitingForBits g n d) t = refl
waiting_can (WaitingForNotification n d) t = refl
waiting_can Suspended t = absurd (cc)
waiting_can Ended t = absurd (cc)

-- of the others those that wait for bits
pub rest_can : (u : Status) → is_some (ticket_if_ready u) ≡ false → is_some (wake_time_of u) ≡ false
    → is_some (wait_of u) ≡ false → is_some (event_wait u) ≡ can_suspend u
rest_can (Ready n) r a w = absurd (cc)
rest_can (Awake v) r a w = absurd (cc)
rest_can (Waiting v) r a w = absurd (cc)
rest_can (Asleep v n) r a w = absurd (cc)
rest_can (WaitingForBits g n d) r a w = refl
rest_can (WaitingForNotification n d) r a w = refl
rest_can Suspended r a w = refl
rest_can Ended r a w = refl

-- such a task is one
pub within_if : (s : State) (i : ℕ) → can_suspend (status_at s i) ≡ true → i < length s.tasks
within_if s i t = there_if can_suspend refl s i t

-- likewise a suspended one
pub suspended_within : (s : State) (i : ℕ) → can_resume (status_at s i) ≡ true → i < length s.tasks
suspended_within s i t = there_if can_resume refl s i t

-- ---- a task is suspended

module _ (k : Machine) (log : List Event) (s : State) (h : At k log s) (i : ℕ) where
  pub suspended_at : can_suspend (status_at s i) ≡ true
      → (v : Schedule) (t : Timeline) (q : Objects) (g : EventGroups) → sched.StandsFor v (with_status i Suspended s)
      → clock.StandsFor t (with_status i Suspended s) → objects.StandsFor q None (with_status i Suspended s)
      → groups.StandsFor g (with_status i Suspended s)
      → At (record k { sched = v; clock = t; objects = q; groups = g }) log (suspend i s)
  unfolding suspend
  suspended_at can v t q g on awake left gone =
      let u : Task = record (task_at s i) { status = Suspended } in
      let A : ℕ → Task → Type 0 = λ _ x. IfSome (wait_if_awake x.status) (λ w. is_locked s.locked w.list ≡ true) in
      let locked : AtLocked None (with_status i Suspended s) =
      record { awake = each-set no_task A s.tasks i u tt h.stands.rest.awake.awake; to_place = tt } in
      rw can (record {
        stands = record {
          sched = on;
          rest = rest_with h.stands.rest awake (omega arith) (progress-kept s.tasks i u refl) refl left locked gone;
        };
        log = h.log;
      })

  pub suspended_not : can_suspend (status_at s i) ≡ false → At k log (suspend i s)
  unfolding suspend
  suspended_not not = rw not h

-- A task whose call has returned is suspended, or the call of one that is suspended returns: if it was Ready, the
-- result is the same.
set_apart : (ts : List Task) (i j : ℕ) (t u : Task) → i ≢ j → set (set ts i t) j u ≡ set (set ts j u) i t
set_apart [] i j t u ne = refl
set_apart (x ∷ xs) zero zero t u ne = absurd (ne refl)
set_apart (x ∷ xs) zero (suc j) t u ne = refl
set_apart (x ∷ xs) (suc i) zero t u ne = refl
set_apart (x ∷ xs) (suc i) (suc j) t u ne = ap (λ (ys : List Task). x ∷ ys) (set_apart xs i j t u (λ e. ne (ap suc e)))

module _ (app : Application) (s : State) (i : ℕ) (ready : is_ready s i ≡ true) (l : i < length s.tasks) (a : Option ℕ) where
  abbrev count : ℕ
  count = op_count app i

  abbrev next : ℕ
  next = (progress_at s i).op_index + 1

  abbrev p : Progress
  p = record (progress_at s i) { answer = a }

  own : suspend i (answer app i a s) ≡ answer app i a (suspend i s)
  unfolding suspend answer go_to
  own =
      let can : can_suspend (status_at s i) ≡ true = ready_can (status_at s i) ready in
      let t : Task = record (task_at s i) { status = Suspended } in
      let u : Task = moved_to count next p (task_at s i) in
      let at_s : task_at (with_task i t s) i ≡ t = get_or-set_same s.tasks i t no_task l in
      let at_a : task_at (with_task i u s) i ≡ u = get_or-set_same s.tasks i u no_task l in
      let W : List Task → State = λ ts. record (write (called i (progress_at s i).op_index a) s) { tasks = ts } in
      let both : answer app i a (with_task i t s) ≡ W (set s.tasks i (moved_to count next p t)) =
      ap (λ (x : Task).
      record (write (called i x.progress.op_index a) s)
      { tasks = set (set s.tasks i t) i (moved_to count (x.progress.op_index + 1) (record x.progress { answer = a }) x) })
      at_s
      ∙ ap W (set-set s.tasks i t (moved_to count next p t)) in
      by_test (eqb next count)
      (λ last.
      let ended : can_suspend (status_at (answer app i a s) i) ≡ false =
      ap (λ (x : Task). can_suspend x.status) at_a ∙ rw last refl in
      rw can (rw ended (sym (both ∙ rw last refl))))
      (λ more.
      let on : can_suspend (status_at (answer app i a s) i) ≡ true = ap (λ (x : Task). can_suspend x.status) at_a ∙ rw more can in
      rw can (rw on (ap (λ (x : Task). W (set (set s.tasks i u) i (record x { status = Suspended }))) at_a
      ∙ ap W (set-set s.tasks i u (record u { status = Suspended })) ∙ sym (both ∙ rw more refl))))

  other : (j : ℕ) → i ≢ j → suspend j (answer app i a s) ≡ answer app i a (suspend j s)
  unfolding suspend answer go_to
  other j ne =
      let t : Task = record (task_at s j) { status = Suspended } in
      let u : Task = moved_to count next p (task_at s i) in
      let at_s : task_at (with_task j t s) i ≡ task_at s i = get_or-set_other s.tasks j i t no_task ne in
      let at_a : task_at (with_task i u s) j ≡ task_at s j = get_or-set_other s.tasks i j u no_task (λ e. ne (sym e)) in
      let W : List Task → State = λ ts. record (write (called i (progress_at s i).op_index a) s) { tasks = ts } in
      by_test (can_suspend (status_at s j))
      (λ can. let on : can_suspend (status_at (answer app i a s) j) ≡ true = ap (λ (x : Task). can_suspend x.status) at_a ∙ can in
      rw can (rw on (ap (λ (x : Task). W (set (set s.tasks i u) j (record x { status = Suspended }))) at_a
      ∙ ap W (set_apart s.tasks i j u t ne)
      ∙ sym (ap (λ (x : Task).
      record (write (called i x.progress.op_index a) s)
      { tasks = set (set s.tasks j t) i (moved_to count (x.progress.op_index + 1) (record x.progress { answer = a }) x) })
      at_s))))
      (λ not. let off : can_suspend (status_at (answer app i a s) j) ≡ false = ap (λ (x : Task). can_suspend x.status) at_a ∙ not in
      rw not (rw off refl))

  pub answer_first : (j : ℕ) → suspend j (answer app i a s) ≡ answer app i a (suspend j s)
  answer_first j = by_test (eqb i j)
      (λ t. let same : i ≡ j = eqb-same i j t in
      subst (λ (m : ℕ). suspend m (answer app i a s) ≡ answer app i a (suspend m s)) same own)
      (λ t. other j (λ e. let u : eqb i j ≡ true = rw e (eqb-refl j) in absurd (cc)))

-- ---- a task is resumed

-- what it is then
abbrev resumed_task : State → ℕ → Task
resumed_task s i = record (task_at s i) { progress = resumed s.time (progress_at s i); status = Ready s.next_ticket }

abbrev with_resumed : State → ℕ → State
with_resumed s i = record (with_task i (resumed_task s i) s) { next_ticket = s.next_ticket + 1 }

is_resumed : (s : State) (i : ℕ) → can_resume (status_at s i) ≡ true → i < length s.tasks → resume i s ≡ with_resumed s i
unfolding resume
is_resumed s i t l =
    let t1 : Task = record (task_at s i) { progress = resumed s.time (progress_at s i) } in
    let at : task_at (with_task i t1 s) i ≡ t1 = get_or-set_same s.tasks i t1 no_task l in
    let W : List Task → State = λ ts. record s { tasks = ts; next_ticket = s.next_ticket + 1 } in
    rw t (ap (λ (x : Task). W (set (set s.tasks i t1) i (record x { status = Ready s.next_ticket }))) at
    ∙ ap W (set-set s.tasks i t1 (resumed_task s i)))

-- a suspended task waits for nothing, and doesn't sleep
module _ (u : Status) (t : can_resume u ≡ true) where
  is_suspended : u ≡ Suspended
  is_suspended = by_status u t where
    by_status : (v : Status) → can_resume v ≡ true → v ≡ Suspended
    by_status (Ready n) e = absurd (cc)
    by_status (Awake w) e = absurd (cc)
    by_status (Waiting w) e = absurd (cc)
    by_status (Asleep w n) e = absurd (cc)
    by_status (WaitingForBits g n d) e = absurd (cc)
    by_status (WaitingForNotification n d) e = absurd (cc)
    by_status Suspended e = refl
    by_status Ended e = absurd (cc)

not_resumed_place : (p : Phase) → p ≢ Place → phase_resumed p ≢ Place
not_resumed_place Start ne e = absurd (cc)
not_resumed_place Try ne e = absurd (cc)
not_resumed_place Decide ne e = absurd (cc)
not_resumed_place Place ne e = ne e
not_resumed_place Unlock ne e = absurd (cc)
not_resumed_place Leave ne e = absurd (cc)

same_resume : (s : State) (i : ℕ) → can_resume (status_at s i) ≡ true → SameWaits s (with_resumed s i)
same_resume s i t =
    let is : status_at s i ≡ Suspended = is_suspended (status_at s i) t in
    let k = same_task i (resumed_task s i) s (sym (ap wait_of is)) (sym (ap wait_if_awake is)) in
    record { objects = k.objects; waits = k.waits; awake = k.awake; locked = k.locked }

-- the kernel when it is resumed at this time, and the scheduler is this
abbrev kernel_resumed : Machine → Schedule → ℕ → ℕ → Machine
kernel_resumed k v now i = with_progress i (resumed now (progress_in k.progress i)) (record k { sched = v })

module _ (k : Machine) (s : State) (i : ℕ) (t : can_resume (status_at s i) ≡ true)
    (v : Schedule) (now : ℕ) (is : now ≡ s.time) where
  l : i < length s.tasks
  l = suspended_within s i t

  progress_is : ((j : ℕ) → progress_in k.progress j ≡ progress_at s j)
      → resumed now (progress_in k.progress i) ≡ (resumed_task s i).progress
  progress_is same = ap (λ (n : ℕ). resumed n (progress_in k.progress i)) is ∙ ap (resumed s.time) (same i)

  pub resumed_placed : StandsFor k s → sched.StandsFor v (resume i s) → StandsFor (kernel_resumed k v now i) (resume i s)
  resumed_placed h on =
      let new : State = with_resumed s i in
      let one : resume i s ≡ new = is_resumed s i t l in
      let on_new : sched.StandsFor v new = subst (sched.StandsFor v) one on in
      let alike = ready_alike (status_at s i) s.next_ticket (ap wake_time_of (is_suspended (status_at s i) t)) in
      let c = on_sleepers.stands_kept k.clock s new i (resumed_task s i) h.rest.clock l refl refl refl alike on_new.table in
      let bits = subst (groups.SameEventWaits s) one (bits_kept.same_resume i s) in
      let off : phase_resumed (call_at s i).phase ≢ Place =
      not_resumed_place (call_at s i).phase (λ e. h.rest.placed i (ap (λ (x : Progress). x.call.phase) (h.rest.progress i) ∙ e)) in
      subst (StandsFor (kernel_resumed k v now i)) (sym one)
      (subst (λ (x : Progress). StandsFor (with_progress i x (record k { sched = v })) new)
      (sym (progress_is h.rest.progress)) (record {
        sched = on_new;
        rest = rest_moved h.rest c (omega arith) refl i (resumed_task s i) l h.sched.table.few refl off (same_resume s i t) bits;
      }))

  -- the same while another is still to be placed
  pub resumed_before : (task : ℕ) (list : WaitList) → task ≢ i → StandsBefore task list k s
      → sched.StandsBefore task v (resume i s) → StandsBefore task list (kernel_resumed k v now i) (resume i s)
  resumed_before task list ne b on =
      let new : State = with_resumed s i in
      let one : resume i s ≡ new = is_resumed s i t l in
      let on_new : sched.StandsBefore task v new = subst (sched.StandsBefore task v) one on in
      let table : IsTable new = on_new.table in
      let p : Progress = (resumed_task s i).progress in
      let many : i < length k.progress = (let n = b.full in let m = b.sched.table.few in let q = l in omega arith) in
      let same = same_resume s i t in
      let off : p.call.phase ≢ Place =
      not_resumed_place (call_at s i).phase
      (λ e. b.placed i (λ q. ne (sym q)) (ap (λ (x : Progress). x.call.phase) (b.progress i) ∙ e)) in
      let own : task_at new task ≡ task_at s task = get_or-set_other s.tasks i task (resumed_task s i) no_task ne in
      let P : ℕ → Progress → Type 0 = λ j x. j ≢ task → x.call.phase ≢ Place in
      subst (StandsBefore task list (kernel_resumed k v now i)) (sym one)
      (subst (λ (x : Progress). StandsBefore task list (with_progress i x (record k { sched = v })) new)
      (sym (progress_is b.progress)) (record {
        sched = on_new;
        clock =
            subst (λ (u : Task). clock.StandsBefore task u.progress.call.deadline k.clock new) (sym own)
            (on_sleepers.stands_before_kept k.clock s new task i (call_at s task).deadline (resumed_task s i) b.clock l refl refl
            refl (ready_alike (status_at s i) s.next_ticket (ap wake_time_of (is_suspended (status_at s i) t))) table);
        objects =
            subst
            (λ (u : Task). objects.StandsFor k.objects (Some (record { task = task; list = list; priority = u.priority })) new)
            (sym own) (stands_same s new same k.objects
            (Some (record { task = task; list = list; priority = (task_at s task).priority })) b.objects table);
        groups =
            on_groups.stands_same k.groups s new b.groups (subst (groups.SameEventWaits s) one (bits_kept.same_resume i s)) table;
        awake =
            subst (λ (u : Task). AtLocked (Some (record { task = task; list = list; priority = u.priority })) new) (sym own)
            (at_locked_same (Some (record { task = task; list = list; priority = (task_at s task).priority })) s new same b.awake);
        progress = progress-set k.progress s.tasks i (resumed_task s i) b.progress many l;
        full = rw length-set b.full;
        notifications = b.notifications;
        variables = b.variables;
        sources = b.sources;
        sections = b.sections;
        steps = b.steps;
        stopped = b.stopped;
        current = b.current;
        held = b.held;
        phase = subst (λ (u : Task). u.progress.call.phase ≡ Place) (sym own) b.phase;
        wait_list = b.wait_list;
        placed = λ j. each-set state.no_progress P k.progress i p (λ _. off) b.placed j;
      }))

pub not_resumed : (s : State) (i : ℕ) → can_resume (status_at s i) ≡ false → resume i s ≡ s
unfolding resume
not_resumed s i t = rw t refl

pub log-resume : (s : State) (i : ℕ) → (resume i s).log ≡ s.log
unfolding resume
log-resume s i = by_test (can_resume (status_at s i)) (λ t. rw t refl) (λ t. rw t refl)

-- ---- a suspended task isn't Ready

unready_suspended : (u : Status) → can_resume u ≡ true → is_some (ticket_if_ready u) ≡ false
unready_suspended u t = rw (is_suspended u t) refl

-- nor is it still to be placed
module _ (k : Machine) (s : State) (i : ℕ) (t : can_resume (status_at s i) ≡ true) where
  pub apart_from : (task : ℕ) (list : WaitList) → StandsBefore task list k s → task ≢ i
  apart_from task list b e =
      let there = stands_there task list k s b in
      let is : status_at s task ≡ Suspended = ap (status_at s) e ∙ is_suspended (status_at s i) t in
      let none : None ≡ Some there.0 = sym (ap (λ (u : Status). option_and_then (wait_key list) (wait_of u)) is) ∙ there.1 in
      absurd (cc)

pub suspended_is : (k : Machine) (s : State) → Stands k s → (i : ℕ) → schedule.is_suspended k.sched i ≡ can_resume (status_at s i)
suspended_is k s (Placed h) i = h.sched.suspended i
suspended_is k s (Placing task list b) i = b.sched.suspended i

pub unready_in : (k : Machine) (s : State) → Stands k s → (i : ℕ)
    → schedule.is_suspended k.sched i ≡ true → schedule.is_ready k.sched i ≡ false
unready_in k s st i t = by_stands st where
  can : can_resume (status_at s i) ≡ true
  can = sym (suspended_is k s st i) ∙ t

  by_stands : Stands k s → schedule.is_ready k.sched i ≡ false
  by_stands (Placed h) = on_sched.ready_same k.sched s i h.sched ∙ unready_suspended (status_at s i) can
  by_stands (Placing task list b) =
      ready_beside task list k s b i (apart_from k s i can task list b) ∙ unready_suspended (status_at s i) can

-- ---- the resume in either case

module _ (k : Machine) (log : List Event) (s : State) (i : ℕ) (v : Schedule) (now : ℕ)
    (is : now ≡ k.clock.now) (t : schedule.is_suspended k.sched i ≡ true) where
  can_now : Stands k s → can_resume (status_at s i) ≡ true
  can_now st = sym (suspended_is k s st i) ∙ t

  pub resumed_at : At k log s → (i < length s.tasks → sched.StandsFor v (resume i s))
      → At (with_progress i (resumed now (progress_in k.progress i)) (record k { sched = v })) log (resume i s)
  resumed_at h on =
      let can = can_now (Placed h.stands) in
      record {
        stands = resumed_placed k s i can v now (is ∙ h.stands.rest.clock.now) h.stands (on (suspended_within s i can));
        log = h.log ∙ sym (log-resume s i);
      }

  pub resumed_any : AtAny k log s → (i < length s.tasks → sched.StandsFor k.sched s → sched.StandsFor v (resume i s))
      → ((task : ℕ) → sched.StandsBefore task k.sched s → task ≢ i → i < length s.tasks → sched.StandsBefore task v (resume i s))
      → AtAny (with_progress i (resumed now (progress_in k.progress i)) (record k { sched = v })) log (resume i s)
  resumed_any h on before = either k log s h
      (λ p.
      any (with_progress i (resumed now (progress_in k.progress i)) (record k { sched = v }))
      log (resume i s) (resumed_at p (λ l. on l p.stands.sched)))
      (λ task list b.
      let can = can_now (Placing task list b) in
      let ne = apart_from k s i can task list b in
      record {
        stands =
            Placing task list (resumed_before k s i can v now (is ∙ b.clock.now)
            task list ne b (before task b.sched ne (suspended_within s i can)));
        log = h.log ∙ sym (log-resume s i);
      })

-- it isn't suspended
module _ (k : Machine) (log : List Event) (s : State) (i : ℕ) (t : schedule.is_suspended k.sched i ≡ false) where
  pub unresumed_at : At k log s → At k log (resume i s)
  unresumed_at h = subst (At k log) (sym (not_resumed s i (sym (suspended_is k s (Placed h.stands) i) ∙ t))) h

  pub unresumed_any : AtAny k log s → AtAny k log (resume i s)
  unresumed_any h = subst (AtAny k log) (sym (not_resumed s i (sym (suspended_is k s h.stands i) ∙ t))) h

-- ---- the calls

module _ (app : Application) (new : Machine) (log : List Event) (s : State) (i j : ℕ) (n : ℕ) where
  pub called_suspend : is_ready s i ≡ true → i < length s.tasks → Some n ≡ one_if (can_suspend (status_at s j))
      → At new log (preempt (suspend j (answer app i (Some n) s))) → At new log (call_suspend app i j s)
  unfolding call_suspend
  called_suspend ready l is h =
      subst (λ (a : Option ℕ). At new log (preempt (answer app i a (suspend j s)))) is
      (subst (λ (t : State). At new log (preempt t)) (answer_first app s i ready l (Some n) j) h)

  pub called_resume : Some n ≡ one_if (can_resume (status_at s j))
      → At new log (preempt (answer app i (Some n) (resume j s))) → At new log (call_resume app i j s)
  unfolding call_resume
  called_resume is h = subst (λ (a : Option ℕ). At new log (preempt (answer app i a (resume j s)))) is h

-- the running task still runs, if nothing of it changes
pub runs_by : (k new : Machine) (i : ℕ) (s t : State) → Runs k i → StandsFor k s
    → StandsFor new t → t.current ≡ s.current → task_at t i ≡ task_at s i → Runs new i
runs_by k new i s t r h g current same = record {
  current = g.sched.current ∙ current ∙ sym h.sched.current ∙ r.current;
  ready =
      on_sched.ready_same new.sched t i g.sched ∙ ap (λ (u : Task). is_some (ticket_if_ready u.status)) same
      ∙ sym (on_sched.ready_same k.sched s i h.sched) ∙ r.ready;
  op_index =
      let e : (progress_in new.progress i).op_index ≡ (progress_in k.progress i).op_index =
      ap (λ (p : Progress). p.op_index) (g.rest.progress i ∙ ap (λ (u : Task). u.progress) same ∙ sym (h.rest.progress i)) in
      rw e r.op_index;
}

pub ready_by : (k : Machine) (s : State) (i : ℕ) → Runs k i → StandsFor k s → is_ready s i ≡ true
ready_by k s i r h = sym (on_sched.ready_same k.sched s i h.sched) ∙ r.ready

pub runs_resumed : (k new : Machine) (i j : ℕ) (s : State) → Runs k i → StandsFor k s → StandsFor new (resume j s) → Runs new i
unfolding resume
runs_resumed k new i j s r h g = runs_by k new i s (resume j s) r h g
    (by_test (can_resume (status_at s j)) (λ t. rw t refl) (λ t. rw t refl))
    (by_test (can_resume (status_at s j))
    (λ t.
    let ne : j ≢ i = λ e.
    let f : can_resume (status_at s i) ≡ true = subst (λ (m : ℕ). can_resume (status_at s m) ≡ true) e t in
    let u = unready_suspended (status_at s i) f in
    let v = ready_by k s i r h in
    absurd (cc) in
    ap (λ (x : State). task_at x i) (is_resumed s j t (suspended_within s j t))
    ∙ get_or-set_other s.tasks j i (resumed_task s j) no_task (λ e. ne (sym e)))
    (λ t. ap (λ (x : State). task_at x i) (not_resumed s j t)))
