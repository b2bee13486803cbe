-- What each phase of a call that waits makes of a state.
use Rattle.std.proofs.Common.{ap₂, ◌≡◌, ◌≢◌, ◌<◌, ◌||◌, ℕ, true, false, leb, ltb, ltb-false, arith, length, Option, Some, None}
use Rattle.std.proofs.Common.{refl, ap}
use Rattle.std.proofs.Common.{sym, subst, ◌∙◌, get_or-set_same, get_or-set_other}
use Rattle.std.specs.Prelude.{Bool}
use Rattle.std.specs.Option.{IfSome, option_map, is_some, unwrap_or}
use Rattle.std.proofs.Math.ListN.{length-set}
use Rattle.std.proofs.lemmas.Bool.{leb-false}
use Rattle.model.specs.declared.op.Op.{Op}
use Rattle.model.specs.declared.op.Access.{Access}
use Rattle.model.specs.declared.call.Phase.{Phase}
use Rattle.model.specs.declared.call.Phase.TheVariants.{Try, Place, Unlock, Leave}
use Rattle.model.specs.Application.{Application, op_at}
use Rattle.model.specs.Scripts.{IsWellFormed}
use Rattle.model.specs.State.{State, Task, Progress, Wait, Waiting, ticket_if_ready, wait_if_awake, task_at, status_at, progress_at}
use Rattle.model.specs.State.{call_at, with_task, go_on, for_each, for_one, no_task}
use Rattle.model.specs.Switching.{is_ready, make_ready, is_held_by_task}
use Rattle.model.specs.Waiting.{is_locked, wait_in, is_expired, let_go, end_hold, unlock_object, unlock}
use Rattle.model.specs.Objects.{list_for, possible}
use Rattle.model.specs.Calls.{lock, decide, leave_call}
use Rattle.model.specs.Mutexes.{inherit}
use Rattle.model.specs.Invariant.{Hold, hold_of, Course, OnObject, ToSetBits, course, list_of_op, IsPhaseOf, IsSound, holds}
use Rattle.model.specs.Invariant.{IsPlacing, IsRunning, RunsIn, Suspension, suspension_of, IsState, wait_of}
use Rattle.model.proofs.Sorting.{by_test}
use Rattle.model.proofs.Tables.{ticket_at, each-set_but}
use Rattle.model.proofs.Unlocking.{opened_by, none_left, still_at, current-all_ready, none_awake}
use Rattle.soundness.proofs.Sound.{framed, all_made_ready, chosen, preempted}
use Rattle.soundness.proofs.Keeping.{Keeps, keeps-inherit, keeps-all_ready, keeps-choose, keeps-preempt}
use Rattle.soundness.proofs.Settled.{neither, ticks_held_by_call, unlike}
use Rattle.soundness.proofs.Ticking.{suspension-end_hold, hold-end_hold}
use Rattle.soundness.proofs.Suspending.{all_applied}
use Rattle.soundness.proofs.Unlocked.{opened_can, unlocked_by}
use Rattle.soundness.proofs.Inheriting.{Reranks, reranks-inherit, inherited}
use Rattle.soundness.proofs.Called.{went_on, began, phase_free, call_apart, rehung, reheld}

-- ---- a call holds the scheduler

-- where nothing is held
abbrev pub free : Hold
free = record { held = false; locked = None }

-- no `suspend_all` is in force, no tick is held, and no critical section is open
abbrev pub unsuspended : Suspension
unsuspended = record { suspensions = 0; held_ticks = 0; sections = 0 }

-- then no task holds the scheduler
pub calm_free : (s : State) → suspension_of s ≡ unsuspended → is_held_by_task s ≡ false
calm_free s calm = ap (λ (x : Suspension). ltb 0 x.suspensions || ltb 0 x.sections) calm

pub none_above : (n : ℕ) → ltb 0 n ≡ false → n ≡ 0
none_above n e = let most = ltb-false 0 n e in omega arith

pub calm_where : (s : State) → is_held_by_task s ≡ false → s.held_ticks ≡ 0 → suspension_of s ≡ unsuspended
calm_where s free none =
    let off = neither s free in
    ap₂ (λ (a b : ℕ). record { suspensions = a; held_ticks = b; sections = s.sections }) (none_above s.suspensions off.0) none
    ∙ ap (λ (n : ℕ). record { suspensions = 0; held_ticks = 0; sections = n }) (none_above s.sections off.1)

-- While a call holds the scheduler no task does.
pub calm_held : (app : Application) (s : State) → IsState app s → s.call_hold ≡ true → is_held_by_task s ≡ false
calm_held app s h held = by_test (is_held_by_task s) (λ t. unlike (sym held ∙ h.apart t)) (λ t. t)

-- Where none does, it is as before where as many `suspend_all` are in force, and as many sections are open.
by_none : (s t : State) → suspension_of t ≡ suspension_of s → is_held_by_task s ≡ false → is_held_by_task t ≡ false
by_none s t same free = ap (λ (x : Suspension). ltb 0 x.suspensions || ltb 0 x.sections) same ∙ free

-- A call lets go of the scheduler: nothing holds it then, and no tick is held.
pub let_go_of : (s : State) (i : ℕ) (phase : Phase) → is_held_by_task s ≡ false → suspension_of (end_hold i phase s) ≡ unsuspended
let_go_of s i phase free =
    let off = neither s free in
    suspension-end_hold i phase s
    ∙ ap₂ (λ (a b : ℕ). record { suspensions = a; held_ticks = 0; sections = b }) (none_above s.suspensions off.0)
    (none_above s.sections off.1)

module _ (app : Application) (formed : IsWellFormed app) where
  -- the running task goes on in a phase that holds the scheduler
  pub in_hold : (s : State) (i : ℕ) (t : Task) → IsSound app (hold_of s) (with_task i t s)
      → s.current ≡ Some i → i < length s.tasks → s.call_hold ≡ true
      → holds t.progress.call.phase ≡ true → (t.progress.call.phase ≡ Place → IsPlacing s.time t (wait_of t.status))
      → (course (op_at app i t.progress.op_index) ≡ ToSetBits → is_some (ticket_if_ready t.status) ≡ true)
      → ((j : ℕ) → j ≢ i → holds (call_at s j).phase ≡ false) → is_held_by_task s ≡ false → IsState app (with_task i t s)
  in_hold s i t h runs l held phase placing setting others calm =
      let at : task_at (with_task i t s) i ≡ t = get_or-set_same s.tasks i t no_task l in
      let H : Task → Type 0 = λ u. holds u.progress.call.phase ≡ s.call_hold in
      let Q : Task → Type 0 = λ u. u.progress.call.phase ≡ Place → IsPlacing s.time u (wait_of u.status) in
      let T : Task → Type 0 = λ u.
      course (op_at app i u.progress.op_index) ≡ ToSetBits → is_some (ticket_if_ready u.status) ≡ true in
      let P : ℕ → Task → Type 0 = λ j u. holds u.progress.call.phase ≡ true → s.current ≡ Some j in
      record {
        sound = h;
        runs = subst (RunsIn app (with_task i t s)) (sym runs) (record {
          holding = subst H (sym at) (phase ∙ sym held);
          ready = λ none. absurd (cc);
          setting = λ _. subst T (sym at) setting;
          placing = subst Q (sym at) placing;
        });
        alone = each-set_but no_task P s.tasks i t l (λ _. runs) (λ j ne on. let off = others j ne in absurd (cc));
        locked = λ none. absurd (cc);
        apart = λ t. unlike (sym t ∙ calm);
        held = λ off. unlike (sym (ticks_held_by_call s held) ∙ off);
      }

  -- ---- Decide

  pub others_free : (s : State) → IsSound app (hold_of s) s → s.call_hold ≡ false → (j : ℕ) → holds (call_at s j).phase ≡ false
  others_free s h none j = phase_free (hold_of s) _ (call_at s j).phase none (h.calls j).phase

  none_woken : (s : State) → IsSound app (hold_of s) s → s.locked ≡ None → (j : ℕ) → wait_if_awake (status_at s j) ≡ None
  none_woken s h none j = none_awake s.locked (wait_if_awake (status_at s j)) none (h.calls j).awake

  -- whatever is held from now on, it is as it was of all tasks
  pub held_by_all : (s : State) (new : Hold) → IsSound app (hold_of s) s → s.call_hold ≡ false → s.locked ≡ None → IsSound app new s
  held_by_all s new h none unlocked =
      reheld app formed (hold_of s) new s h
      (λ j. call_apart (hold_of s) new s.time _ (task_at s j) (others_free s h none j) (none_woken s h unlocked j) (h.calls j))

  still_to_come : (deadline : Option ℕ) (now : ℕ)
      → unwrap_or (option_map (λ d. leb d now) deadline) false ≡ false → IfSome deadline (λ d. now < d)
  still_to_come None now t = tt
  still_to_come (Some d) now t = leb-false d now t

  -- of a call on an object that waits in the list for it
  module _ (s : State) (i o : ℕ) (a : Access ℕ) (op : Op) (h : IsSound app (hold_of s) s)
      (none : s.call_hold ≡ false) (unlocked : s.locked ≡ None) (calm : suspension_of s ≡ unsuspended)
      (runs : s.current ≡ Some i) (l : i < length s.tasks) (r : is_ready s i ≡ true)
      (is : op_at app i (progress_at s i).op_index ≡ Some op) (way : course (Some op) ≡ OnObject o)
      (listed : list_of_op (Some op) ≡ Some (list_for o a)) where
    locking : Hold
    locking = record { held = true; locked = Some o }

    phase_there : (phase : Phase) → IsPhaseOf locking (OnObject o) phase
        → IsPhaseOf locking (course (op_at app i (progress_at s i).op_index)) phase
    phase_there phase p = let P : Course → Type 0 = λ c. IsPhaseOf locking c phase in subst P (sym way ∙ ap course (sym is)) p

    decided_not : IsState app (lock i o Unlock s)
    unfolding locking
    decided_not =
        let t : State = record s { call_hold = true; locked = Some o } in
        let h1 : IsSound app locking t =
        framed app formed locking s s.log s.steps s.stopped (Some o) true (held_by_all s locking h none unlocked) in
        in_hold t i
        (record (task_at s i) { progress = record (progress_at s i) { call = record (call_at s i) { phase = Unlock } } })
        (went_on app formed locking t i Unlock h1 (phase_there Unlock (refl, refl))) runs l refl refl
        (λ e. absurd (cc)) (λ e. let f : OnObject o ≡ ToSetBits = sym way ∙ ap course (sym is) ∙ e in absurd (cc))
        (λ j ne. others_free s h none j) (calm_free t calm)

    -- what the task is when it has begun to wait
    waiting_task : Task
    waiting_task = record (task_at s i) {
      progress = record (progress_at s i) { call = record (call_at s i) { waits = true } };
      status =
          Waiting (record {
            list = list_for o a;
            priority = (task_at s i).priority;
            ticket = s.next_ticket;
            deadline = (call_at s i).deadline;
          });
    }

    begun_at : task_at (wait_in i (list_for o a) s) i ≡ waiting_task
    unfolding wait_in waiting_task
    begun_at =
        let t : Task =
        record (task_at s i) { progress = record (progress_at s i) { call = record (call_at s i) { waits = true } } } in
        let s1 : State = with_task i t s in
        let at : task_at s1 i ≡ t = get_or-set_same s.tasks i t no_task l in
        let u : Task =
        record (task_at s1 i) {
          status = Waiting (record {
            list = list_for o a;
            priority = (task_at s i).priority;
            ticket = s.next_ticket;
            deadline = (call_at s i).deadline;
          });
        } in
        let l1 : i < length s1.tasks = rw length-set l in
        get_or-set_same s1.tasks i u no_task l1
        ∙ ap (λ (v : Task).
        record v {
          status =
              Waiting (record {
                list = list_for o a;
                priority = (task_at s i).priority;
                ticket = s.next_ticket;
                deadline = (call_at s i).deadline;
              });
        })
        at

    begun_others : (j : ℕ) → j ≢ i → task_at (wait_in i (list_for o a) s) j ≡ task_at s j
    unfolding wait_in
    begun_others j ne = get_or-set_other _ i j _ no_task ne ∙ get_or-set_other s.tasks i j _ no_task ne

    begun_length : length (wait_in i (list_for o a) s).tasks ≡ length s.tasks
    unfolding wait_in
    begun_length = length-set _ i _ ∙ length-set s.tasks i _

    begun_kept : ((wait_in i (list_for o a) s).time ≡ s.time) × ((wait_in i (list_for o a) s).current ≡ s.current)
    unfolding wait_in
    begun_kept = (refl, refl)

    begun_calm : suspension_of (wait_in i (list_for o a) s) ≡ suspension_of s
    unfolding wait_in
    begun_calm = refl

    decided_to_wait : is_expired s i ≡ false → IsState app (lock i o Place (wait_in i (list_for o a) s))
    unfolding locking waiting_task
    decided_to_wait to_come =
        let b : State = wait_in i (list_for o a) s in
        let t : State = record b { call_hold = true; locked = Some o } in
        let h1 : IsSound app locking t =
        framed app formed locking b b.log b.steps b.stopped (Some o) true
        (began app formed locking s i o a op (held_by_all s locking h none unlocked) l r is listed) in
        let O : Task → Type 0 = λ (u : Task). IsPhaseOf locking (course (op_at app i u.progress.op_index)) Place in
        let F : ℕ → Task → Type 0 = λ now u.
        IsPlacing now (record u { progress = record u.progress { call = record u.progress.call { phase = Place } } })
        (wait_of u.status) in
        let later : IfSome (call_at s i).deadline (λ d. s.time < d) = still_to_come (call_at s i).deadline s.time to_come in
        let placing : F s.time waiting_task = (refl, later) in
        in_hold t i (record (task_at b i) { progress = record (progress_at b i) { call = record (call_at b i) { phase = Place } } })
        (went_on app formed locking t i Place h1 (subst O (sym begun_at) (phase_there Place (refl, refl))))
        (begun_kept.1 ∙ runs) (rw begun_length l) refl refl
        (λ _. subst (λ now. F now (task_at b i)) (sym begun_kept.0) (subst (F s.time) (sym begun_at) placing))
        (λ e.
        let f : OnObject o ≡ ToSetBits =
        sym way ∙ ap course (sym is) ∙ sym (ap (λ (u : Task). course (op_at app i u.progress.op_index)) begun_at) ∙ e in
        absurd (cc))
        (λ j ne. subst (λ (u : Task). holds u.progress.call.phase ≡ false) (sym (begun_others j ne)) (others_free s h none j))
        (calm_free t (begun_calm ∙ calm))

  module _ (s : State) (i o : ℕ) (a : Access ℕ) (op : Op) (h : IsSound app (hold_of s) s)
      (none : s.call_hold ≡ false) (unlocked : s.locked ≡ None) (calm : suspension_of s ≡ unsuspended)
      (runs : s.current ≡ Some i) (l : i < length s.tasks) (r : is_ready s i ≡ true)
      (is : op_at app i (progress_at s i).op_index ≡ Some op) (way : course (Some op) ≡ OnObject o)
      (listed : list_of_op (Some op) ≡ Some (list_for o a)) where
    pub decided : IsState app (decide i o a s)
    unfolding decide
    decided = by_test (possible s o a || is_expired s i)
        (λ t. rw t (decided_not s i o a op h none unlocked calm runs l r is way listed))
        (λ t.
        rw t (decided_to_wait lent i o a op lent_sound (ap (λ (x : Hold). x.held) kept.hold ∙ none)
        (ap (λ (x : Hold). x.locked) kept.hold ∙ unlocked) (kept.suspension ∙ calm)
        (ranks.current ∙ runs) (rw kept.tasks l) ((ranks.at i).ready ∙ r) (ap (op_at app i) (ranks.at i).op_index ∙ is)
        way listed (still_ahead ∙ expired_not (possible s o a) (is_expired s i) t))) where
          lent : State
          lent = inherit i o s

          kept : Keeps s lent
          kept = keeps-inherit i o s

          ranks : Reranks s lent
          ranks = reranks-inherit s i o

          lent_sound : IsSound app (hold_of lent) lent
          lent_sound = subst (λ x. IsSound app x lent) (sym kept.hold) (inherited app formed (hold_of s) s i o h)

          still_ahead : is_expired lent i ≡ is_expired s i
          still_ahead =
              ap (λ d. unwrap_or (option_map (λ x. leb x lent.time) d) false) (ranks.at i).deadline
              ∙ ap (λ time. unwrap_or (option_map (λ x. leb x time) (call_at s i).deadline) false) kept.time

          expired_not : (x y : Bool) → (x || y) ≡ false → y ≡ false
          expired_not false y e = e
          expired_not true y e = absurd (cc)

    pub decided_held : (decide i o a s).call_hold ≡ true
    unfolding decide
    decided_held = by_test (possible s o a || is_expired s i) (λ t. rw t refl) (λ t. rw t refl)

  -- ---- the hold ends

  module _ (s : State) (i : ℕ) (h : IsState app s) (runs : s.current ≡ Some i) (l : i < length s.tasks) where
    -- nobody else is in a phase that holds the scheduler
    pub only : (j : ℕ) → j ≢ i → holds (call_at s j).phase ≡ false
    only j ne = by_test (holds (call_at s j).phase)
        (λ t. let same : Some i ≡ Some j = sym runs ∙ h.alone j t in let e : i ≡ j = cc in absurd (ne (sym e)))
        (λ t. t)

    -- where nothing is locked any more
    let_go_there : s.locked ≡ None → (phase : Phase)
        → IsPhaseOf free (course (op_at app i (progress_at s i).op_index)) phase → IsSound app free (let_go i phase s)
    let_go_there leaves phase fits =
        let s1 : State = record s { call_hold = false } in
        let t : Task =
        record (task_at s i)
        { progress = record (progress_at s i) { call = record (call_at s i) { phase = phase; waits = false } } } in
        let h1 : IsSound app (hold_of s) s1 = framed app formed (hold_of s) s s.log s.steps s.stopped s.locked false h.sound in
        let a = h.sound.progress i in
        let c = h.sound.calls i in
        let A : Option Wait → Type 0 = λ w. IfSome w (λ x. is_locked None x.list ≡ true) in
        let none : (j : ℕ) → wait_if_awake (status_at s j) ≡ None = λ j.
        none_awake s.locked (wait_if_awake (status_at s j)) leaves (h.sound.calls j).awake in
        rehung app formed (hold_of s) free s1 i t h1 l (ticket_at s.next_ticket i s.tasks h.sound.table.tickets) (
          record { nests = a.nests; loops = a.loops; used = a.used; reckoned = a.reckoned; stamped = a.stamped },
          record { phase = fits; wait = c.wait; awake = subst A (sym (none i)) tt; near = c.near },
          h.sound.priorities i,
        )
        (λ j ne. call_apart (hold_of s) free s.time _ (task_at s j) (only j ne) (none j) (h.sound.calls j))

    -- and the held ticks have been applied
    pub hold_ended : s.locked ≡ None → (phase : Phase)
        → IsPhaseOf free (course (op_at app i (progress_at s i).op_index)) phase → IsSound app free (end_hold i phase s)
    hold_ended leaves phase fits =
        all_applied app formed free s.held_ticks (let_go i phase s) (let_go_there leaves phase fits) (omega arith)

  -- ---- Place

  module _ (s : State) (i o : ℕ) (h : IsState app s) (runs : s.current ≡ Some i)
      (l : i < length s.tasks) (on : course (op_at app i (progress_at s i).op_index) ≡ OnObject o) where
    running : IsRunning app s i
    running = subst (RunsIn app s) runs h.runs

    module _ (held : s.call_hold ≡ true) where
      pub placed : (call_at s i).phase ≡ Place → IsState app (go_on i Unlock s)
      placed is =
          let P : Course → Phase → Type 0 = λ way phase. IsPhaseOf (hold_of s) way phase in
          let p : IsPhaseOf (hold_of s) (OnObject o) Place =
          subst (P (OnObject o)) is (subst (λ way. P way (call_at s i).phase) on (h.sound.calls i).phase) in
          in_hold s i
          (record (task_at s i) { progress = record (progress_at s i) { call = record (call_at s i) { phase = Unlock } } })
          (went_on app formed (hold_of s) s i Unlock h.sound (subst (λ way. P way Unlock) (sym on) p)) runs l
          held refl (λ e. absurd (cc)) (λ e. let f : OnObject o ≡ ToSetBits = sym on ∙ e in absurd (cc))
          (only s i h runs l) (calm_held app s h held)

      -- ---- Unlock

      module _ (is : (call_at s i).phase ≡ Unlock) where
        unlocks : s.locked ≡ Some o
        unlocks =
            let P : Course → Phase → Type 0 = λ way phase. IsPhaseOf (hold_of s) way phase in
            let p : IsPhaseOf (hold_of s) (OnObject o) Unlock =
            subst (P (OnObject o)) is (subst (λ way. P way (call_at s i).phase) on (h.sound.calls i).phase) in
            p.1

        opened : State
        opened = for_each make_ready (opened_by s o) (record s { locked = None })

        still : Hold
        still = record { held = s.call_hold; locked = None }

        opened_is : unlock s ≡ opened
        unfolding unlock opened
        opened_is = ap (λ l. for_one unlock_object l s) unlocks ∙ unlocked_by s o

        opened_sound : IsSound app (hold_of s) opened
        unfolding opened
        opened_sound =
            all_made_ready app formed (hold_of s) (record s { locked = None }) (opened_by s o)
            (framed app formed (hold_of s) s s.log s.steps s.stopped None s.call_hold h.sound)
            (opened_can s o (λ j. (h.sound.progress j).reckoned))

        at_opened : (j : ℕ) → progress_at opened j ≡ progress_at s j
        unfolding opened
        at_opened j = still_at (record s { locked = None }) (opened_by s o) j

        none_opened : (j : ℕ) → wait_if_awake (status_at opened j) ≡ None
        unfolding opened
        none_opened j =
            none_left (record s { locked = None }) o j (subst
            (λ l. IfSome (wait_if_awake (status_at s j)) (λ w. is_locked l w.list ≡ true)) unlocks (h.sound.calls j).awake)

        kept_opened : Keeps (record s { locked = None }) opened
        unfolding opened
        kept_opened = keeps-all_ready (opened_by s o) (record s { locked = None })

        runs_opened : opened.current ≡ Some i
        unfolding opened
        runs_opened = current-all_ready (record s { locked = None }) (opened_by s o) ∙ runs

        off_opened : (j : ℕ) → j ≢ i → holds (call_at opened j).phase ≡ false
        off_opened j ne = subst (λ (p : Progress). holds p.call.phase ≡ false) (sym (at_opened j)) (only s i h runs l j ne)

        left_task : Task
        left_task =
            record (task_at opened i)
            { progress = record (progress_at opened i) { call = record (call_at opened i) { phase = Leave } } }

        sound_left : IsSound app still (with_task i left_task opened)
        unfolding still left_task
        sound_left =
            let a = opened_sound.progress i in
            let c = opened_sound.calls i in
            let O : Progress → Type 0 = λ p. IsPhaseOf still (course (op_at app i p.op_index)) Leave in
            let A : Option Wait → Type 0 = λ w. IfSome w (λ x. is_locked None x.list ≡ true) in
            let l1 : i < length opened.tasks = rw kept_opened.tasks l in
            rehung app formed (hold_of s) still opened i left_task opened_sound l1
            (ticket_at opened.next_ticket i opened.tasks opened_sound.table.tickets) (
              record { nests = a.nests; loops = a.loops; used = a.used; reckoned = a.reckoned; stamped = a.stamped },
              record {
                phase = subst O (sym (at_opened i)) (subst (λ way. IsPhaseOf still way Leave) (sym on) (held, refl));
                wait = c.wait;
                awake = subst A (sym (none_opened i)) tt;
                near = c.near;
              },
              opened_sound.priorities i,
            )
            (λ j ne.
            call_apart (hold_of s) still opened.time _ (task_at opened j) (off_opened j ne) (none_opened j) (opened_sound.calls j))

        pub unlocked : IsState app (go_on i Leave (unlock s))
        unfolding still left_task
        unlocked =
            let kept : hold_of opened ≡ still = kept_opened.hold in
            let hold : opened.call_hold ≡ true = ap (λ (x : Hold). x.held) kept ∙ held in
            let l1 : i < length opened.tasks = rw kept_opened.tasks l in
            let set_not : course (op_at app i (progress_at opened i).op_index) ≡ ToSetBits → is_ready opened i ≡ true = λ e.
            let f : OnObject o ≡ ToSetBits =
            sym on ∙ sym (ap (λ (p : Progress). course (op_at app i p.op_index)) (at_opened i)) ∙ e in
            absurd (cc) in
            subst (λ u. IsState app (go_on i Leave u)) (sym opened_is)
            (in_hold opened i left_task (subst (λ x. IsSound app x (with_task i left_task opened)) (sym kept) sound_left)
            runs_opened l1 hold refl (λ e. absurd (cc)) set_not off_opened
            (by_none s opened kept_opened.suspension (calm_held app s h held)))

        pub unlocked_held : (go_on i Leave (unlock s)).call_hold ≡ true
        unlocked_held =
            let kept : hold_of opened ≡ record { held = s.call_hold; locked = None } = kept_opened.hold in
            ap (λ (u : State). u.call_hold) opened_is ∙ ap (λ (x : Hold). x.held) kept ∙ held

      -- ---- Leave

      module _ (is : (call_at s i).phase ≡ Leave) where
        leaves : s.locked ≡ None
        leaves =
            let P : Course → Phase → Type 0 = λ way phase. IsPhaseOf (hold_of s) way phase in
            let p : IsPhaseOf (hold_of s) (OnObject o) Leave =
            subst (P (OnObject o)) is (subst (λ way. P way (call_at s i).phase) on (h.sound.calls i).phase) in
            p.1

        ended : State
        ended = end_hold i Try s

        ended_sound : IsSound app free ended
        unfolding ended
        ended_sound = hold_ended s i h runs l leaves Try (subst (λ way. IsPhaseOf free way Try) (sym on) tt)

        pub left : IsSound app free (leave_call i s)
        unfolding leave_call ended
        left = by_test (call_at s i).waits
            (λ t. rw t (chosen app formed free ended ended_sound))
            (λ t. rw t (preempted app formed free ended ended_sound))

        pub left_hold : hold_of (leave_call i s) ≡ free
        unfolding leave_call ended
        left_hold =
            let same : hold_of ended ≡ free =
            hold-end_hold i Try s ∙ ap (λ l. record { held = false; locked = l }) leaves in
            by_test (call_at s i).waits
            (λ t. rw t ((keeps-choose ended).hold ∙ same))
            (λ t. rw t ((keeps-preempt ended).hold ∙ same))

        pub left_calm : suspension_of (leave_call i s) ≡ unsuspended
        unfolding leave_call ended
        left_calm =
            let none : suspension_of ended ≡ unsuspended = let_go_of s i Try (calm_held app s h held) in
            by_test (call_at s i).waits
            (λ t. rw t ((keeps-choose ended).suspension ∙ none))
            (λ t. rw t ((keeps-preempt ended).suspension ∙ none))
