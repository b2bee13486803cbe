-- While the scheduler is held, and when it is released: what that makes of the states that the kernel represents.
use Rattle.std.proofs.Common.{◌≡◌, ◌≢◌, ◌<◌, ◌+◌, ◌-◌, ℕ, zero, suc, true, false, List, Option, Some, None, refl, ap, sym, subst}
use Rattle.std.proofs.Common.{◌∙◌, arith, length, get_or-set_same, ltb}
use Rattle.std.proofs.Common.{◌≤◌}
use Rattle.std.specs.Option.{is_some}
use Rattle.std.proofs.lemmas.Bool.{eq-eqb, ne_eqb, lt-ltb}
use Rattle.model.specs.declared.event.Event.{Event}
use Rattle.model.specs.Application.{Application}
use Rattle.model.specs.State.{State, Task, Progress, ticket_if_ready, task_at, progress_at, call_at, no_task}
use Rattle.model.specs.declared.call.Phase.{Phase}
use Rattle.model.specs.Waiting.{let_go, end_hold}
use Rattle.model.specs.Switching.{is_held, is_held_by_task, is_ready, holds_ticks, preempt}
use Rattle.model.specs.Time.{increment_tick, advance, apply_one, apply_held, release}
use Rattle.model.specs.Ops.{answer}
use Rattle.model.specs.Suspension.{resume_scheduler, resume_all}
use Rattle.model.specs.Invariant.{Hold, Suspension}
use Rattle.soundness.proofs.Keeping.{keeps-answer}
use Rattle.soundness.proofs.Settled.{no_task_holds, when_free, when_held}
use Rattle.soundness.proofs.Ticking.{applies}
use Rattle.soundness.proofs.Going.{current-resumed, resumed_apart}
use Rattle.soundness.proofs.Released.{applied_apart, current-applied}
use Rattle.sched.specs.StandsFor as sched
use Rattle.sched.specs.StandsFor.{depth_of, task_holds_of}
use Rattle.sched.specs.Schedule.{Schedule}
use Rattle.sched.proofs.Standing.{held_by_depth}
use Rattle.sched.proofs.Standing as on_sched
use Rattle.clock.specs.StandsFor as clock
use Rattle.clock.specs.StandsFor.{before_held}
use Rattle.clock.specs.Timeline.{Timeline}
use Rattle.objects.specs.declared.lock.Lock.{Lock}
use Rattle.objects.specs.Objects.{locked_by}
use Rattle.groups.proofs.Kept as bits_kept
use Rattle.machine.specs.declared.machine.Machine.{Machine}
use Rattle.machine.specs.StandsFor.{StandsFor, At, Moves, progress_in, released_ticks}
use Rattle.ops.specs.Can.{CanApply}
use Rattle.machine.specs.Can.{Leaves, Runs}
use Rattle.machine.proofs.Parts.{rest_unseen, rest_with_clock, same_parts, sched-same}
use Rattle.ops.proofs.Suspending.{ready_by, runs_by}

-- ---- how many `suspend_all` are active

module _ (k : Machine) (log : List Event) (s : State) (h : At k log s) where
  -- another number of them
  pub with_suspensions : (v : Schedule) (n : ℕ) → sched.StandsFor v (record s { suspensions = n })
      → At (record k { sched = v }) log (record s { suspensions = n })
  with_suspensions v n on =
      record {
        stands = record {
          sched = on;
          rest = rest_unseen h.stands.rest on.table refl h.stands.rest.sections h.stands.rest.steps
              h.stands.rest.stopped;
        };
        log = h.log;
      }

  -- and the same of critical sections
  pub with_open : (v : Schedule) (m n : ℕ) → sched.StandsFor v (record s { sections = n }) → m ≡ n
      → At (record k { sched = v; sections = m }) log (record s { sections = n })
  with_open v m n on same =
      record {
        stands = record {
          sched = on;
          rest = rest_unseen h.stands.rest on.table refl same h.stands.rest.steps h.stands.rest.stopped;
        };
        log = h.log;
      }

  -- the clock, and how many ticks have come and are held
  pub with_ticks : (t : Timeline) (elapsed held : ℕ) → released_ticks s ≤ elapsed - held
      → clock.StandsFor t (record s { elapsed = elapsed; held_ticks = held })
      → At (record k { clock = t }) log (record s { elapsed = elapsed; held_ticks = held })
  with_ticks t elapsed held since on =
      let new : State = record s { elapsed = elapsed; held_ticks = held } in
      record {
        stands = record {
          sched = sched-same h.stands.sched on.table refl refl refl;
          rest =
              rest_with_clock h.stands.rest on since (λ _. refl) refl
              (same_parts s new refl refl refl) (bits_kept.same_parts s new refl refl);
        };
        log = h.log;
      }

  -- A held tick is released: the state is as before it came.
  pub released : (t : Timeline) → 0 < s.held_ticks → clock.StandsFor t (before_held s)
      → At (record k { clock = t }) log (before_held s)
  released t some on = with_ticks t (s.elapsed - 1) (s.held_ticks - 1) (omega arith) on

-- and when it comes now, it is applied
pub applied_now : (new : Machine) (log : List Event) (s : State) → holds_ticks s ≡ false
    → 0 < s.elapsed → At new log (increment_tick (before_held s)) → At new log (apply_one s)
unfolding increment_tick apply_one
applied_now new log s none some h =
    let same : s.elapsed - 1 + 1 ≡ s.elapsed = omega arith in
    let come : At new log (advance (record s { elapsed = s.elapsed - 1 + 1; held_ticks = s.held_ticks - 1 })) = rw none at h in
    subst (λ (n : ℕ). At new log (advance (record s { elapsed = n; held_ticks = s.held_ticks - 1 }))) same come

-- ---- the held ticks are applied one after another

unlocked : (lock : Option Lock) → locked_by lock ≡ None → lock ≡ None
unlocked None e = refl
unlocked (Some l) e = absurd (cc)

module _ (k now : Machine) (can : CanApply k) (n : ℕ) (does : Moves k now (λ s. apply_held n s)) (leaves : Leaves k now) where
  abbrev first : State
  first = can.agrees.0

  there : At now first.log (apply_held n first)
  there = does first.log first (record { stands = can.agrees.1; log = refl })

  -- of those that were held this many fewer are
  pub held_left : now.clock.held ≡ k.clock.held - n
  held_left =
      let a = (applies n first).held in
      let b = there.stands.rest.clock.held in
      let c = can.agrees.1.rest.clock.held in
      omega arith

  pub can_apply : CanApply now
  can_apply = record {
    agrees = (apply_held n first, there.stands);
    free =
        let same : (apply_held n first).locked ≡ first.locked = ap (λ (x : Hold). x.locked) (applies n first).hold in
        let none : locked_by k.objects.lock ≡ None = ap locked_by can.free in
        unlocked now.objects.lock (there.stands.rest.objects.locked ∙ same ∙ sym can.agrees.1.rest.objects.locked ∙ none);
    age =
        let a = (applies n first).elapsed in
        let b = there.stands.rest.clock.age in
        let c = can.agrees.1.rest.clock.age in
        let d = can.age in
        omega arith;
    depth = leaves.depth ∙ can.depth;
  }

one_later : (n : ℕ) (s : State) → apply_one (apply_held n s) ≡ apply_held (suc n) s
one_later zero s = refl
one_later (suc n) s = one_later n (apply_one s)

pub applied_more : (now : Machine) (log : List Event) (n : ℕ) (s : State)
    → At now log (apply_one (apply_held n s)) → At now log (apply_held (n + 1) s)
applied_more now log n s h = let same : n + 1 ≡ suc n = omega arith in rw same (subst (At now log) (one_later n s) h)

-- ---- a hold ends

-- If nothing holds the scheduler no task does.
pub unheld_by_tasks : (k : Machine) (s : State) → StandsFor k s → k.sched.depth ≡ 0 → is_held_by_task s ≡ false
unheld_by_tasks k s h none =
    no_task_holds s (held_by_depth s ∙ ap (λ (n : ℕ). ltb 0 n) (sym h.sched.depth ∙ none))

-- If none is held there is nothing to apply.
pub none_to_apply : (k : Machine) (log : List Event) (s : State) → At k log s → k.clock.held ≡ 0 → At k log (release s)
none_to_apply k log s h none =
    subst (λ (n : ℕ). At k log (apply_held n s)) (sym (sym h.stands.rest.clock.held ∙ none)) h

-- Who runs goes on.
pub runs_released : (k new : Machine) (i : ℕ) (s : State) → Runs k i → StandsFor k s → StandsFor new (release s) → Runs new i
runs_released k new i s r h g =
    runs_by k new i s (release s) r h g (current-applied s.held_ticks s) (applied_apart s.held_ticks s i (ready_by k s i r h))

-- The task of the call goes on with this phase.
module _ (s : State) (i : ℕ) (phase : Phase) (l : i < length s.tasks) where
  abbrev freed_task : Task
  freed_task =
      record (task_at s i)
      { progress = record (progress_at s i) { call = record (call_at s i) { phase = phase; waits = false } } }

  freed_at : task_at (let_go i phase s) i ≡ freed_task
  freed_at = get_or-set_same s.tasks i freed_task no_task l

  ended_at : is_ready s i ≡ true → task_at (end_hold i phase s) i ≡ freed_task
  ended_at r =
      let ready : is_ready (let_go i phase s) i ≡ true = ap (λ (u : Task). is_some (ticket_if_ready u.status)) freed_at ∙ r in
      applied_apart s.held_ticks (let_go i phase s) i ready ∙ freed_at

  pub runs_on : (k new : Machine) → Runs k i → StandsFor k s → StandsFor new (end_hold i phase s) → Runs new i
  runs_on k new r h g =
      let at = ended_at (ready_by k s i r h) in
      record {
        current = g.sched.current ∙ current-applied s.held_ticks (let_go i phase s) ∙ sym h.sched.current ∙ r.current;
        ready =
            on_sched.ready_same new.sched (end_hold i phase s) i g.sched
            ∙ ap (λ (u : Task). is_some (ticket_if_ready u.status)) at
            ∙ sym (on_sched.ready_same k.sched s i h.sched) ∙ r.ready;
        op_index =
            let e : (progress_in new.progress i).op_index ≡ (progress_in k.progress i).op_index =
            ap (λ (p : Progress). p.op_index) (g.rest.progress i) ∙ ap (λ (u : Task). u.progress.op_index) at
            ∙ sym (ap (λ (p : Progress). p.op_index) (h.rest.progress i)) in
            rw e r.op_index;
      }

-- ---- `resume_all`

module _ (app : Application) (new : Machine) (log : List Event) (s : State) where
  -- after the last
  pub last_resumed : s.suspensions ≡ 1 → At new log (release (record s { suspensions = s.suspensions - 1 }))
      → At new log (resume_scheduler s)
  unfolding resume_scheduler
  last_resumed e h = rw (eq-eqb s.suspensions 1 e) h

  -- or after another
  pub more_resumed : s.suspensions ≢ 1 → At new log (record s { suspensions = s.suspensions - 1 }) → At new log (resume_scheduler s)
  unfolding resume_scheduler
  more_resumed ne h = rw (ne_eqb s.suspensions 1 ne) h

  module _ (i : ℕ) where
    abbrev t : State
    t = answer app i (Some 0) (resume_scheduler s)

    pub resumed_free : is_held t ≡ false → At new log (preempt (answer app i (Some 0) (resume_scheduler s)))
        → At new log (resume_all app i s)
    unfolding resume_all
    resumed_free free h = subst (At new log) (sym (when_free preempt t free)) h

    pub resumed_held : is_held t ≡ true → At new log (answer app i (Some 0) (resume_scheduler s)) → At new log (resume_all app i s)
    unfolding resume_all
    resumed_held held h = subst (At new log) (sym (when_held preempt t held)) h

-- If no section is open, tasks hold the scheduler by `suspend_all` alone.
pub in_force : (s : State) (k : Machine) → StandsFor k s → 0 < k.sched.suspensions → k.sections ≡ 0 → 0 < s.suspensions
in_force s k h some none =
    let all : k.sched.suspensions ≡ task_holds_of s = h.sched.suspensions in
    let open_ : k.sections ≡ s.sections = h.rest.sections in
    omega arith

-- if some are still active, the scheduler is held
pub still_held : (app : Application) (i : ℕ) (mid : Machine) (log : List Event) (u : State)
    → At mid log u → mid.sched.suspensions ≢ 0 → is_held (answer app i (Some 0) u) ≡ true
still_held app i mid log u h ne =
    let t : State = answer app i (Some 0) u in
    let kept : task_holds_of t ≡ task_holds_of u =
    ap (λ (x : Suspension). x.suspensions + x.sections) (keeps-answer app i (Some 0) u).suspension in
    let n : mid.sched.suspensions ≡ task_holds_of u = h.stands.sched.suspensions in
    let some : 0 < task_holds_of t = rw kept (rw (sym n) (let some : 0 < mid.sched.suspensions = omega arith in some)) in
    held_by_depth t ∙ lt-ltb 0 (depth_of t) (omega arith)

pub runs_after_all : (k new : Machine) (i : ℕ) (s : State) → Runs k i
    → StandsFor k s → StandsFor new (resume_scheduler s) → Runs new i
runs_after_all k new i s r h g =
    runs_by k new i s (resume_scheduler s) r h g (current-resumed s) (resumed_apart s i (ready_by k s i r h))
