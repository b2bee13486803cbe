-- What another priority of a task makes of the states that the kernel represents.
use Rattle.std.proofs.Common.{◌≡◌, ◌<◌, ℕ, true, false, eqb, Option, Some, None, refl, ap, sym, subst, ◌∙◌, max, List}
use Rattle.std.proofs.Common.{arith}
use Rattle.model.specs.declared.event.Event.{Event}
use Rattle.model.specs.declared.event.Misuse.{Misuse}
use Rattle.model.specs.State.{State, Task, task_at, progress_at, call_at, object_at, with_task, for_one, no_task, with_object}
use Rattle.model.specs.Switching.{is_held_by_task, is_ready, to_back, preempt}
use Rattle.model.specs.Mutexes.{set_priority, mutexes_held, raise, inherit_from, inherit, best_priority, fall_back, after_timeout}
use Rattle.model.specs.Mutexes.{disinherit, give_mutex}
use Rattle.model.proofs.Sorting.{by_test}
use Rattle.model.proofs.Tables.{each-set}
use Rattle.model.specs.declared.call.WaitList.TheVariants.{ToReceive}
use Rattle.model.specs.declared.op.Op.TheVariants.{GiveMutex}
use Rattle.model.specs.Application.{Application}
use Rattle.model.specs.Ops.{answer}
use Rattle.model.specs.Step.{act_unless, misuse, misused, own_misuse}
use Rattle.soundness.proofs.Judging.{acts_calm, misuse_calm}
use Rattle.model.specs.Waiting.{wake_best}
use Rattle.std.proofs.lemmas.Bool.{lt-ltb, eq-eqb, ne_eqb}
use Rattle.objects.specs.Objects.{Objects}
use Rattle.objects.proofs.Ranking.{stands_ranked, at_locked-ranked}
use Rattle.clock.proofs.Unmoved.{stands_prioritised}
use Rattle.sched.specs.StandsFor as sched
use Rattle.sched.specs.Schedule.{Schedule}
use Rattle.groups.proofs.Kept as bits_kept
use Rattle.machine.specs.declared.machine.Machine.{Machine}
use Rattle.machine.specs.StandsFor.{At, released_ticks}
use Rattle.machine.specs.Can.{Agrees, Runs}
use Rattle.ops.specs.Can.{CanDecide, Reranks}
use Rattle.machine.proofs.Parts.{kept_of, rest_with_objects}
use Rattle.machine.proofs.Waking.{progress-ready}

-- ---- a task has another priority

progress-to_back : (s : State) (i j : ℕ) → progress_at (to_back i s) j ≡ progress_at s j
unfolding to_back
progress-to_back s i j = by_test (is_ready s i) (λ t. rw t (progress-ready s i j)) (λ t. rw t refl)

progress-set_priority : (s : State) (i priority j : ℕ) → progress_at (set_priority i priority s) j ≡ progress_at s j
unfolding set_priority
progress-set_priority s i priority j =
    let u : Task = record (task_at s i) { priority = priority } in
    by_test (eqb (task_at s i).priority priority)
    (λ t. rw t refl)
    (λ t.
    rw t (progress-to_back (with_task i u s) i j
    ∙ each-set no_task (λ k x. x.progress ≡ progress_at s k) s.tasks i u refl (λ k. refl) j))

log-to_back : (s : State) (i : ℕ) → (to_back i s).log ≡ s.log
unfolding to_back
log-to_back s i = by_test (is_ready s i) (λ t. rw t refl) (λ t. rw t refl)

log-set_priority : (s : State) (i priority : ℕ) → (set_priority i priority s).log ≡ s.log
unfolding set_priority
log-set_priority s i priority = by_test (eqb (task_at s i).priority priority)
    (λ t. rw t refl)
    (λ t. rw t (log-to_back (with_task i (record (task_at s i) { priority = priority }) s) i))

kept-set_priority : (s : State) (i priority : ℕ) → kept_of (set_priority i priority s) ≡ kept_of s
unfolding set_priority to_back
kept-set_priority s i priority = by_test (eqb (task_at s i).priority priority)
    (λ t. rw t refl)
    (λ t.
    rw t (by_test (is_ready (with_task i (record (task_at s i) { priority = priority }) s) i) (λ u. rw u refl) (λ u. rw u refl)))

released-set_priority : (s : State) (i priority : ℕ) → released_ticks (set_priority i priority s) ≡ released_ticks s
unfolding set_priority to_back
released-set_priority s i priority = by_test (eqb (task_at s i).priority priority)
    (λ t. rw t refl)
    (λ t.
    rw t (by_test (is_ready (with_task i (record (task_at s i) { priority = priority }) s) i) (λ u. rw u refl) (λ u. rw u refl)))

-- The scheduler has done its part.
pub ranked_at : (k : Machine) (log : List Event) (s : State) → At k log s → (i priority : ℕ) (v : Schedule)
    → sched.StandsFor v (set_priority i priority s) → At (record k { sched = v }) log (set_priority i priority s)
ranked_at k log s h i priority v on =
    let c = stands_prioritised k.clock s i priority h.stands.rest.clock in
    let left = stands_ranked k.objects None s i priority h.stands.rest.objects in
    let locked = at_locked-ranked None s i priority h.stands.rest.awake in
    record {
      stands =
          record {
            sched = on;
            rest =
                rest_with_objects h.stands.rest c (let e = released-set_priority s i priority in omega (arith, e))
                (progress-set_priority s i priority) (kept-set_priority s i priority) left locked
                (bits_kept.same_set_priority i priority s);
          };
      log = h.log ∙ sym (log-set_priority s i priority);
    }

-- Who runs, runs on.
pub still_running : (old new : Machine) (i : ℕ) → Reranks old new → Runs old i → Runs new i
still_running old new i r h =
    record { current = r.current ∙ h.current; ready = r.ready i ∙ h.ready; op_index = rw (r.op_index i) h.op_index }

-- and can decide, as the parts still agree
pub still_decides : (old new : Machine) (i : ℕ) → Reranks old new → CanDecide old i → Agrees new → CanDecide new i
still_decides old new i r c agrees = record {
  runs = still_running old new i r c.runs;
  agrees = agrees;
  free = ap (λ (q : Objects). q.lock) r.objects ∙ c.free;
  depth = r.depth ∙ c.depth;
}

-- ---- the changes of a priority

module _ (P : State → Type 0) (s : State) where
  pub raised : (holder priority : ℕ) → (task_at s holder).priority < priority
      → P (set_priority holder priority s) → P (raise holder priority s)
  raised holder priority l h = rw (lt-ltb (task_at s holder).priority priority l) h

  pub inherited : (i o holder : ℕ) → Some holder ≡ (object_at s o).holder → P (inherit_from i holder s) → P (inherit i o s)
  unfolding inherit
  inherited i o holder is h = subst (λ (x : Option ℕ). P (for_one (inherit_from i) x s)) is h

  pub inherited_nothing : (i o : ℕ) → None ≡ (object_at s o).holder → P s → P (inherit i o s)
  unfolding inherit
  inherited_nothing i o is h = subst (λ (x : Option ℕ). P (for_one (inherit_from i) x s)) is h

  pub fell_back : (o holder : ℕ) → mutexes_held s holder ≡ 1
      → P (set_priority holder (max (task_at s holder).base_priority (best_priority s (ToReceive o))) s) → P (fall_back o holder s)
  fell_back o holder is h = rw (eq-eqb (mutexes_held s holder) 1 is) h

  pub fell_nowhere : (o holder : ℕ) → (mutexes_held s holder ≡ 1 → ⊥) → P s → P (fall_back o holder s)
  fell_nowhere o holder is h = rw (ne_eqb (mutexes_held s holder) 1 is) h

  pub timed_out_alone : (i o : ℕ) → (call_at s i).inherited ≡ false → P s → P (after_timeout i o s)
  unfolding after_timeout
  timed_out_alone i o is h = rw is h

  pub timed_out : (i o holder : ℕ) → (call_at s i).inherited ≡ true
      → Some holder ≡ (object_at s o).holder → P (fall_back o holder s) → P (after_timeout i o s)
  unfolding after_timeout
  timed_out i o holder is by h = rw is (subst (λ (x : Option ℕ). P (for_one (fall_back o) x s)) by h)

  pub timed_out_free : (i o : ℕ) → (call_at s i).inherited ≡ true → None ≡ (object_at s o).holder → P s → P (after_timeout i o s)
  unfolding after_timeout
  timed_out_free i o is by h = rw is (subst (λ (x : Option ℕ). P (for_one (fall_back o) x s)) by h)

  pub disinherited : (i : ℕ) → mutexes_held s i ≡ 0 → P (set_priority i (task_at s i).base_priority s) → P (disinherit i s)
  unfolding disinherit
  disinherited i is h = rw (eq-eqb (mutexes_held s i) 0 is) h

  pub disinherited_not : (i : ℕ) → (mutexes_held s i ≡ 0 → ⊥) → P s → P (disinherit i s)
  unfolding disinherit
  disinherited_not i is h = rw (ne_eqb (mutexes_held s i) 0 is) h

-- ---- a mutex is given back

-- an unlock by the holder, if no task holds the scheduler
pub gave : (app : Application) (new : Machine) (log : List Event) (s : State) (i o : ℕ)
    → is_held_by_task s ≡ false → own_misuse s i (GiveMutex o) ≡ None
    → At new log (preempt (answer app i (Some 1)
    (wake_best (ToReceive o) (disinherit i (with_object o (record (object_at s o) { holder = None }) s)))))
    → At new log (act_unless app i (misuse s i (GiveMutex o)) (GiveMutex o) s)
unfolding give_mutex
gave app new log s i o calm is h = subst (At new log) (sym (acts_calm app i (GiveMutex o) s calm is refl)) h

-- or by another
pub gave_nothing : (app : Application) (new : Machine) (log : List Event) (s : State) (i o : ℕ) (kind : Misuse)
    → is_held_by_task s ≡ false → own_misuse s i (GiveMutex o) ≡ Some kind → At new log
    (misused i (progress_at s i).op_index kind s)
    → At new log (act_unless app i (misuse s i (GiveMutex o)) (GiveMutex o) s)
gave_nothing app new log s i o kind calm is h =
    rw (misuse_calm s i (GiveMutex o) calm ∙ is) h
