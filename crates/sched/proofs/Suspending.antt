-- Tasks that are suspended and resumed.
use Rattle.std.proofs.Common.{◌≡◌, ◌≢◌, ℕ, ◌<◌, true, false, length, sym, ◌∙◌, ap, refl}
use Rattle.std.specs.Prelude.{◌==◌}
use Rattle.std.proofs.Math.ListN.{length-set}
use Rattle.std.proofs.lemmas.List.{get_or-set_other, get_or-set_same}
use Rattle.model.specs.State.{State, Task, Progress, Suspended, task_at, status_at, progress_at, with_progress, with_status}
use Rattle.model.specs.Switching.{ready_key, ready_list}
use Rattle.model.specs.Suspension.{can_resume, resume, resumed}
use Rattle.model.specs.Invariant.{IsTable}
use Rattle.model.proofs.Sorting.{by_test}
use Rattle.model.proofs.Lists.{eqb-same, list-gone}
use Rattle.model.proofs.Tables.{table-set, ticket_at}
use Rattle.lists.specs.Lists.{has_node, without}
use Rattle.task_lists.specs.Priorities.{with_priorities}
use Rattle.sched.specs.Schedule as mine
use Rattle.sched.specs.Schedule.{IsCalm, Schedule, is_suspended, priority_in, unsuspend}
use Rattle.sched.specs.StandsFor.{StandsFor, StandsBefore}
use Rattle.sched.proofs.LinedUp.{IsFalling, has_node-added, lined_up-block}
use Rattle.sched.proofs.Standing.{Adds, adds_made_ready, adds_pended, falling_ready, placing_added, stands_added}
use Rattle.sched.proofs.Choosing.{numbers_kept}
use Rattle.sched.proofs.Standing.{stands_before_kept, stands_kept}
use Rattle.sched.proofs.Choosing.{suspended_changed, with_priorities-filter}

-- ---- suspend

-- A task leaves the Ready tasks, and is suspended.
pub stands_suspended : (v : Schedule) (s : State) (i : ℕ) → StandsFor v s → i < length s.tasks
    → i < length v.suspended → StandsFor (mine.suspend i v) (with_status i Suspended s)
stands_suspended v s i h l known =
    let t : Task = record (task_at s i) { status = Suspended } in
    let new : State = with_status i Suspended s in
    record {
      ready =
          lined_up-block i v (falling_ready v s h) ∙ ap (without i) h.ready ∙ sym (with_priorities-filter i (ready_list s))
          ∙ sym (ap with_priorities (list-gone ready_key i t s.tasks l refl));
      current = h.current;
      priorities = numbers_kept (λ (u : Task). u.priority) v.priorities s new i t h.priorities refl refl;
      base_priorities = numbers_kept (λ (u : Task). u.base_priority) v.base_priorities s new i t h.base_priorities refl refl;
      depth = h.depth;
      suspensions = h.suspensions;
      suspended =
          suspended_changed (is_suspended v) (is_suspended (mine.suspend i v)) s new i t h.suspended
          (λ j ne. get_or-set_other v.suspended i j true false ne) (get_or-set_same v.suspended i true false known) l refl;
      table = table-set s i t h.table tt;
    }

-- ---- resume

-- a suspended task that is added is so no more
adds_unsuspended : (v w : Schedule) (i : ℕ) → Adds i (unsuspend i v) w → Adds i v w
adds_unsuspended v w i a = record {
  ready = a.ready;
  current = a.current;
  priorities = a.priorities;
  base_priorities = a.base_priorities;
  depth = a.depth;
  suspensions = a.suspensions;
  others = λ j ne. a.others j ne ∙ get_or-set_other v.suspended i j false false ne;
  awake = a.awake;
}

adds_woken : (v : Schedule) (i : ℕ) → IsCalm v → i < length v.suspended → Adds i v (mine.wake i (unsuspend i v))
adds_woken v i calm known =
    let awake : is_suspended (unsuspend i v) i ≡ false = get_or-set_same v.suspended i false false known in
    by_test (v.depth == 0)
    (λ t.
    rw t (adds_unsuspended v (mine.make_ready i (unsuspend i v)) i
    (adds_made_ready (unsuspend i v) i (calm (eqb-same v.depth 0 t)) awake)))
    (λ t. rw t (adds_unsuspended v (mine.pend_ready i (unsuspend i v)) i (adds_pended (unsuspend i v) i awake)))

-- a change of a task's progress is none of the schedule's
module _ (s : State) (i : ℕ) (p : Progress) (l : i < length s.tasks) where
  table-progressed : IsTable s → IsTable (with_progress i p s)
  table-progressed table =
      table-set s i (record (task_at s i) { progress = p }) table (ticket_at s.next_ticket i s.tasks table.tickets)

  pub stands_progressed : (v : Schedule) → StandsFor v s → StandsFor v (with_progress i p s)
  stands_progressed v h =
      stands_kept v s (with_progress i p s) i (record (task_at s i) { progress = p })
      h l refl refl refl refl refl refl (table-progressed h.table) refl

  pub stands_before_progressed : (v : Schedule) (decider : ℕ)
      → StandsBefore decider v s → StandsBefore decider v (with_progress i p s)
  stands_before_progressed v decider h =
      stands_before_kept v s (with_progress i p s) decider i (record (task_at s i) { progress = p })
      h l refl refl refl refl refl refl (table-progressed h.table) refl

-- A task is resumed, if it is suspended.
pub stands_resumed : (v : Schedule) (s : State) (i : ℕ) → IsCalm v → StandsFor v s → i < length s.tasks
    → i < length v.suspended → (is_suspended v i ≡ true → mine.is_ready v i ≡ false) → StandsFor (mine.resume i v) (resume i s)
unfolding resume
stands_resumed v s i calm h l known free =
    let p : Progress = resumed s.time (progress_at s i) in
    let awake : State = with_progress i p s in
    by_test (can_resume (status_at s i))
    (λ t. let u : is_suspended v i ≡ true = h.suspended i ∙ t in
    rw (t, u) (stands_added v (mine.wake i (unsuspend i v)) awake i (adds_woken v i calm known)
    (stands_progressed s i p l v h) (rw length-set l) (free u)))
    (λ t. let u : is_suspended v i ≡ false = h.suspended i ∙ t in rw (t, u) h)

-- The same while another is still to be placed.
pub placing_resumed : (v : Schedule) (s : State) (decider i : ℕ) → IsCalm v → IsFalling v.ready
    → StandsBefore decider v s → decider ≢ i → i < length s.tasks → i < length v.suspended
    → (is_suspended v i ≡ true → mine.is_ready v i ≡ false) → StandsBefore decider (mine.resume i v) (resume i s)
unfolding resume
placing_resumed v s decider i calm falling h ne l known free =
    let p : Progress = resumed s.time (progress_at s i) in
    let awake : State = with_progress i p s in
    let w : Schedule = mine.wake i (unsuspend i v) in
    let still : has_node decider w.ready ≡ true = by_test (v.depth == 0)
    (λ t. rw t (has_node-added decider (i, priority_in v.priorities i) v.ready (λ same. ne (sym same)) ∙ h.still))
    (λ t. rw t h.still) in
    by_test (can_resume (status_at s i))
    (λ t. let u : is_suspended v i ≡ true = h.suspended i ∙ t in
    rw (t, u) (placing_added v w awake decider i (adds_woken v i calm known) still falling
    (stands_before_progressed s i p l v decider h) ne (rw length-set l) (free u)))
    (λ t. let u : is_suspended v i ≡ false = h.suspended i ∙ t in rw (t, u) h)
