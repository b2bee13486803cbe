-- A change of a priority leaves the waits as they are.
use Rattle.std.proofs.Common.{◌≡◌, ℕ, eqb, ltb, Option, Some, None, refl}
use Rattle.model.specs.State.{State, Task, call_at, for_one, object_at, progress_at, task_at, with_task}
use Rattle.model.specs.Switching.{is_ready, to_back}
use Rattle.model.specs.Mutexes.{after_timeout, disinherit, fall_back, inherit, inherit_from, inherits, raise, mutexes_held}
use Rattle.model.specs.Mutexes.{set_priority}
use Rattle.model.specs.Invariant.{IsTable}
use Rattle.model.proofs.Sorting.{by_test}
use Rattle.model.proofs.Tables.{table-make_ready, table-set, ticket_at}
use Rattle.objects.specs.WaitersStand.{AtLocked, Decider}
use Rattle.objects.specs.Objects.{Objects, SameWaits, StandsFor}
use Rattle.objects.proofs.Awake.{at_locked_same}
use Rattle.objects.proofs.Kept.{same, same_both, same_task, same_to_back, stands_same}

-- The waits are the same, and the table stays in order.
pub record KeepsWaits (old new : State) : Type 0 where
  pub same : SameWaits old new
  pub table : IsTable old → IsTable new

-- then the objects represent the new state too, and a task that is Awake waited at the locked object
pub stands_kept : (v : Objects) (d : Option Decider) (s t : State) → KeepsWaits s t → StandsFor v d s → StandsFor v d t
stands_kept v d s t k h = stands_same s t k.same v d h (k.table h.waiters.table)

pub at_locked_kept : (d : Option Decider) (s t : State) → KeepsWaits s t → AtLocked d s → AtLocked d t
at_locked_kept d s t k h = at_locked_same d s t k.same h

-- ---- one deed, and then another

kept : (s : State) → KeepsWaits s s
kept s = record { same = same s; table = λ h. h }

kept_both : (a b c : State) → KeepsWaits a b → KeepsWaits b c → KeepsWaits a c
kept_both a b c h k = record { same = same_both a b c h.same k.same; table = λ t. k.table (h.table t) }

kept-for_one : (deed : ℕ → State → State) (o : Option ℕ) (s : State)
    → ((i : ℕ) → KeepsWaits s (deed i s)) → KeepsWaits s (for_one deed o s)
kept-for_one deed None s k = kept s
kept-for_one deed (Some i) s k = k i

-- ---- another priority

-- a task changes, but not its status
kept-task : (s : State) (i : ℕ) (t : Task) → t.status ≡ (task_at s i).status → KeepsWaits s (with_task i t s)
kept-task s i t e = record {
  same = same_task i t s (rw e refl) (rw e refl);
  table = λ h. table-set s i t h (rw e (ticket_at s.next_ticket i s.tasks h.tickets));
}

kept-to_back : (s : State) (i : ℕ) → KeepsWaits s (to_back i s)
unfolding to_back
kept-to_back s i = record {
  same = same_to_back i s;
  table = λ h. by_test (is_ready s i) (λ t. rw t (table-make_ready s i h)) (λ t. rw t h);
}

pub kept-set_priority : (s : State) (i priority : ℕ) → KeepsWaits s (set_priority i priority s)
unfolding set_priority
kept-set_priority s i priority =
    let t : State = with_task i (record (task_at s i) { priority = priority }) s in
    by_test (eqb (task_at s i).priority priority)
    (λ e. rw e (kept s))
    (λ e. rw e (kept_both s t (to_back i t) (kept-task s i (record (task_at s i) { priority = priority }) refl) (kept-to_back t i)))

pub stands_ranked : (v : Objects) (d : Option Decider) (s : State) (i priority : ℕ)
    → StandsFor v d s → StandsFor v d (set_priority i priority s)
stands_ranked v d s i priority = stands_kept v d s (set_priority i priority s) (kept-set_priority s i priority)

pub at_locked-ranked : (d : Option Decider) (s : State) (i priority : ℕ) → AtLocked d s → AtLocked d (set_priority i priority s)
at_locked-ranked d s i priority = at_locked_kept d s (set_priority i priority s) (kept-set_priority s i priority)

kept-raise : (s : State) (holder priority : ℕ) → KeepsWaits s (raise holder priority s)
kept-raise s holder priority = by_test (ltb (task_at s holder).priority priority)
    (λ t. rw t (kept-set_priority s holder priority))
    (λ t. rw t (kept s))

kept-inherit_from : (s : State) (i holder : ℕ) → KeepsWaits s (inherit_from i holder s)
kept-inherit_from s i holder =
    let u : Task =
    record (task_at s i)
    { progress = record (progress_at s i) { call = record (call_at s i) { inherited = inherits i holder s } } } in
    let t : State = with_task i u s in
    kept_both s t (raise holder (task_at s i).priority t) (kept-task s i u refl) (kept-raise t holder (task_at s i).priority)

-- a task will wait
pub kept-inherit : (s : State) (i o : ℕ) → KeepsWaits s (inherit i o s)
unfolding inherit
kept-inherit s i o = kept-for_one (inherit_from i) (object_at s o).holder s (kept-inherit_from s i)

kept-fall_back : (s : State) (o holder : ℕ) → KeepsWaits s (fall_back o holder s)
kept-fall_back s o holder = by_test (eqb (mutexes_held s holder) 1)
    (λ t. rw t (kept-set_priority s holder _))
    (λ t. rw t (kept s))

-- a call fails
pub kept-after_timeout : (s : State) (i o : ℕ) → KeepsWaits s (after_timeout i o s)
unfolding after_timeout
kept-after_timeout s i o = by_test (call_at s i).inherited
    (λ t. rw t (kept-for_one (fall_back o) (object_at s o).holder s (kept-fall_back s o)))
    (λ t. rw t (kept s))

-- a task has given a mutex back
pub kept-disinherit : (s : State) (i : ℕ) → KeepsWaits s (disinherit i s)
unfolding disinherit
kept-disinherit s i = by_test (eqb (mutexes_held s i) 0)
    (λ t. rw t (kept-set_priority s i (task_at s i).base_priority))
    (λ t. rw t (kept s))
