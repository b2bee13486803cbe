-- What the ops that suspend, resume and notify keep.
use Rattle.std.proofs.Common.{◌≡◌, ◌<◌, ℕ, true, length, Option, Some, None, refl, ap, sym, subst, ◌∙◌}
use Rattle.model.specs.declared.op.Op.{Op}
use Rattle.model.specs.declared.op.Op.TheVariants.{Suspend, Resume, Notify, SuspendAll, ResumeAll}
use Rattle.model.specs.declared.notification.NotifyAction.{NotifyAction}
use Rattle.model.specs.declared.value.Value.{Value}
use Rattle.model.specs.Application.{Application, op_at}
use Rattle.model.specs.Scripts.{IsWellFormed}
use Rattle.model.specs.State.{State, Task, Suspended, task_at, status_at, progress_at, no_task}
use Rattle.model.specs.Switching.{is_ready, preempt, is_held}
use Rattle.model.specs.Ops.{answer, with_sections}
use Rattle.model.specs.Suspension.{can_suspend, suspend, resume, call_suspend, call_resume, suspend_all, resume_scheduler}
use Rattle.model.specs.Suspension.{resume_all}
use Rattle.model.specs.Notifications.{notify, call_notify}
use Rattle.model.specs.Invariant.{Hold, IsSound, wait_of}
use Rattle.model.proofs.Sorting.{by_test}
use Rattle.model.proofs.Tables.{each-set}
use Rattle.model.proofs.Statuses.{ready_free}
use Rattle.soundness.proofs.Settled.{when_held, when_free}
use Rattle.soundness.proofs.InScripts.{nesting_past}
use Rattle.soundness.proofs.Sound.{preempted, answered, otherwise, plain}
use Rattle.soundness.proofs.Suspending.{suspended_task, resumed_task, resumed_scheduler}
use Rattle.soundness.proofs.Notified.{notified_task}
use Rattle.soundness.proofs.Handled.{spares-resume, spares-notify}
use Rattle.soundness.proofs.Sparing.{Spares}
use Rattle.soundness.proofs.Going.{resumed_apart}

-- a suspend leaves each task at its op, and nobody begins to wait
suspended_free : (s : State) (j i : ℕ) → wait_of (status_at s i) ≡ None → wait_of (status_at (suspend j s) i) ≡ None
unfolding suspend
suspended_free s j i f = by_test (can_suspend (status_at s j))
    (λ t.
    rw t (each-set no_task (λ k (u : Task). wait_of (status_at s k) ≡ None → wait_of u.status ≡ None)
    s.tasks j (record (task_at s j) { status = Suspended }) (λ _. refl) (λ k e. e) i f))
    (λ t. rw t f)

suspended_at : (s : State) (j i : ℕ) → (progress_at (suspend j s) i).op_index ≡ (progress_at s i).op_index
unfolding suspend
suspended_at s j i = by_test (can_suspend (status_at s j))
    (λ t.
    rw t (each-set no_task (λ k (u : Task). u.progress.op_index ≡ (progress_at s k).op_index)
    s.tasks j (record (task_at s j) { status = Suspended }) refl (λ k. refl) i))
    (λ t. rw t refl)

module _ (app : Application) (formed : IsWellFormed app) (hold : Hold) where
  module _ (s : State) (i : ℕ) (h : IsSound app hold s) (l : i < length s.tasks) (r : is_ready s i ≡ true) where
    pub call_suspended : (j : ℕ) → op_at app i (progress_at s i).op_index ≡ Some (Suspend j)
        → IsSound app hold (call_suspend app i j s)
    unfolding call_suspend
    call_suspended j is =
        preempted app formed hold _ (answered app formed hold (suspend j s) i (Suspend j) (suspended_task app formed hold s j h)
        (suspended_free s j i (ready_free (status_at s i) r)) (ap (op_at app i) (suspended_at s j i) ∙ is) _ refl)

    -- a call that may make others Ready answers
    spared_answers : (t : State) (op : Op) (a : Option ℕ) → IsSound app hold t → Spares s t
        → op_at app i (progress_at s i).op_index ≡ Some op → ((nesting : ℕ) → nesting_past nesting op ≡ nesting)
        → IsSound app hold (preempt (answer app i a t))
    spared_answers t op a sound sp is flat =
        preempted app formed hold _ (answered app formed hold t i op sound
        (ap (λ (u : Task). wait_of u.status) (sp.ready i r) ∙ ready_free (status_at s i) r)
        (ap (op_at app i) (sp.op_index i) ∙ is) a (flat _))

    pub call_resumed : (j : ℕ) → op_at app i (progress_at s i).op_index ≡ Some (Resume j) → IsSound app hold (call_resume app i j s)
    unfolding call_resume
    call_resumed j is =
        spared_answers (resume j s) (Resume j) _ (resumed_task app formed hold s j h) (spares-resume j s) is (λ n. refl)

    pub call_notified : (j : ℕ) (action : NotifyAction Value) (a : NotifyAction ℕ)
        → op_at app i (progress_at s i).op_index ≡ Some (Notify j action) → IsSound app hold (call_notify app i j a s)
    unfolding call_notify
    call_notified j action a is =
        spared_answers (notify j a s) (Notify j action) _ (notified_task app formed hold s j a h)
        (spares-notify j a s) is (λ n. refl)

    pub all_suspended : op_at app i (progress_at s i).op_index ≡ Some SuspendAll → IsSound app hold (suspend_all app i s)
    unfolding suspend_all
    all_suspended is =
        answered app formed hold _ i SuspendAll (otherwise app formed hold s s.group_bits _ s.sections h)
        (ready_free (status_at s i) r) is (Some 0) refl

    pub sections_put : (n : ℕ) (op : Op) → op_at app i (progress_at s i).op_index ≡ Some op
        → nesting_past (length (progress_at s i).loops) op ≡ length (progress_at s i).loops
        → IsSound app hold (with_sections app i n s)
    unfolding with_sections
    sections_put n op is nests =
        plain app formed hold (record s { sections = n }) i (otherwise app formed hold s s.group_bits s.suspensions n h)
        (ready_free (status_at s i) r) op is (progress_at s i).answer nests

    pub all_resumed : op_at app i (progress_at s i).op_index ≡ Some ResumeAll → IsSound app hold (resume_all app i s)
    unfolding resume_all
    all_resumed is =
        let same = resumed_apart s i r in
        let t : State = answer app i (Some 0) (resume_scheduler s) in
        let k : IsSound app hold t =
        answered app formed hold (resume_scheduler s) i ResumeAll (resumed_scheduler app formed hold s h)
        (ap (λ (u : Task). wait_of u.status) same ∙ ready_free (status_at s i) r)
        (ap (λ (u : Task). op_at app i u.progress.op_index) same ∙ is) (Some 0) refl in
        by_test (is_held t)
        (λ q. subst (IsSound app hold) (sym (when_held preempt t q)) k)
        (λ q. subst (IsSound app hold) (sym (when_free preempt t q)) (preempted app formed hold t k))
