-- What a try of a call keeps, and what giving a mutex back keeps.
use Rattle.model.specs.declared.value.Value as value
use Rattle.std.proofs.Common.{◌≡◌, ◌<◌, ℕ, true, length, Option, Some, None, refl, ap, sym, subst, ◌∙◌}
use Rattle.std.specs.List.{slice_get}
use Rattle.model.specs.declared.object.ObjectKind.{ObjectKind}
use Rattle.model.specs.declared.object.ObjectKind.TheVariants.{Queue, Semaphore, Mutex}
use Rattle.model.specs.declared.op.Op.{Op}
use Rattle.model.specs.declared.op.Op.TheVariants.{Await, GiveMutex}
use Rattle.model.specs.declared.op.Access.{Access}
use Rattle.model.specs.declared.call.Phase.TheVariants.{Decide}
use Rattle.model.specs.declared.call.WaitList.TheVariants.{ToReceive}
use Rattle.model.specs.Application.{Application, op_at}
use Rattle.model.specs.Scripts.{IsWellFormed, fits_object}
use Rattle.model.specs.State.{State, Object, object_at, with_object, progress_at}
use Rattle.model.specs.Switching.{is_ready}
use Rattle.model.specs.Waiting.{wake_best, is_expired}
use Rattle.model.specs.Objects.{possible, answer_to, fulfil}
use Rattle.model.specs.Mutexes.{after_timeout, disinherit, give_mutex}
use Rattle.model.specs.Calls.{try}
use Rattle.model.specs.Invariant.{Hold, course, IsPhaseOf, IsObject, IsSound}
use Rattle.model.proofs.Sorting.{by_test}
use Rattle.soundness.proofs.Sound.{preempted}
use Rattle.soundness.proofs.Keeping.{keeps-disinherit}
use Rattle.soundness.proofs.Called.{stored, woken_best, spared_best, spared_fulfil, fulfilled, replied, went_on}
use Rattle.soundness.proofs.Inheriting.{reranks-after_timeout, reranks-disinherit, timed_out, disinherited}

-- a mutex without a holder is of its kind
freed : (kind : Option ObjectKind) (o : Object) → IsObject kind o → IsObject kind (record o { holder = None })
freed None o h = h
freed (Some (Queue size)) o h = h
freed (Some (Semaphore most first)) o h = h
freed (Some Mutex) o h = h

module _ (app : Application) (formed : IsWellFormed app) (hold : Hold) where
  pub tried : (s : State) (i o : ℕ) (v : Access value.Value) (a : Access ℕ) (ticks : Option ℕ)
      → IsSound app hold s → s.locked ≡ hold.locked
      → i < length s.tasks → is_ready s i ≡ true → op_at app i (progress_at s i).op_index ≡ Some (Await o v ticks)
      → fits_object app o a ≡ true → IsSound app hold (try app i o a s)
  unfolding try
  tried s i o v a ticks h same l r is fit =
      let P : Option Op → Type 0 = λ op. IsPhaseOf hold (course op) Decide in
      let late : State = after_timeout i o s in
      let at = (reranks-after_timeout s i o).at i in
      by_test (possible s o a)
      (λ t.
      rw t (preempted app formed hold _ (replied app formed hold s (fulfil (Some i) o a s) i (Await o v ticks) (answer_to s o a)
      (fulfilled app formed hold s (Some i) o a h same t fit l) (spared_fulfil s i (Some i) o a r) r is (λ n. refl))))
      (λ t. rw t (by_test (is_expired s i)
      (λ u.
      rw u (replied app formed hold late late i (Await o v ticks) (answer_to s o a)
      (timed_out app formed hold s i o h) refl (at.ready ∙ r) (ap (op_at app i) at.op_index ∙ is) (λ n. refl)))
      (λ u. rw u (went_on app formed hold s i Decide h (subst P (sym is) tt)))))

  pub gave : (s : State) (i o : ℕ) → IsSound app hold s → s.locked ≡ hold.locked → i < length s.tasks → is_ready s i ≡ true
      → op_at app i (progress_at s i).op_index ≡ Some (GiveMutex o) → IsSound app hold (give_mutex app i o s)
  unfolding give_mutex
  gave s i o h same l r is =
      let a : State = with_object o (record (object_at s o) { holder = None }) s in
      let b : State = disinherit i a in
      let at = (reranks-disinherit a i).at i in
      let ready : is_ready b i ≡ true = at.ready ∙ r in
      let freed_ : IsSound app hold a =
      stored app formed hold s o (record (object_at s o) { holder = None }) h
      (freed (slice_get app.objects o) (object_at s o) (h.contents o)) tt in
      let lowered : IsSound app hold b = disinherited app formed hold a i freed_ l in
      let locked : b.locked ≡ hold.locked = ap (λ (x : Hold). x.locked) (keeps-disinherit i a).hold ∙ same in
      preempted app formed hold _ (replied app formed hold b (wake_best (ToReceive o) b) i
      (GiveMutex o) (Some 1) (woken_best app formed hold b (ToReceive o) lowered locked)
      (spared_best b i (ToReceive o) ready) ready (ap (op_at app i) at.op_index ∙ is) (λ n. refl))
