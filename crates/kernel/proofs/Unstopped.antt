-- What brings about no end of the run: the parts of a phase in which a call reports nothing, and the end of a step.
use Rattle.std.proofs.Common.{◌≡◌, ℕ, eqb, ltb, List, [], ◌∷◌, Option, Some, None, refl}
use Rattle.model.specs.declared.call.CallProgress.{CallProgress}
use Rattle.model.specs.State.{State, Task, task_at, call_at, object_at, with_task, with_call, for_one, for_each}
use Rattle.model.specs.Switching.{is_ready, is_same, is_off, choice, make_ready, to_back, dispatch, choose, settle, is_held}
use Rattle.model.specs.Switching.{unless_held}
use Rattle.model.specs.Mutexes.{set_priority, raise, inherits, inherit_from, inherit}
use Rattle.model.specs.Groups.{wake_with_bits, bits_set, met_by, set, wake_all}
use Rattle.model.proofs.Sorting.{by_test}

pub stopped-all_ready : (js : List ℕ) (s : State) → (for_each make_ready js s).stopped ≡ s.stopped
stopped-all_ready [] s = refl
stopped-all_ready (i ∷ js) s = stopped-all_ready js (make_ready i s)

-- ---- one who will wait for a mutex lends its priority

stopped-to_back : (s : State) (i : ℕ) → (to_back i s).stopped ≡ s.stopped
unfolding to_back
stopped-to_back s i = by_test (is_ready s i) (λ t. rw t refl) (λ t. rw t refl)

stopped-set_priority : (s : State) (i priority : ℕ) → (set_priority i priority s).stopped ≡ s.stopped
unfolding set_priority
stopped-set_priority s i priority = by_test (eqb (task_at s i).priority priority)
    (λ t. rw t refl)
    (λ t. let u : Task = record (task_at s i) { priority = priority } in rw t (stopped-to_back (with_task i u s) i))

stopped-raise : (s : State) (holder priority : ℕ) → (raise holder priority s).stopped ≡ s.stopped
stopped-raise s holder priority = by_test (ltb (task_at s holder).priority priority)
    (λ t. rw t (stopped-set_priority s holder priority))
    (λ t. rw t refl)

pub stopped-inherit : (s : State) (i o : ℕ) → (inherit i o s).stopped ≡ s.stopped
unfolding inherit
stopped-inherit s i o = by_holder (object_at s o).holder where
  by_holder : (holder : Option ℕ) → (for_one (inherit_from i) holder s).stopped ≡ s.stopped
  by_holder None = refl
  by_holder (Some holder) =
      let call : CallProgress = record (call_at s i) { inherited = inherits i holder s } in
      stopped-raise (with_call i call s) holder (task_at s i).priority

-- ---- bits are set

stopped-wake_all : (bits : ℕ) (js : List ℕ) (s : State) → (wake_all js bits s).stopped ≡ s.stopped
stopped-wake_all bits [] s = refl
stopped-wake_all bits (i ∷ js) s = stopped-wake_all bits js (wake_with_bits i bits s)

pub stopped-set : (s : State) (group mask : ℕ) → (set group mask s).stopped ≡ s.stopped
unfolding set
stopped-set s group mask = stopped-wake_all (bits_set group mask s) (met_by group (bits_set group mask s) s) s

-- ---- the end of a step

stopped-choose : (s : State) → (choose s).stopped ≡ s.stopped
unfolding choose dispatch
stopped-choose s = by_test (is_same (choice s) s.current) (λ t. rw t refl) (λ t. rw t refl)

stopped-settle : (s : State) → (settle s).stopped ≡ s.stopped
unfolding settle
stopped-settle s = by_test (is_off s s.current) (λ t. rw t (stopped-choose s)) (λ t. rw t refl)

pub stopped-settled : (s : State) → (unless_held settle s).stopped ≡ s.stopped
stopped-settled s = by_test (is_held s) (λ t. rw t refl) (λ t. rw t (stopped-settle s))
