-- What a task has of its last answer while a call goes on.
use Rattle.std.proofs.Common.{◌≡◌, ◌<◌, ◌+◌, ◌||◌, ℕ, eqb, ltb, length, List, [], ◌∷◌, ◌++◌, Option, Some, None, refl, ap, sym}
use Rattle.std.proofs.Common.{◌∙◌, ◌-◌, arith, true, false, zero, suc}
use Rattle.std.specs.Option.{option_map}
use Rattle.model.specs.declared.call.CallProgress.{CallProgress}
use Rattle.model.specs.declared.call.Phase.{Phase}
use Rattle.model.specs.declared.call.Phase.TheVariants.{Start, Try, Decide, Place, Unlock, Leave}
use Rattle.model.specs.declared.call.WaitList.{WaitList}
use Rattle.model.specs.declared.call.WaitList.TheVariants.{ToReceive, ToSend}
use Rattle.model.specs.declared.op.Access.{Access}
use Rattle.model.specs.Application.{Application}
use Rattle.model.specs.Calls.{await, decide, leave_call, lock, try}
use Rattle.model.specs.Mutexes.{after_timeout, fall_back, inherit, inherit_from, mutexes_held, note_inherited}
use Rattle.model.specs.Mutexes.{raise, set_priority}
use Rattle.model.specs.Objects.{answer_to, fulfil, list_for, list_woken, object_after, possible}
use Rattle.model.specs.Ops.{answer, called}
use Rattle.model.specs.Order.{first, task_of, tasks_of}
use Rattle.model.specs.State.{State, Progress, Ready, Status, Waiting, Task, call_at, for_each, for_one, no_task, object_at}
use Rattle.model.specs.State.{progress_at, status_at, take_ticket, task_at, with_call, with_object, with_task}
use Rattle.model.specs.Switching.{choice, choose, dispatch, is_outranked, is_ready, is_same, make_ready, preempt, to_back, write}
use Rattle.model.specs.Switching.{yield_now}
use Rattle.model.specs.Time.{wake_due, due, advance, apply_one, apply_held}
use Rattle.model.specs.Waiting.{awake_status, awakened, end_hold, is_expired, let_go, is_locked, set_deadline, unlock}
use Rattle.model.specs.Waiting.{unlock_object, wait_in}
use Rattle.model.specs.Waiting.{waiters, wake_best, wake_one}
use Rattle.model.proofs.Sorting.{by_test}
use Rattle.model.proofs.Tables.{each-set}
use Rattle.soundness.proofs.Keeping.{keeps-after_timeout, keeps-fulfil, keeps-set_deadline}
use Rattle.laws.proofs.Blocks.{at-go_to}

module _ (i : ℕ) where
  -- ---- deeds that leave a task where it is

  -- The task is where it was in its script, and so is its call.
  abbrev pub Same : State → State → Type 0
  Same old new = progress_at new i ≡ progress_at old i

  same-with_task : (s : State) (j : ℕ) (t : Task) → t.progress ≡ progress_at s j → Same s (with_task j t s)
  same-with_task s j t same = each-set no_task (λ k (u : Task). u.progress ≡ progress_at s k) s.tasks j t same (λ k. refl) i

  same-take_ticket : (s : State) (j : ℕ) (status : ℕ → Status) → Same s (take_ticket j status s)
  same-take_ticket s j status = same-with_task s j (record (task_at s j) { status = status s.next_ticket }) refl

  same-one : {A : Type 0} (deed : A → State → State) (o : Option A) (s : State) → ((a : A) → Same s (deed a s))
      → Same s (for_one deed o s)
  same-one deed None s k = refl
  same-one deed (Some a) s k = k a

  same-all_ready : (js : List ℕ) (s : State) → Same s (for_each make_ready js s)
  same-all_ready [] s = refl
  same-all_ready (j ∷ js) s = same-all_ready js (make_ready j s) ∙ same-take_ticket s j Ready

  same-to_back : (s : State) (j : ℕ) → Same s (to_back j s)
  unfolding to_back
  same-to_back s j = by_test (is_ready s j) (λ t. rw t (same-take_ticket s j Ready)) (λ t. rw t refl)

  pub same-choose : (s : State) → Same s (choose s)
  unfolding choose dispatch
  same-choose s = by_test (is_same (choice s) s.current) (λ t. rw t refl) (λ t. rw t refl)

  same-yield_now : (s : State) → Same s (yield_now s)
  unfolding yield_now
  same-yield_now s = same-choose (for_one to_back s.current s) ∙ same-one to_back s.current s (same-to_back s)

  same-preempt : (s : State) → Same s (preempt s)
  unfolding preempt
  same-preempt s = by_test (is_outranked s) (λ t. rw t (same-yield_now s)) (λ t. rw t refl)

  same-set_priority : (s : State) (j priority : ℕ) → Same s (set_priority j priority s)
  unfolding set_priority
  same-set_priority s j priority =
      let u : Task = record (task_at s j) { priority = priority } in
      by_test (eqb (task_at s j).priority priority)
      (λ t. rw t refl)
      (λ t. rw t (same-to_back (with_task j u s) j ∙ same-with_task s j u refl))

  same-raise : (s : State) (holder priority : ℕ) → Same s (raise holder priority s)
  same-raise s holder priority = by_test (ltb (task_at s holder).priority priority)
      (λ t. rw t (same-set_priority s holder priority))
      (λ t. rw t refl)

  same-fall_back : (s : State) (o holder : ℕ) → Same s (fall_back o holder s)
  same-fall_back s o holder = by_test (eqb (mutexes_held s holder) 1)
      (λ t. rw t (same-set_priority s holder _))
      (λ t. rw t refl)

  same-after_timeout : (s : State) (j o : ℕ) → Same s (after_timeout j o s)
  unfolding after_timeout
  same-after_timeout s j o = by_test (call_at s j).inherited
      (λ t. rw t (same-one (fall_back o) (object_at s o).holder s (same-fall_back s o)))
      (λ t. rw t refl)

  same-wake_one : (list : WaitList) (s : State) (j : ℕ) → Same s (wake_one j list s)
  same-wake_one list s j = by_test (is_locked s.locked list)
      (λ t. rw t (same-with_task s j (record (task_at s j) { status = awake_status (status_at s j) }) refl))
      (λ t. rw t (same-take_ticket s j Ready))

  same-wake_best : (s : State) (list : WaitList) → Same s (wake_best list s)
  unfolding wake_best
  same-wake_best s list = same-one (λ j. wake_one j list) (task_of (first (waiters s list))) s (same-wake_one list s)

  same-fulfil : (s : State) (caller : Option ℕ) (o : ℕ) (a : Access ℕ) → Same s (fulfil caller o a s)
  unfolding fulfil
  same-fulfil s caller o a =
      let t : State = with_object o (object_after caller a (object_at s o)) s in
      same-one wake_best (list_woken caller o a) t (same-wake_best t)

  same-unlock : (s : State) → Same s (unlock s)
  unfolding unlock
  same-unlock s =
      same-one unlock_object s.locked s
      (λ o.
      same-all_ready (tasks_of (awakened s (ToReceive o)) ++ tasks_of (awakened s (ToSend o))) (record s { locked = None }))

  same-applied : (n : ℕ) (s : State) → Same s (apply_held n s)
  unfolding apply_one advance wake_due
  same-applied zero s = refl
  same-applied (suc n) s =
      let later : State = record s { time = s.time + 1; held_ticks = s.held_ticks - 1 } in
      same-applied n (apply_one s) ∙ same-all_ready (tasks_of (due later)) later

  -- ---- deeds that leave its last answer

  abbrev SameAnswer : State → State → Type 0
  SameAnswer old new = (progress_at new i).answer ≡ (progress_at old i).answer

  alike : (old new : State) → Same old new → SameAnswer old new
  alike old new same = ap (λ (p : Progress). p.answer) same

  answer-with_call : (s : State) (j : ℕ) (call : CallProgress) → SameAnswer s (with_call j call s)
  answer-with_call s j call =
      each-set no_task (λ k (u : Task). u.progress.answer ≡ (progress_at s k).answer) s.tasks
      j (record (task_at s j) { progress = record (progress_at s j) { call = call } }) refl (λ k. refl) i

  answer-inherit : (s : State) (j o : ℕ) → SameAnswer s (inherit j o s)
  unfolding inherit
  answer-inherit s j o = by_holder (object_at s o).holder where
    by_holder : (holder : Option ℕ) → SameAnswer s (for_one (inherit_from j) holder s)
    by_holder None = refl
    by_holder (Some holder) =
        let t : State = note_inherited j holder s in
        alike t (inherit_from j holder s) (same-raise t holder (task_at s j).priority) ∙ answer-with_call s j _

  answer-wait_in : (s : State) (j : ℕ) (list : WaitList) → SameAnswer s (wait_in j list s)
  unfolding wait_in
  answer-wait_in s j list =
      let t : State = with_call j (record (call_at s j) { waits = true }) s in
      let status : ℕ → Status = λ ticket.
      Waiting (record { list = list; priority = (task_at s j).priority; ticket = ticket; deadline = (call_at s j).deadline }) in
      alike t (wait_in j list s) (same-take_ticket t j status) ∙ answer-with_call s j _

  answer-lock : (s : State) (j o : ℕ) (phase : Phase) → SameAnswer s (lock j o phase s)
  answer-lock s j o phase = answer-with_call (record s { call_hold = true; locked = Some o }) j _

  -- ---- a call

  -- Unless the op is complete, the last answer stays.
  abbrev pub StaysWithin : State → State → Type 0
  StaysWithin old new = (progress_at new i).op_index ≡ (progress_at old i).op_index → SameAnswer old new

  at_the_next : (app : Application) (s t : State) (a : Option ℕ) → i < length t.tasks → Same s t
      → (progress_at (answer app i a t) i).op_index ≡ (progress_at s i).op_index + 1
  unfolding answer
  at_the_next app s t a l same =
      let p : Progress = record (progress_at t i) { answer = a } in
      ap (λ (q : Progress). q.op_index) (at-go_to app i (p.op_index + 1) p (write (called i p.op_index a) t) l)
      ∙ ap (λ (q : Progress). q.op_index + 1) same

  not_both : {X : Type 0} (m n : ℕ) → m ≡ n + 1 → m ≡ n → X
  not_both m n next here = absurd (omega arith)

  within-try : (app : Application) (o : ℕ) (a : Access ℕ) (s : State) → i < length s.tasks → StaysWithin s (try app i o a s)
  unfolding try
  within-try app o a s l = by_test (possible s o a)
      (λ p.
      let done : State = fulfil (Some i) o a s in
      let t : State = answer app i (answer_to s o a) done in
      let next : (progress_at (preempt t) i).op_index ≡ (progress_at s i).op_index + 1 =
      ap (λ (q : Progress). q.op_index) (same-preempt t)
      ∙ at_the_next app s done (answer_to s o a) (rw (keeps-fulfil (Some i) o a s).tasks l) (same-fulfil s (Some i) o a) in
      rw p (not_both _ _ next))
      (λ p.
      rw p (by_test (is_expired s i)
      (λ q.
      let failed : State = after_timeout i o s in
      let next : (progress_at (answer app i (answer_to s o a) failed) i).op_index ≡ (progress_at s i).op_index + 1 =
      at_the_next app s failed (answer_to s o a) (rw (keeps-after_timeout i o s).tasks l) (same-after_timeout s i o) in
      rw q (not_both _ _ next))
      (λ q. rw q (λ here. answer-with_call s i _))))

  answer-decide : (s : State) (o : ℕ) (a : Access ℕ) → SameAnswer s (decide i o a s)
  unfolding decide
  answer-decide s o a = by_test (possible s o a || is_expired s i)
      (λ t. rw t (answer-lock s i o Unlock))
      (λ t.
      let heir : State = inherit i o s in
      rw t (answer-lock (wait_in i (list_for o a) heir) i o Place ∙ answer-wait_in heir i (list_for o a) ∙ answer-inherit s i o))

  answer-leave_call : (s : State) → SameAnswer s (leave_call i s)
  unfolding leave_call
  answer-leave_call s =
      let free : State = end_hold i Try s in
      let same : SameAnswer s free =
      alike (let_go i Try s) free (same-applied s.held_ticks (let_go i Try s))
      ∙ answer-with_call (record s { call_hold = false }) i _ in
      by_test (call_at s i).waits
      (λ t. rw t (alike free (choose free) (same-choose free) ∙ same))
      (λ t. rw t (alike free (preempt free) (same-preempt free) ∙ same))

  answer-set_deadline : (ticks : Option ℕ) (s : State) → SameAnswer s (set_deadline i ticks s)
  unfolding set_deadline
  answer-set_deadline ticks s = answer-with_call s i _

  index-set_deadline : (ticks : Option ℕ) (s : State)
      → (progress_at (set_deadline i ticks s) i).op_index ≡ (progress_at s i).op_index
  unfolding set_deadline
  index-set_deadline ticks s =
      let call : CallProgress = record (call_at s i) { deadline = option_map (λ n. s.time + n) ticks } in
      each-set no_task (λ k (u : Task). u.progress.op_index ≡ (progress_at s k).op_index) s.tasks
      i (record (task_at s i) { progress = record (progress_at s i) { call = call } }) refl (λ k. refl) i

  within-start : (app : Application) (o : ℕ) (a : Access ℕ) (ticks : Option ℕ) (s : State)
      → i < length s.tasks → StaysWithin s (try app i o a (set_deadline i ticks s))
  within-start app o a ticks s l =
      let t : State = set_deadline i ticks s in
      let there = index-set_deadline ticks s in
      λ here. within-try app o a t (rw (keeps-set_deadline i ticks s).tasks l) (here ∙ sym there) ∙ answer-set_deadline ticks s

  pub stays_within : (app : Application) (o : ℕ) (a : Access ℕ) (ticks : Option ℕ) (phase : Phase) (s : State)
      → i < length s.tasks → StaysWithin s (await app i o a ticks phase s)
  stays_within app o a ticks Start s l = within-start app o a ticks s l
  stays_within app o a ticks Try s l = within-try app o a s l
  stays_within app o a ticks Decide s l = λ here. answer-decide s o a
  stays_within app o a ticks Place s l = λ here. answer-with_call s i _
  stays_within app o a ticks Unlock s l = λ here.
      answer-with_call (unlock s) i _ ∙ alike s (unlock s) (same-unlock s)
  stays_within app o a ticks Leave s l = λ here. answer-leave_call s
