-- What every deed of an op keeps of who sleeps and who has which ticket, if four kinds of change keep it.
use Rattle.model.specs.declared.event.End.TheVariants.{Check}
use Rattle.model.proofs.Lists.{eqb-refl}
use Rattle.std.proofs.Common.{[], drop, ◌-◌, min, ◌≡◌, ◌≢◌, ◌<◌, ◌+◌, ◌||◌, ℕ, true, false, eqb, leb, ltb, inl, inr, List, ◌∷◌}
use Rattle.std.proofs.Common.{Option, Some, None, refl, sym, subst, ◌∙◌, arith, zero, suc}
use Rattle.std.specs.Prelude.{Bool, ◌++◌}
use Rattle.std.specs.Option.{IfSome, option_eq}
use Rattle.std.proofs.lemmas.Bool.{ltb-true}
use Rattle.model.specs.declared.op.Op.TheVariants.{ClearNotification}
use Rattle.model.specs.declared.notification.Notification.{Notification}
use Rattle.model.specs.declared.notification.NotifyAction.{NotifyAction}
use Rattle.model.specs.declared.notification.NotificationWait.{NotificationWait}
use Rattle.model.specs.declared.notification.NotificationClear.{NotificationClear}
use Rattle.model.specs.declared.notification.NotificationClear.TheVariants.{Pending, Bits}
use Rattle.model.specs.Notifications.{notified, wake_notified, notify, is_there, entered, left_by_wait, end_notification_wait}
use Rattle.model.specs.Notifications.{wait_for_notification, begin_notification_wait, check_notification, await_notification}
use Rattle.model.specs.Notifications.{cleared, clear_notification}
use Rattle.model.specs.State.{waits_for_notification, notification_at, with_notification, State, Task, Progress, Status, Ready}
use Rattle.model.specs.State.{Waiting, Asleep, WaitingForBits, WaitingForNotification, Suspended, Ended, ticket_of}
use Rattle.model.specs.State.{wake_time_of, no_call, task_at, progress_at, status_at, call_at, object_at, bits_at, with_task}
use Rattle.model.specs.State.{with_call, with_object, with_bits, take_ticket, for_one, for_each}
use Rattle.model.specs.declared.op.Access.{Access}
use Rattle.model.specs.declared.op.Access.TheVariants.{Receive}
use Rattle.model.specs.declared.op.Command.{Command}
use Rattle.model.specs.declared.call.CallProgress.{CallProgress}
use Rattle.model.specs.declared.call.Phase.{Phase}
use Rattle.model.specs.declared.call.Phase.TheVariants.{Start, Try, Decide, Place, Unlock, Leave}
use Rattle.model.specs.declared.call.WaitList.{WaitList}
use Rattle.model.specs.declared.call.WaitList.TheVariants.{ToReceive, ToSend}
use Rattle.model.specs.declared.event.What.TheVariants as what
use Rattle.model.specs.declared.event.End.{End as Ending}
use Rattle.model.specs.declared.loops.Loop.{Loop}
use Rattle.model.specs.declared.answer.AnswerCondition.{AnswerCondition}
use Rattle.model.specs.Answers.{holds}
use Rattle.model.specs.Blocks.{jump_from}
use Rattle.model.specs.Application.{Application, op_count, script_of}
use Rattle.model.specs.Order.{tasks_of, task_of, first}
use Rattle.model.specs.Switching.{make_ready, to_back, dispatch, choose, choice, is_same, is_ready, yield_now, is_outranked}
use Rattle.model.specs.Switching.{is_sharing, preempt, slice, settle, is_off, write}
use Rattle.model.specs.Waiting.{waiters, awakened, awake_status, is_locked, wake_one, wake_best, wait_in, set_deadline}
use Rattle.model.specs.Waiting.{is_expired, let_go, end_hold, unlock_object, unlock}
use Rattle.model.specs.Objects.{possible, answer_to, object_after, list_woken, list_for, fulfil, attempt}
use Rattle.model.specs.Mutexes.{set_priority, mutexes_held, raise, inherit_from, inherit, fall_back, after_timeout, disinherit}
use Rattle.model.specs.Mutexes.{give_mutex}
use Rattle.model.specs.Calls.{try, lock, decide, leave_call, await, do_now}
use Rattle.model.specs.Time.{wake_due, advance, apply_one, apply_held, sleep, set_previous_wake}
use Rattle.model.specs.Ops.{go_to, called, answer, use_up, delay, delay_until, expect, next_turn, turn, branch, leave_loop}
use Rattle.model.specs.Ops.{stamp, since, fail}
use Rattle.model.specs.declared.call.Condition.{Condition}
use Rattle.model.specs.Groups.{is_met, met_by, keep_answer, want, wake_with_bits, bits_set, set as set_in_group, left_by}
use Rattle.model.specs.Groups.{wake_all, begin_set, set_bits, clear, answer_bits, wait_for_bits, begin_bits_wait, check}
use Rattle.model.specs.Groups.{final_bits, wait_bits}
use Rattle.model.specs.Suspension.{can_suspend, can_resume, suspend, resumed, resume}
use Rattle.model.specs.Daemon.{received, take_command, next_command, obeyed, clear_by_daemon, end_set_by_daemon, obey}
use Rattle.model.proofs.Sorting.{by_test}
use Rattle.soundness.proofs.Keeping.{keeps-answer}
use Rattle.laws.specs.Notifications.{is_last_phase, takes_notification}
use Rattle.laws.proofs.Staying.{AreLeft, Remains, Stays, StaysPending, Stops, begun_later, dated_later, expired_inherited}
use Rattle.laws.proofs.Staying.{is_failed_check, or_false_right, pending_apart, pending_by, pending_entered, same_awake}
use Rattle.laws.proofs.Staying.{still_to_come, stops-fail}
use Rattle.laws.proofs.Sleeping.{NoneBetween, none_in_one}

-- ---- the changes that each deed is made of

-- What each kind of change keeps.
pub record Keeping (P : State → Type 0)
    -- which tasks may stamp
    (stamps : ℕ → Bool)
    -- which tasks may answer: one of their calls may be complete
    (answers : ℕ → Bool)
    -- a variable, and whether it may be stored
    (x : ℕ) (stores : Bool)
    -- a task, and whether its notification may be taken
    (task : ℕ) (takes : Bool)
    -- whether the interrupt sources may be touched, and ticks elapse
    (touches : Bool) : Type 0 where
  -- neither the clock's count of ticks, nor who runs, nor the steps and events matter; a run may be stopped
  pub framed : (s t : State) → t.tasks ≡ s.tasks → t.next_ticket ≡ s.next_ticket
      → t.time ≡ s.time → Stops s.stopped t.stopped → AreLeft x stores task takes touches s t → P s → P t
  -- a task goes on, or is Suspended or Ended
  pub moved : (s : State) (i : ℕ) (t : Task) → Stays (status_at s i) t.status
      → Remains (stamps i) (answers i) (task_at s i) t → P s → P (with_task i t s)
  -- a task takes a ticket, and wakes by itself later, if it does
  pub taken : (s : State) (i : ℕ) (status : ℕ → Status) → ticket_of (status s.next_ticket) ≡ Some s.next_ticket
      → IfSome (wake_time_of (status s.next_ticket)) (λ w. s.time < w) → P s → P (take_ticket i status s)
  -- ticks pass, one or several, before the last of which nobody wakes, and all who are due are Ready
  pub passed : (n : ℕ) (s : State) → NoneBetween n s → P s → P (wake_due (record s { time = s.time + n }))

module _ {P : State → Type 0} {stamps answers : ℕ → Bool} {x : ℕ} {stores : Bool} {task : ℕ} {takes touches : Bool}
    (four : Keeping P stamps answers x stores task takes touches) where
  made_ready : (s : State) (i : ℕ) → P s → P (make_ready i s)
  made_ready s i h = four.taken s i Ready refl tt h

  kept-to_back : (i : ℕ) (s : State) → P s → P (to_back i s)
  unfolding to_back
  kept-to_back i s h = by_test (is_ready s i) (λ t. rw t (made_ready s i h)) (λ t. rw t h)

  kept-one_back : (o : Option ℕ) (s : State) → P s → P (for_one to_back o s)
  kept-one_back None s h = h
  kept-one_back (Some i) s h = kept-to_back i s h

  kept-choose : (s : State) → P s → P (choose s)
  unfolding choose dispatch
  kept-choose s h =
      by_test (is_same (choice s) s.current) (λ t. rw t h)
      (λ t. rw t (four.framed s (write (what.Run (choice s)) (record s { current = choice s })) refl refl refl (inl refl)
      (λ _. refl, λ _ k. k, λ _. (refl, refl)) h))

  pub kept-yield_now : (s : State) → P s → P (yield_now s)
  unfolding yield_now
  kept-yield_now s h = kept-choose (for_one to_back s.current s) (kept-one_back s.current s h)

  pub kept-slice : (s : State) → P s → P (slice s)
  unfolding slice
  kept-slice s h = by_test (is_outranked s || is_sharing s) (λ t. rw t (kept-yield_now s h)) (λ t. rw t h)

  pub kept-settle : (s : State) → P s → P (settle s)
  unfolding settle
  kept-settle s h = by_test (is_off s s.current) (λ t. rw t (kept-choose s h)) (λ t. rw t h)

  -- A task that goes on has the stamp that it had, unless it may stamp, and the last answer, unless it may answer.
  abbrev IsAsBefore : ℕ → Progress → State → Type 0
  IsAsBefore i p s =
      (stamps i ≡ false → p.stamp ≡ (progress_at s i).stamp) × (answers i ≡ false → p.answer ≡ (progress_at s i).answer)

  pub kept-go_to : (app : Application) (i op_index : ℕ) (p : Progress) (s : State)
      → IsAsBefore i p s → P s → P (go_to app i op_index p s)
  unfolding go_to
  kept-go_to app i op_index p s same h = by_test (eqb op_index (op_count app i))
      (λ t.
      rw t (four.moved s i
      (record (task_at s i) { progress = record p { op_index = op_index; used = 0; call = no_call }; status = Ended })
      (inr (refl, refl)) (refl, same.0, same.1) h))
      (λ t.
      rw t (four.moved s i (record (task_at s i) { progress = record p { op_index = op_index; used = 0; call = no_call } })
      (inl (refl, refl)) (refl, same.0, same.1) h))

  pub kept-answer : (app : Application) (i : ℕ) → answers i ≡ true → (a : Option ℕ) (s : State) → P s → P (answer app i a s)
  unfolding answer
  kept-answer app i ma a s h =
      let p : Progress = record (progress_at s i) { answer = a } in
      let t : State = write (called i p.op_index a) s in
      kept-go_to app i (p.op_index + 1) p t (λ _. refl, λ no. absurd (cc))
      (four.framed s t refl refl refl (inl refl) (λ _. refl, λ _ k. k, λ _. (refl, refl)) h)

  pub kept-use_up : (app : Application) (i n : ℕ) (s : State) → P s → P (use_up app i n s)
  unfolding use_up
  kept-use_up app i n s h = by_test (eqb ((progress_at s i).used + 1) n)
      (λ t. rw t (kept-go_to app i ((progress_at s i).op_index + 1) (progress_at s i) s (λ _. refl, λ _. refl) h))
      (λ t.
      rw t (four.moved s i (record (task_at s i) { progress = record (progress_at s i) { used = (progress_at s i).used + 1 } })
      (inl (refl, refl)) (refl, λ _. refl, λ _. refl) h))

  kept-sleep : (i w : ℕ) (s : State) → s.time < w → P s → P (sleep i w s)
  unfolding sleep
  kept-sleep i w s l h = by_test (is_ready s i) (λ t. rw t (four.taken s i (Asleep w) refl l h)) (λ t. rw t h)

  kept-set_previous_wake : (i time : ℕ) (s : State) → P s → P (set_previous_wake i time s)
  unfolding set_previous_wake
  kept-set_previous_wake i time s h =
      four.moved s i (record (task_at s i) { progress = record (progress_at s i) { previous_wake = time } })
      (inl (refl, refl)) (refl, λ _. refl, λ _. refl) h

  pub kept-delay : (app : Application) (i : ℕ) → answers i ≡ true → (n : ℕ) (s : State) → P s → P (delay app i n s)
  unfolding delay
  kept-delay app i ma n s h =
      let t : State = answer app i (Some 0) s in
      let k : P t = kept-answer app i ma (Some 0) s h in
      let now : t.time ≡ s.time = (keeps-answer app i (Some 0) s).time in
      by_test (eqb n 0)
      (λ q. rw q (kept-yield_now t k))
      (λ q. let some : n ≢ 0 = (λ e. let f : eqb n 0 ≡ true = rw e refl in absurd (cc)) in
      rw q (kept-sleep i (s.time + n) t (omega arith) k))

  pub kept-delay_until : (app : Application) (i : ℕ) → answers i ≡ true → (w : ℕ) (s : State) → P s → P (delay_until app i w s)
  unfolding delay_until
  kept-delay_until app i ma w s h =
      let one : State = answer app i (Some 1) s in
      let now : one.time ≡ s.time = (keeps-answer app i (Some 1) s).time in
      by_test (ltb s.time w)
      (λ t. let l = ltb-true s.time w t in
      rw t (kept-set_previous_wake i w (sleep i w one) (kept-sleep i w one (omega arith) (kept-answer app i ma (Some 1) s h))))
      (λ t. rw t (kept-set_previous_wake i w (answer app i (Some 0) s) (kept-answer app i ma (Some 0) s h)))

  pub kept-fail : (check : Ending) (s : State) → is_failed_check (Some check) ≡ true → P s → P (fail check s)
  kept-fail check s is h =
      four.framed s (fail check s) refl refl refl (stops-fail s.stopped check is) (λ _. refl, λ _ k. k, λ _. (refl, refl)) h

  pub kept-stamp : (app : Application) (i : ℕ) (s : State) → stamps i ≡ true → P s → P (stamp app i s)
  unfolding stamp
  kept-stamp app i s may h =
      kept-go_to app i ((progress_at s i).op_index + 1) (record (progress_at s i) { stamp = s.time }) s
      (λ no. absurd (cc), λ _. refl) h

  pub kept-since : (app : Application) (i : ℕ) → answers i ≡ true → (s : State) → P s → P (since app i s)
  unfolding since
  kept-since app i ma s h = kept-answer app i ma (Some (min (s.time - (progress_at s i).stamp) 4294967295)) s h

  pub kept-expect : (app : Application) (i : ℕ) (condition : AnswerCondition) (s : State) → P s → P (expect app i condition s)
  unfolding expect
  kept-expect app i condition s h = by_test (holds s.variables condition (progress_at s i).answer)
      (λ t. rw t (kept-go_to app i ((progress_at s i).op_index + 1) (progress_at s i) s (λ _. refl, λ _. refl) h))
      (λ t. rw t (kept-fail (Check i (progress_at s i).op_index) s refl h))

  kept-next_turn : (app : Application) (i : ℕ) (p : Progress) (l : Loop) (ls : List Loop) (left : Option ℕ) (s : State)
      → IsAsBefore i p s → P s → P (next_turn app i p l ls left s)
  kept-next_turn app i p l ls None s same h = kept-go_to app i l.start p s same h
  kept-next_turn app i p l ls (Some left) s same h = by_test (leb left 1)
      (λ q. rw q (kept-go_to app i (p.op_index + 1) (record p { loops = ls }) s same h))
      (λ q. rw q (kept-go_to app i l.start _ s same h))

  pub kept-turn : (app : Application) (i : ℕ) (p : Progress) (ls : List Loop) (s : State)
      → IsAsBefore i p s → P s → P (turn app i p ls s)
  kept-turn app i p [] s same h = kept-go_to app i (p.op_index + 1) p s same h
  kept-turn app i p (l ∷ ls) s same h = kept-next_turn app i p l ls l.left s same h

  pub kept-branch : (app : Application) (i : ℕ) (condition : AnswerCondition) (s : State) → P s → P (branch app i condition s)
  unfolding branch
  kept-branch app i condition s h =
      let p : Progress = progress_at s i in
      by_test (holds s.variables condition p.answer)
      (λ q. rw q (kept-go_to app i (p.op_index + 1) p s (λ _. refl, λ _. refl) h))
      (λ q. rw q (kept-go_to app i (jump_from (script_of app i) p.op_index) p s (λ _. refl, λ _. refl) h))

  pub kept-leave_loop : (app : Application) (i : ℕ) (s : State) → P s → P (leave_loop app i s)
  unfolding leave_loop
  kept-leave_loop app i s h =
      let p : Progress = progress_at s i in
      kept-go_to app i (jump_from (script_of app i) p.op_index) (record p { loops = drop 1 p.loops }) s (λ _. refl, λ _. refl) h

  -- ---- calls on objects

  kept-one : {A : Type 0} (deed : A → State → State) (o : Option A) (s : State)
      → ((a : A) → P s → P (deed a s)) → P s → P (for_one deed o s)
  kept-one deed None s k h = h
  kept-one deed (Some a) s k h = k a h

  pub kept-all_ready : (is : List ℕ) (s : State) → P s → P (for_each make_ready is s)
  kept-all_ready [] s h = h
  kept-all_ready (i ∷ is) s h = kept-all_ready is (make_ready i s) (made_ready s i h)

  pub kept-preempt : (s : State) → P s → P (preempt s)
  unfolding preempt
  kept-preempt s h = by_test (is_outranked s) (λ t. rw t (kept-yield_now s h)) (λ t. rw t h)

  kept-wake_one : (i : ℕ) (list : WaitList) (s : State) → P s → P (wake_one i list s)
  kept-wake_one i list s h = by_test (is_locked s.locked list)
      (λ t.
      rw t (four.moved s i (record (task_at s i) { status = awake_status (status_at s i) })
      (inl (same_awake (status_at s i))) (refl, λ _. refl, λ _. refl) h))
      (λ t. rw t (made_ready s i h))

  kept-wake_best : (list : WaitList) (s : State) → P s → P (wake_best list s)
  unfolding wake_best
  kept-wake_best list s h = kept-one (λ i. wake_one i list) (task_of (first (waiters s list))) s (λ i. kept-wake_one i list s) h

  kept-fulfil : (caller : Option ℕ) (o : ℕ) (a : Access ℕ) (s : State) → P s → P (fulfil caller o a s)
  unfolding fulfil
  kept-fulfil caller o a s h =
      let t : State = with_object o (object_after caller a (object_at s o)) s in
      kept-one wake_best (list_woken caller o a) t (λ list. kept-wake_best list t)
      (four.framed s t refl refl refl (inl refl) (λ _. refl, λ _ k. k, λ _. (refl, refl)) h)

  pub kept-attempt : (caller : Option ℕ) (o : ℕ) (a : Access ℕ) (s : State) → P s → P (attempt caller o a s)
  unfolding attempt
  kept-attempt caller o a s h = by_test (possible s o a) (λ t. rw t (kept-fulfil caller o a s h)) (λ t. rw t h)

  -- a task's call goes on
  kept-with_call : (i : ℕ) (call : CallProgress) (s : State) → P s → P (with_call i call s)
  kept-with_call i call s h =
      four.moved s i (record (task_at s i) { progress = record (progress_at s i) { call = call } })
      (inl (refl, refl)) (refl, λ _. refl, λ _. refl) h

  kept-set_deadline : (i : ℕ) (ticks : Option ℕ) (s : State) → P s → P (set_deadline i ticks s)
  unfolding set_deadline
  kept-set_deadline i ticks s h = kept-with_call i _ s h

  -- ---- priorities

  kept-set_priority : (i priority : ℕ) (s : State) → P s → P (set_priority i priority s)
  unfolding set_priority
  kept-set_priority i priority s h =
      let t : Task = record (task_at s i) { priority = priority } in
      by_test (eqb (task_at s i).priority priority)
      (λ e. rw e h)
      (λ e. rw e (kept-to_back i (with_task i t s) (four.moved s i t (inl (refl, refl)) (refl, λ _. refl, λ _. refl) h)))

  kept-raise : (holder priority : ℕ) (s : State) → P s → P (raise holder priority s)
  kept-raise holder priority s h = by_test (ltb (task_at s holder).priority priority)
      (λ t. rw t (kept-set_priority holder priority s h))
      (λ t. rw t h)

  kept-inherit : (i o : ℕ) (s : State) → P s → P (inherit i o s)
  unfolding inherit
  kept-inherit i o s h =
      kept-one (inherit_from i) (object_at s o).holder s
      (λ holder k. kept-raise holder (task_at s i).priority _ (kept-with_call i _ s k)) h

  kept-fall_back : (o holder : ℕ) (s : State) → P s → P (fall_back o holder s)
  kept-fall_back o holder s h = by_test (eqb (mutexes_held s holder) 1)
      (λ t. rw t (kept-set_priority holder _ s h))
      (λ t. rw t h)

  kept-after_timeout : (i o : ℕ) (s : State) → P s → P (after_timeout i o s)
  unfolding after_timeout
  kept-after_timeout i o s h = by_test (call_at s i).inherited
      (λ t. rw t (kept-one (fall_back o) (object_at s o).holder s (λ holder. kept-fall_back o holder s) h))
      (λ t. rw t h)

  kept-disinherit : (i : ℕ) (s : State) → P s → P (disinherit i s)
  unfolding disinherit
  kept-disinherit i s h = by_test (eqb (mutexes_held s i) 0)
      (λ t. rw t (kept-set_priority i _ s h))
      (λ t. rw t h)

  pub kept-give_mutex : (app : Application) (i : ℕ) → answers i ≡ true → (o : ℕ) (s : State) → P s → P (give_mutex app i o s)
  unfolding give_mutex
  kept-give_mutex app i ma o s h =
      let free : State = with_object o (record (object_at s o) { holder = None }) s in
      kept-preempt _ (kept-answer app i ma (Some 1) _
      (kept-wake_best (ToReceive o) _
      (kept-disinherit i free (four.framed s free refl refl refl (inl refl) (λ _. refl, λ _ k. k, λ _. (refl, refl)) h))))

  -- ---- calls that may wait, and those that don't

  kept-try : (app : Application) (i : ℕ) → answers i ≡ true → (o : ℕ) (a : Access ℕ) (s : State) → P s → P (try app i o a s)
  unfolding try
  kept-try app i ma o a s h = by_test (possible s o a)
      (λ p. rw p (kept-preempt _ (kept-answer app i ma (answer_to s o a) _ (kept-fulfil (Some i) o a s h))))
      (λ p. rw p (by_test (is_expired s i)
      (λ q. rw q (kept-answer app i ma (answer_to s o a) (after_timeout i o s) (kept-after_timeout i o s h)))
      (λ q. rw q (kept-with_call i _ s h))))

  kept-wait_in : (i : ℕ) (list : WaitList) (s : State) → is_expired s i ≡ false → P s → P (wait_in i list s)
  unfolding wait_in
  kept-wait_in i list s t h =
      let call : CallProgress = record (call_at s i) { waits = true } in
      four.taken (with_call i call s) i
      (λ ticket.
      Waiting (record { list = list; priority = (task_at s i).priority; ticket = ticket; deadline = (call_at s i).deadline }))
      refl (still_to_come (call_at s i).deadline s.time t) (kept-with_call i call s h)

  -- the scheduler is held and the object locked, and the call goes on
  kept-lock : (i o : ℕ) (phase : Phase) (s : State) → P s → P (lock i o phase s)
  kept-lock i o phase s h =
      let t : State = record s { call_hold = true; locked = Some o } in
      kept-with_call i _ t (four.framed s t refl refl refl (inl refl) (λ _. refl, λ _ k. k, λ _. (refl, refl)) h)

  kept-decide : (i o : ℕ) (a : Access ℕ) (s : State) → P s → P (decide i o a s)
  unfolding decide
  kept-decide i o a s h = by_test (possible s o a || is_expired s i)
      (λ t. rw t (kept-lock i o Unlock s h))
      (λ t.
      let on : is_expired (inherit i o s) i ≡ false =
      expired_inherited s i o ∙ or_false_right (possible s o a) (is_expired s i) t in
      rw t (kept-lock i o Place _ (kept-wait_in i (list_for o a) (inherit i o s) on (kept-inherit i o s h))))

  kept-unlock : (s : State) → P s → P (unlock s)
  unfolding unlock
  kept-unlock s h =
      kept-one unlock_object s.locked s
      (λ o k.
      kept-all_ready (tasks_of (awakened s (ToReceive o)) ++ tasks_of (awakened s (ToSend o)))
      (record s { locked = None }) (four.framed s (record s { locked = None }) refl refl refl (inl refl)
      (λ _. refl, λ _ k. k, λ _. (refl, refl)) k))
      h

  -- ---- a hold ends

  -- the held ticks are applied
  pub kept-applied : (n : ℕ) (s : State) → P s → P (apply_held n s)
  unfolding apply_one advance
  kept-applied zero s h = h
  kept-applied (suc n) s h =
      let t : State = record s { held_ticks = s.held_ticks - 1 } in
      kept-applied n (apply_one s) (four.passed 1 t (none_in_one t)
      (four.framed s t refl refl refl (inl refl) (λ _. refl, λ _ k. k, λ _. (refl, refl)) h))

  kept-end_hold : (i : ℕ) (phase : Phase) (s : State) → P s → P (end_hold i phase s)
  kept-end_hold i phase s h =
      let t : State = record s { call_hold = false } in
      kept-applied s.held_ticks (let_go i phase s)
      (kept-with_call i _ t (four.framed s t refl refl refl (inl refl) (λ _. refl, λ _ k. k, λ _. (refl, refl)) h))

  kept-leave_call : (i : ℕ) (s : State) → P s → P (leave_call i s)
  unfolding leave_call
  kept-leave_call i s h =
      let free : P (end_hold i Try s) = kept-end_hold i Try s h in
      by_test (call_at s i).waits
      (λ q. rw q (kept-choose (end_hold i Try s) free))
      (λ q. rw q (kept-preempt (end_hold i Try s) free))

  pub kept-await : (app : Application) (i : ℕ) → answers i ≡ true
      → (o : ℕ) (a : Access ℕ) (ticks : Option ℕ) (phase : Phase) (s : State)
      → P s → P (await app i o a ticks phase s)
  kept-await app i ma o a ticks Start s h = kept-try app i ma o a _ (kept-set_deadline i ticks s h)
  kept-await app i ma o a ticks Try s h = kept-try app i ma o a s h
  kept-await app i ma o a ticks Decide s h = kept-decide i o a s h
  kept-await app i ma o a ticks Place s h = kept-with_call i _ s h
  kept-await app i ma o a ticks Unlock s h = kept-with_call i _ (unlock s) (kept-unlock s h)
  kept-await app i ma o a ticks Leave s h = kept-leave_call i s h

  pub kept-do_now : (app : Application) (i : ℕ) → answers i ≡ true → (o : ℕ) (a : Access ℕ) (s : State) → P s
      → P (do_now app i o a s)
  unfolding do_now
  kept-do_now app i ma o a s h = kept-preempt _ (kept-answer app i ma (answer_to s o a) _ (kept-attempt (Some i) o a s h))

  -- ---- tasks suspended and resumed

  pub kept-suspend : (i : ℕ) (s : State) → P s → P (suspend i s)
  unfolding suspend
  kept-suspend i s h = by_test (can_suspend (status_at s i))
      (λ t. rw t (four.moved s i (record (task_at s i) { status = Suspended }) (inr (refl, refl)) (refl, λ _. refl, λ _. refl) h))
      (λ t. rw t h)

  pub kept-resume : (i : ℕ) (s : State) → P s → P (resume i s)
  unfolding resume
  kept-resume i s h = by_test (can_resume (status_at s i))
      (λ t.
      rw t (made_ready _ i (four.moved s i (record (task_at s i) { progress = resumed s.time (progress_at s i) })
      (inl (refl, refl)) (refl, λ _. refl, λ _. refl) h)))
      (λ t. rw t h)

  pub kept-replied : (app : Application) (i : ℕ) → answers i ≡ true → (a : Option ℕ) (s : State) → P s
      → P (preempt (answer app i a s))
  kept-replied app i ma a s h = kept-preempt (answer app i a s) (kept-answer app i ma a s h)

  -- ---- event groups

  pub kept-with_bits : (group bits : ℕ) (s : State) → P s → P (with_bits group bits s)
  kept-with_bits group bits s h =
      four.framed s (with_bits group bits s) refl refl refl (inl refl) (λ _. refl, λ _ k. k, λ _. (refl, refl)) h

  kept-wake_all : (bits : ℕ) (is : List ℕ) (s : State) → P s → P (wake_all is bits s)
  kept-wake_all bits [] s h = h
  kept-wake_all bits (i ∷ is) s h =
      kept-wake_all bits is (wake_with_bits i bits s) (made_ready (keep_answer i bits s) i (kept-with_call i _ s h))

  kept-set : (group mask : ℕ) (s : State) → P s → P (set_in_group group mask s)
  unfolding set_in_group
  kept-set group mask s h =
      let bits : ℕ = bits_set group mask s in
      let met : List ℕ = met_by group bits s in
      kept-with_bits group (left_by met bits s) (wake_all met bits s) (kept-wake_all bits met s h)

  kept-begin_set : (i group mask : ℕ) (s : State) → P s → P (begin_set i group mask s)
  unfolding begin_set
  kept-begin_set i group mask s h =
      let t : State = record s { call_hold = true } in
      kept-with_call i _ _ (kept-with_call i _ _
      (kept-set group mask t (four.framed s t refl refl refl (inl refl) (λ _. refl, λ _ k. k, λ _. (refl, refl)) h)))

  kept-end_set : (app : Application) (i : ℕ) → answers i ≡ true → (s : State) → P s
      → P (preempt (answer app i (call_at s i).kept (end_hold i Start s)))
  kept-end_set app i ma s h = kept-replied app i ma (call_at s i).kept (end_hold i Start s) (kept-end_hold i Start s h)

  pub kept-set_bits : (app : Application) (i : ℕ) → answers i ≡ true → (group mask : ℕ) (phase : Phase) (s : State) → P s
      → P (set_bits app i group mask phase s)
  kept-set_bits app i ma group mask Start s h = kept-begin_set i group mask s h
  kept-set_bits app i ma group mask Try s h = kept-end_set app i ma s h
  kept-set_bits app i ma group mask Decide s h = kept-end_set app i ma s h
  kept-set_bits app i ma group mask Place s h = kept-end_set app i ma s h
  kept-set_bits app i ma group mask Unlock s h = kept-end_set app i ma s h
  kept-set_bits app i ma group mask Leave s h = kept-end_set app i ma s h

  kept-answer_bits : (app : Application) (i : ℕ) → answers i ≡ true → (group : ℕ) (c : Condition) (s : State) → P s
      → P (answer_bits app i group c s)
  unfolding answer_bits
  kept-answer_bits app i ma group c s h = by_test (is_met (bits_at s group) c)
      (λ t. rw t (kept-answer app i ma (Some (bits_at s group)) _ (kept-with_bits group _ s h)))
      (λ t. rw t (kept-answer app i ma (Some (bits_at s group)) s h))

  kept-begin_bits_wait : (i group : ℕ) (c : Condition) (ticks : Option ℕ) (s : State)
      → option_eq eqb ticks (Some 0) ≡ false → P s → P (begin_bits_wait i group c ticks s)
  unfolding begin_bits_wait wait_for_bits set_deadline
  kept-begin_bits_wait i group c ticks s some h =
      let t : State = record s { call_hold = true } in
      let u : State = want i c (set_deadline i ticks t) in
      kept-with_call i _ _ (four.taken u i (λ ticket. WaitingForBits group ticket (call_at u i).deadline)
      refl (begun_later i c ticks t some)
      (kept-with_call i _ _ (kept-set_deadline i ticks t (four.framed s t refl refl refl (inl refl)
      (λ _. refl, λ _ k. k, λ _. (refl, refl)) h))))

  kept-check : (app : Application) (i : ℕ) → answers i ≡ true → (group : ℕ) (c : Condition) (ticks : Option ℕ) (s : State)
      → P s → P (check app i group c ticks s)
  unfolding check
  kept-check app i ma group c ticks s h = by_test (is_met (bits_at s group) c || option_eq eqb ticks (Some 0))
      (λ t. rw t (kept-answer_bits app i ma group c s h))
      (λ t.
      rw t
      (kept-begin_bits_wait i group c ticks s (or_false_right (is_met (bits_at s group) c) (option_eq eqb ticks (Some 0)) t) h))

  kept-final_bits : (app : Application) (i : ℕ) → answers i ≡ true → (group : ℕ) (c : Condition) (kept : Option ℕ) (s : State)
      → P s → P (final_bits app i group c kept s)
  kept-final_bits app i ma group c None s h = kept-answer_bits app i ma group c s h
  kept-final_bits app i ma group c (Some bits) s h = kept-answer app i ma (Some bits) s h

  pub kept-wait_bits : (app : Application) (i : ℕ) → answers i ≡ true
      → (group : ℕ) (c : Condition) (ticks : Option ℕ) (phase : Phase) (s : State)
      → P s → P (wait_bits app i group c ticks phase s)
  kept-wait_bits app i ma group c ticks Start s h = kept-check app i ma group c ticks s h
  kept-wait_bits app i ma group c ticks Leave s h = kept-choose (end_hold i Try s) (kept-end_hold i Try s h)
  kept-wait_bits app i ma group c ticks Try s h = kept-final_bits app i ma group c (call_at s i).kept s h
  kept-wait_bits app i ma group c ticks Decide s h = kept-final_bits app i ma group c (call_at s i).kept s h
  kept-wait_bits app i ma group c ticks Place s h = kept-final_bits app i ma group c (call_at s i).kept s h
  kept-wait_bits app i ma group c ticks Unlock s h = kept-final_bits app i ma group c (call_at s i).kept s h

  -- ---- notifications

  kept-with_notification : (i : ℕ) (n : Notification) (s : State)
      → (takes ≡ false → StaysPending task s (with_notification i n s)) → P s → P (with_notification i n s)
  kept-with_notification i n s may h =
      four.framed s (with_notification i n s) refl refl refl (inl refl) (λ _. refl, may, λ _. (refl, refl)) h

  kept-wake_notified : (i : ℕ) (s : State) → P s → P (wake_notified i s)
  kept-wake_notified i s h = by_test (waits_for_notification (status_at s i))
      (λ t. rw t (made_ready s i h))
      (λ t. rw t h)

  pub kept-notify : (i : ℕ) (action : NotifyAction ℕ) (s : State) → P s → P (notify i action s)
  unfolding notify
  kept-notify i action s h =
      let n : Notification = notified action (notification_at s i) in
      kept-wake_notified i (with_notification i n s)
      (kept-with_notification i n s (λ _. pending_by task i n s (λ _. refl)) h)

  -- The op of this task doesn't take the notification, if that is its own, unless it may be taken.
  abbrev MayTake : ℕ → Bool → Type 0
  MayTake i is = takes ≡ false → task ≡ i → is ≡ false

  kept-end_notification_wait : (app : Application) (i : ℕ) → answers i ≡ true → (wait : NotificationWait) (s : State)
      → MayTake i true → P s → P (end_notification_wait app i wait s)
  unfolding end_notification_wait
  kept-end_notification_wait app i ma wait s may h =
      let n : Notification = left_by_wait wait (notification_at s i) in
      kept-answer app i ma _ (with_notification i n s)
      (kept-with_notification i n s (λ no. pending_apart task i n s (λ e. let own = may no e in absurd (cc))) h)

  kept-begin_notification_wait : (i : ℕ) (ticks : Option ℕ) (s : State)
      → option_eq eqb ticks (Some 0) ≡ false → P s → P (begin_notification_wait i ticks s)
  unfolding begin_notification_wait wait_for_notification set_deadline
  kept-begin_notification_wait i ticks s some h =
      let t : State = record s { call_hold = true } in
      let u : State = set_deadline i ticks t in
      kept-with_call i _ _ (four.taken u i (λ ticket. WaitingForNotification ticket (call_at u i).deadline)
      refl (dated_later i ticks t some)
      (kept-set_deadline i ticks t (four.framed s t refl refl refl (inl refl) (λ _. refl, λ _ k. k, λ _. (refl, refl)) h)))

  kept-check_notification : (app : Application) (i : ℕ) → answers i ≡ true
      → (wait : NotificationWait) (ticks : Option ℕ) (s : State)
      → MayTake i (is_there wait (notification_at s i) || option_eq eqb ticks (Some 0))
      → P s → P (check_notification app i wait ticks s)
  unfolding check_notification
  kept-check_notification app i ma wait ticks s may h =
      let there : Bool = is_there wait (notification_at s i) in
      by_test (there || option_eq eqb ticks (Some 0))
      (λ t. rw t (kept-end_notification_wait app i ma wait s (subst (MayTake i) t may) h))
      (λ t. rw t (kept-begin_notification_wait i ticks s (or_false_right there (option_eq eqb ticks (Some 0)) t) h))

  pub kept-await_notification : (app : Application) (i : ℕ) → answers i ≡ true
      → (wait : NotificationWait) (ticks : Option ℕ) (phase : Phase) (s : State)
      → MayTake i (is_last_phase wait ticks phase (notification_at s i)) → P s → P (await_notification app i wait ticks phase s)
  kept-await_notification app i ma wait ticks Start s may h =
      let n : Notification = entered wait (notification_at s i) in
      let t : State = with_notification i n s in
      let there : notification_at t i ≡ n = rw (eqb-refl i) refl in
      kept-check_notification app i ma wait ticks t
      (subst (λ (m : Notification). MayTake i (is_there wait m || option_eq eqb ticks (Some 0))) (sym there) may)
      (kept-with_notification i n s (λ _. pending_by task i n s (pending_entered wait (notification_at s i))) h)
  kept-await_notification app i ma wait ticks Leave s may h = kept-choose (end_hold i Try s) (kept-end_hold i Try s h)
  kept-await_notification app i ma wait ticks Try s may h = kept-end_notification_wait app i ma wait s may h
  kept-await_notification app i ma wait ticks Decide s may h = kept-end_notification_wait app i ma wait s may h
  kept-await_notification app i ma wait ticks Place s may h = kept-end_notification_wait app i ma wait s may h
  kept-await_notification app i ma wait ticks Unlock s may h = kept-end_notification_wait app i ma wait s may h

  pub kept-clear_notification : (app : Application) (i : ℕ) → answers i ≡ true → (what : NotificationClear) (s : State)
      → MayTake i (takes_notification s i (ClearNotification what)) → P s → P (clear_notification app i what s)
  unfolding clear_notification
  kept-clear_notification app i ma Pending s may h =
      let n : Notification = cleared Pending (notification_at s i) in
      kept-answer app i ma _ (with_notification i n s)
      (kept-with_notification i n s (λ no. pending_apart task i n s (λ e. let own = may no e in absurd (cc))) h)
  kept-clear_notification app i ma (Bits bits) s may h =
      let n : Notification = cleared (Bits bits) (notification_at s i) in
      kept-answer app i ma _ (with_notification i n s) (kept-with_notification i n s (λ _. pending_by task i n s (λ k. k)) h)

  -- ---- the daemon

  kept-received : (app : Application) (i : ℕ) → answers i ≡ true → (a : Option ℕ) (s : State) → P s → P (received app i a s)
  unfolding received
  kept-received app i ma a s h =
      kept-go_to app i ((progress_at s i).op_index + 1) (record (progress_at s i) { answer = a }) s (λ _. refl, λ no. absurd (cc)) h

  kept-take_command : (app : Application) (i : ℕ) → answers i ≡ true → (o : ℕ) (s : State) → P s → P (take_command app i o s)
  unfolding take_command
  kept-take_command app i ma o s h = by_test (possible s o Receive)
      (λ t. rw t (kept-preempt _ (kept-received app i ma (answer_to s o Receive) _ (kept-fulfil (Some i) o Receive s h))))
      (λ t. rw t (kept-with_call i _ s h))

  pub kept-next_command : (app : Application) (i : ℕ) → answers i ≡ true → (o : ℕ) (phase : Phase) (s : State) → P s
      → P (next_command app i o phase s)
  kept-next_command app i ma o Start s h = kept-take_command app i ma o s h
  kept-next_command app i ma o Try s h = kept-take_command app i ma o s h
  kept-next_command app i ma o Decide s h = kept-await app i ma o Receive None Decide s h
  kept-next_command app i ma o Place s h = kept-await app i ma o Receive None Place s h
  kept-next_command app i ma o Unlock s h = kept-await app i ma o Receive None Unlock s h
  kept-next_command app i ma o Leave s h = kept-await app i ma o Receive None Leave s h

  kept-obeyed : (app : Application) (i : ℕ) → answers i ≡ true → (clear : Bool) (bits : ℕ) (s : State) → P s
      → P (obeyed app i clear bits s)
  unfolding obeyed
  kept-obeyed app i ma clear bits s h =
      let t : State = write (what.Obeyed i clear bits) s in
      kept-go_to app i 0 (record (progress_at s i) { answer = Some bits }) t (λ _. refl, λ no. absurd (cc))
      (four.framed s t refl refl refl (inl refl) (λ _. refl, λ _ k. k, λ _. (refl, refl)) h)

  kept-clear_by_daemon : (app : Application) (i : ℕ) → answers i ≡ true → (group mask : ℕ) (s : State) → P s
      → P (clear_by_daemon app i group mask s)
  unfolding clear_by_daemon
  kept-clear_by_daemon app i ma group mask s h = kept-obeyed app i ma true (bits_at s group) _ (kept-with_bits group _ s h)

  kept-end_set_by_daemon : (app : Application) (i : ℕ) → answers i ≡ true → (group : ℕ) (s : State) → P s
      → P (end_set_by_daemon app i group s)
  kept-end_set_by_daemon app i ma group s h =
      kept-preempt _ (kept-obeyed app i ma false (bits_at s group) (end_hold i Start s) (kept-end_hold i Start s h))

  kept-begin_command : (app : Application) (i : ℕ) → answers i ≡ true → (c : Command) (s : State) → P s → P (obey app i c Start s)
  kept-begin_command app i ma c s h = by_test c.clear
      (λ t. rw t (kept-clear_by_daemon app i ma c.group c.mask s h))
      (λ t. rw t (kept-begin_set i c.group c.mask s h))

  pub kept-obey : (app : Application) (i : ℕ) → answers i ≡ true → (c : Command) (phase : Phase) (s : State) → P s
      → P (obey app i c phase s)
  kept-obey app i ma c Start s h = kept-begin_command app i ma c s h
  kept-obey app i ma c Try s h = kept-end_set_by_daemon app i ma c.group s h
  kept-obey app i ma c Decide s h = kept-end_set_by_daemon app i ma c.group s h
  kept-obey app i ma c Place s h = kept-end_set_by_daemon app i ma c.group s h
  kept-obey app i ma c Unlock s h = kept-end_set_by_daemon app i ma c.group s h
  kept-obey app i ma c Leave s h = kept-end_set_by_daemon app i ma c.group s h
