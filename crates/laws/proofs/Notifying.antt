-- What a notify changes, and what stays of a notification.
use Rattle.std.proofs.Common.{◌≡◌, ◌≢◌, ◌<◌, ◌≤◌, ◌+◌, ℕ, zero, suc, Bool, true, false, eqb, ltb, ltb-false, List, [], ◌∷◌}
use Rattle.std.proofs.Common.{length, get_or, Option, Some, None, refl, ap, sym, subst, ◌∙◌, arith, get_or-set_same}
use Rattle.std.specs.Prelude.{if◌then◌else◌}
use Rattle.std.specs.Option.{IfSome, is_some}
use Rattle.std.proofs.lemmas.Bool.{ltb-true}
use Rattle.std.proofs.lemmas.List.{get_or-set_other, get_or_past}
use Rattle.model.specs.declared.notification.Notification.{Notification}
use Rattle.model.specs.declared.notification.NotifyAction.{NotifyAction}
use Rattle.model.specs.declared.notification.NotifyAction.TheVariants.{Increment, Overwrite, Keep}
use Rattle.model.specs.declared.notification.NotificationWait.TheVariants.{Take}
use Rattle.model.specs.declared.op.Op.{Op}
use Rattle.model.specs.declared.op.Op.TheVariants.{Notify}
use Rattle.model.specs.declared.plan.Injection.{Injection}
use Rattle.model.specs.declared.value.Value.{Value}
use Rattle.model.specs.Application.{Application, Limits, op_at}
use Rattle.model.specs.Notifications.{call_notify, end_notification_wait, left_by_wait, notified, notify, notify_answer}
use Rattle.model.specs.Notifications.{wait_answer, wake_notified}
use Rattle.model.specs.Ops.{answer, called, go_to}
use Rattle.model.specs.Order.{tasks_of}
use Rattle.model.specs.Run.{injected, state_after}
use Rattle.model.specs.State.{State, Task, Progress, Status, Ready, Awake, Waiting, Asleep, WaitingForBits}
use Rattle.model.specs.State.{WaitingForNotification, Suspended, Ended, for_each, for_one, no_task, notification_at}
use Rattle.model.specs.State.{progress_at, status_at, task_at, ticket_if_ready, waits_for_notification, with_notification}
use Rattle.model.specs.Step.{act, before_step, notify_by_number, step}
use Rattle.model.specs.Switching.{choice, choose, dispatch, is_outranked, is_ready, is_same, make_ready, preempt, to_back}
use Rattle.model.specs.Switching.{write, yield_now}
use Rattle.model.specs.Time.{due, wake_due}
use Rattle.model.proofs.Sorting.{by_test}
use Rattle.model.proofs.Lists.{eqb-refl, eqb-same}
use Rattle.soundness.proofs.Frames.{keeps-notify}
use Rattle.soundness.proofs.Notified.{awaiting_there}
use Rattle.laws.specs.Notifications.{TakesNone, takes_notification}
use Rattle.laws.proofs.Blocks.{at-go_to}
use Rattle.laws.proofs.Deeds.{Keeping}
use Rattle.laws.proofs.Changes.{anyone, kept-step}
use Rattle.laws.proofs.Sleeping.{NoneBetween}
use Rattle.laws.proofs.Staying.{AreLeft, Stops}

-- ---- what is put for a task

put_there : (i : ℕ) (n : Notification) (s : State) → notification_at (with_notification i n s) i ≡ n
put_there i n s = rw (eqb-refl i) refl

apart_test : (i j : ℕ) → i ≢ j → eqb i j ≡ false
apart_test i j apart = by_test (eqb i j) (λ t. absurd (apart (eqb-same i j t))) (λ t. t)

put_elsewhere : (i j : ℕ) (n : Notification) (s : State) → j ≢ i
    → notification_at (with_notification i n s) j ≡ notification_at s j
put_elsewhere i j n s apart = rw (apart_test j i apart) refl

-- ---- deeds that change no notification

-- All notifications are as they were.
abbrev Same : State → State → Type 0
Same old new = new.notifications ≡ old.notifications

same-wake : (i : ℕ) (s : State) → Same s (wake_notified i s)
same-wake i s = by_test (waits_for_notification (status_at s i)) (λ t. rw t refl) (λ t. rw t refl)

same-answer : (app : Application) (i : ℕ) (a : Option ℕ) (s : State) → Same s (answer app i a s)
unfolding answer go_to
same-answer app i a s = refl

same-back : (o : Option ℕ) (s : State) → Same s (for_one to_back o s)
unfolding to_back
same-back None s = refl
same-back (Some i) s = by_test (is_ready s i) (λ t. rw t refl) (λ t. rw t refl)

same-choose : (s : State) → Same s (choose s)
unfolding choose dispatch
same-choose s = by_test (is_same (choice s) s.current) (λ t. rw t refl) (λ t. rw t refl)

same-preempt : (s : State) → Same s (preempt s)
unfolding preempt yield_now
same-preempt s = by_test (is_outranked s)
    (λ t. rw t (same-choose (for_one to_back s.current s) ∙ same-back s.current s))
    (λ t. rw t refl)

same-all_ready : (is : List ℕ) (s : State) → Same s (for_each make_ready is s)
same-all_ready [] s = refl
same-all_ready (i ∷ is) s = same-all_ready is (make_ready i s)

-- ---- what a notify makes of the notification

pub at-notify : (i : ℕ) (action : NotifyAction ℕ) (s : State)
    → notification_at (notify i action s) i ≡ notified action (notification_at s i)
unfolding notify
at-notify i action s =
    let n : Notification = notified action (notification_at s i) in
    ap (λ (ns : ℕ → Notification). ns i) (same-wake i (with_notification i n s)) ∙ put_there i n s

-- ---- two, one after the other

at-both : (i : ℕ) (one other : NotifyAction ℕ) (s : State)
    → notification_at (notify i other (notify i one s)) i ≡ notified other (notified one (notification_at s i))
at-both i one other s =
    at-notify i other (notify i one s) ∙ ap (λ (n : Notification). notified other n) (at-notify i one s)

pub second_overwrites : (i a b : ℕ) (s : State)
    → notification_at (notify i (Overwrite b) (notify i (Overwrite a) s)) i ≡ record { value = b; pending = true }
second_overwrites i a b s = at-both i (Overwrite a) (Overwrite b) s

pub first_is_kept : (i a b : ℕ) (s : State) → (notification_at s i).pending ≡ false
    → notification_at (notify i (Keep b) (notify i (Keep a) s)) i ≡ record { value = a; pending = true }
first_is_kept i a b s none = at-both i (Keep a) (Keep b) s ∙ rw none refl

pub kept_as_it_is : (i value : ℕ) (action : NotifyAction ℕ) (s : State)
    → notification_at (notify i (Keep value) (notify i action s)) i ≡ notification_at (notify i action s) i
kept_as_it_is i value action s = at-both i action (Keep value) s ∙ sym (at-notify i action s)

pub keep_refused : (i value : ℕ) (action : NotifyAction ℕ) (s : State)
    → notify_answer (Keep value) (notification_at (notify i action s) i) ≡ Some 0
keep_refused i value action s = ap (λ (n : Notification). notify_answer (Keep value) n) (at-notify i action s)

-- ---- who wakes

ready_waits_not : (u : Status) → is_some (ticket_if_ready u) ≡ true → waits_for_notification u ≡ false
ready_waits_not (Ready n) h = refl
ready_waits_not (Awake w) h = refl
ready_waits_not (Waiting w) h = refl
ready_waits_not (Asleep w n) h = refl
ready_waits_not (WaitingForBits g n d) h = refl
ready_waits_not (WaitingForNotification n d) h = absurd (cc)
ready_waits_not Suspended h = refl
ready_waits_not Ended h = refl

pub ready_there : (s : State) (i : ℕ) → is_ready s i ≡ true → i < length s.tasks
ready_there s i is = by_test (ltb i (length s.tasks))
    (λ t. ltb-true i (length s.tasks) t)
    (λ t.
    let none : task_at s i ≡ no_task = get_or_past s.tasks i no_task (ltb-false i (length s.tasks) t) in
    let f : is_ready s i ≡ false = ap (λ (u : Task). is_some (ticket_if_ready u.status)) none in
    absurd (cc))

ready_then : (s : State) (i : ℕ) → i < length s.tasks → is_ready (make_ready i s) i ≡ true
ready_then s i l =
    ap (λ (u : Task). is_some (ticket_if_ready u.status))
    (get_or-set_same s.tasks i (record (task_at s i) { status = Ready s.next_ticket }) no_task l)

pub woken-notify : (i : ℕ) (action : NotifyAction ℕ) (s : State) → waits_for_notification (status_at s i) ≡ true
    → is_ready (notify i action s) i ≡ true
unfolding notify
woken-notify i action s waits =
    let t : State = with_notification i (notified action (notification_at s i)) s in
    rw waits (ready_then t i (awaiting_there s i waits))

pub left-notify : (i : ℕ) (action : NotifyAction ℕ) (s : State) → waits_for_notification (status_at s i) ≡ false
    → (notify i action s).tasks ≡ s.tasks
unfolding notify
left-notify i action s waits = rw waits refl

pub suspended_stays : (i : ℕ) (action : NotifyAction ℕ) (s : State) → status_at s i ≡ Suspended
    → status_at (notify i action s) i ≡ Suspended
suspended_stays i action s is =
    let waits : waits_for_notification (status_at s i) ≡ false = ap waits_for_notification is in
    ap (λ (ts : List Task). (get_or ts i no_task).status) (left-notify i action s waits) ∙ is

-- After a notify the task waits for none.
waits_no_more : (i : ℕ) (action : NotifyAction ℕ) (s : State)
    → waits_for_notification (status_at (notify i action s) i) ≡ false
waits_no_more i action s = by_test (waits_for_notification (status_at s i))
    (λ t. ready_waits_not (status_at (notify i action s) i) (woken-notify i action s t))
    (λ t. ap (λ (ts : List Task). waits_for_notification (get_or ts i no_task).status) (left-notify i action s t) ∙ t)

pub wakes_once : (i : ℕ) (one other : NotifyAction ℕ) (s : State)
    → (notify i other (notify i one s)).tasks ≡ (notify i one s).tasks
wakes_once i one other s = left-notify i other (notify i one s) (waits_no_more i one s)

pub spares_others : (i j : ℕ) (action : NotifyAction ℕ) (s : State) → j ≢ i
    → (task_at (notify i action s) j ≡ task_at s j) × (notification_at (notify i action s) j ≡ notification_at s j)
unfolding notify
spares_others i j action s apart =
    let n : Notification = notified action (notification_at s i) in
    let t : State = with_notification i n s in (
      by_test (waits_for_notification (status_at s i))
          (λ w. rw w (get_or-set_other s.tasks i j (record (task_at s i) { status = Ready s.next_ticket }) no_task apart))
          (λ w. rw w refl),
      ap (λ (ns : ℕ → Notification). ns j) (same-wake i t) ∙ put_elsewhere i j n s apart,
    )

-- ---- a task's notify

pub at-call_notify : (app : Application) (i j : ℕ) (action : NotifyAction Value) (s : State)
    → notification_at (act app i (Notify j action) s) j ≡ notified (notify_by_number s i action) (notification_at s j)
unfolding call_notify
at-call_notify app i j action s =
    let by : NotifyAction ℕ = notify_by_number s i action in
    let t : State = notify j by s in
    let a : Option ℕ = notify_answer by (notification_at s j) in
    ap (λ (ns : ℕ → Notification). ns j) (same-preempt (answer app i a t) ∙ same-answer app i a t) ∙ at-notify j by s

-- A Ready task goes to the back, or another does: it is Ready still.
ready-back : (j : ℕ) (o : Option ℕ) (s : State) → is_ready s j ≡ true → is_ready (for_one to_back o s) j ≡ true
unfolding to_back
ready-back j None s h = h
ready-back j (Some i) s h = by_test (is_ready s i)
    (λ t. rw t (by_test (eqb j i)
    (λ e. let same : j ≡ i = eqb-same j i e in
    subst (λ (k : ℕ). is_ready (make_ready i s) k ≡ true) (sym same) (ready_then s i (ready_there s i t)))
    (λ e.
    let apart : j ≢ i = (λ same. let f : eqb j i ≡ true = rw same (eqb-refl i) in absurd (cc)) in
    ap (λ (u : Task). is_some (ticket_if_ready u.status))
    (get_or-set_other s.tasks i j (record (task_at s i) { status = Ready s.next_ticket }) no_task apart) ∙ h)))
    (λ t. rw t h)

ready-choose : (j : ℕ) (s : State) → is_ready s j ≡ true → is_ready (choose s) j ≡ true
unfolding choose dispatch
ready-choose j s h = by_test (is_same (choice s) s.current) (λ t. rw t h) (λ t. rw t h)

ready-preempt : (j : ℕ) (s : State) → is_ready s j ≡ true → is_ready (preempt s) j ≡ true
unfolding preempt yield_now
ready-preempt j s h = by_test (is_outranked s)
    (λ t. rw t (ready-choose j (for_one to_back s.current s) (ready-back j s.current s h)))
    (λ t. rw t h)

ready-answer : (app : Application) (i j : ℕ) (a : Option ℕ) (s : State) → j ≢ i → is_ready s j ≡ true
    → is_ready (answer app i a s) j ≡ true
unfolding answer go_to
ready-answer app i j a s apart h =
    ap (λ (u : Task). is_some (ticket_if_ready u.status)) (get_or-set_other s.tasks i j _ no_task apart) ∙ h

pub woken-call_notify : (app : Application) (i j : ℕ) (action : NotifyAction Value) (s : State) → is_ready s i ≡ true
    → waits_for_notification (status_at s j) ≡ true → is_ready (act app i (Notify j action) s) j ≡ true
unfolding call_notify
woken-call_notify app i j action s ready waits =
    let by : NotifyAction ℕ = notify_by_number s i action in
    let t : State = notify j by s in
    let a : Option ℕ = notify_answer by (notification_at s j) in
    let apart : j ≢ i = (λ same.
    let f : waits_for_notification (status_at s i) ≡ false = ready_waits_not (status_at s i) ready in
    let g : waits_for_notification (status_at s i) ≡ true =
    subst (λ (k : ℕ). waits_for_notification (status_at s k) ≡ true) same waits in
    absurd (cc)) in
    ready-preempt j (answer app i a t) (ready-answer app i j a t apart (woken-notify j by s waits))

-- ---- counts

counted_twice : (i : ℕ) (s : State) → (notification_at s i).value ≡ 0
    → notification_at (notify i Increment (notify i Increment s)) i ≡ record { value = 2; pending = true }
counted_twice i s none = at-both i Increment Increment s ∙ rw none refl

pub takes_both : (app : Application) (i : ℕ) (clears : Bool) (s : State) → i < length s.tasks → (notification_at s i).value ≡ 0
    → (progress_at (end_notification_wait app i (Take clears) (notify i Increment (notify i Increment s))) i).answer ≡ Some 2
unfolding end_notification_wait answer
takes_both app i clears s l none =
    let t : State = notify i Increment (notify i Increment s) in
    let n : Notification = notification_at t i in
    let u : State = with_notification i (left_by_wait (Take clears) n) t in
    let p : Progress = record (progress_at u i) { answer = Some n.value } in
    let within : i < length t.tasks = rw (many i Increment (notify i Increment s), many i Increment s) l in
    ap (λ (q : Progress). q.answer) (at-go_to app i (p.op_index + 1) p (write (called i p.op_index (Some n.value)) u) within)
    ∙ ap (λ (m : Notification). Some m.value) (counted_twice i s none) where
      many : (i : ℕ) (action : NotifyAction ℕ) (s : State) → length (notify i action s).tasks ≡ length s.tasks
      many i action s = (keeps-notify i action s).tasks

pub leaves_one_or_none : (app : Application) (i : ℕ) (clears : Bool) (s : State) → (notification_at s i).value ≡ 0
    → (notification_at (end_notification_wait app i (Take clears) (notify i Increment (notify i Increment s))) i).value
    ≡ (if clears then 0 else 1)
unfolding end_notification_wait
leaves_one_or_none app i clears s none =
    let t : State = notify i Increment (notify i Increment s) in
    let n : Notification = notification_at t i in
    let left : Notification = left_by_wait (Take clears) n in
    let u : State = with_notification i left t in
    ap (λ (ns : ℕ → Notification). (ns i).value) (same-answer app i (wait_answer (Take clears) n) u)
    ∙ ap (λ (m : Notification). m.value) (put_there i left t)
    ∙ ap (λ (m : Notification). (left_by_wait (Take clears) m).value) (counted_twice i s none)

-- ---- a notification stays pending

module _ (i : ℕ) where
  -- One is pending.
  abbrev IsPending : State → Type 0
  IsPending s = (notification_at s i).pending ≡ true

  is-framed : (s t : State) → t.tasks ≡ s.tasks → t.next_ticket ≡ s.next_ticket
      → t.time ≡ s.time → Stops s.stopped t.stopped → AreLeft 0 true i false true s t → IsPending s → IsPending t
  is-framed s t e n m stops left h = left.1 refl h

  is-passed : (n : ℕ) (s : State) → NoneBetween n s → IsPending s → IsPending (wake_due (record s { time = s.time + n }))
  unfolding wake_due
  is-passed n s none h =
      let t : State = record s { time = s.time + n } in
      ap (λ (ns : ℕ → Notification). (ns i).pending) (same-all_ready (tasks_of (due t)) t) ∙ h

  is-kept : Keeping IsPending anyone anyone 0 true i false true
  is-kept = record {
    framed = is-framed;
    moved = λ s j t u remains k. k;
    taken = λ s j status is later k. k;
    passed = is-passed;
  }

  pub pending_after_step : (app : Application) (limits : Limits) (handlers : List ℕ) (s : State)
      → TakesNone app i (before_step app handlers s) → IsPending s → IsPending (step app limits handlers s)
  pending_after_step app limits handlers s spares h =
      let begun : State = before_step app handlers s in
      kept-step is-kept app (λ no. absurd (cc)) limits handlers s
      (λ j runs. (
        λ is. refl,
        λ no. absurd (cc),
        refl,
        λ no own.
            subst (λ (k : ℕ). begun.current ≡ Some k
            → IfSome (op_at app k (progress_at begun k).op_index) (λ (o : Op). takes_notification begun k o ≡ false)) own spares
            runs,
      )) h

pub still_pending : (app : Application) (limits : Limits) (handlers : List ℕ) (i : ℕ) (s : State)
    → TakesNone app i (before_step app handlers s) → (notification_at s i).pending ≡ true
    → (notification_at (step app limits handlers s) i).pending ≡ true
still_pending app limits handlers i s spares h = pending_after_step i app limits handlers s spares h

pub still_pending_after : (app : Application) (limits : Limits) (plan : List Injection) (i first n : ℕ)
    → ((m : ℕ) → first ≤ m → m < first + n → TakesNone app i (before_step app (injected plan m) (state_after app limits plan m)))
    → (notification_at (state_after app limits plan first) i).pending ≡ true
    → (notification_at (state_after app limits plan (first + n)) i).pending ≡ true
still_pending_after app limits plan i first zero spares h =
    let none : first + zero ≡ first = omega arith in
    ap (λ (m : ℕ). (notification_at (state_after app limits plan m) i).pending) none ∙ h
still_pending_after app limits plan i first (suc n) spares h =
    let one : first + suc n ≡ suc (first + n) = omega arith in
    ap (λ (m : ℕ). (notification_at (state_after app limits plan m) i).pending) one
    ∙ still_pending app limits (injected plan (first + n)) i (state_after app limits plan (first + n))
    (spares (first + n) (omega arith) (omega arith))
    (still_pending_after app limits plan i first n (λ m l k. spares m l (omega arith)) h)
