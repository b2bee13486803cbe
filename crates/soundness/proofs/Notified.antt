-- What the calls on notifications keep.
use Rattle.std.proofs.Common.{◌≡◌, ◌<◌, ◌≤◌, ℕ, true, false, ltb, ltb-false, length, Option, Some, None, refl, ap, arith}
use Rattle.std.specs.Option.{is_some}
use Rattle.std.proofs.lemmas.Bool.{ltb-true}
use Rattle.std.proofs.lemmas.List.{get_or_past}
use Rattle.model.specs.declared.op.Op.{Op}
use Rattle.model.specs.declared.notification.Notification.{Notification}
use Rattle.model.specs.declared.notification.NotifyAction.{NotifyAction}
use Rattle.model.specs.declared.notification.NotificationWait.{NotificationWait}
use Rattle.model.specs.declared.notification.NotificationClear.{NotificationClear}
use Rattle.model.specs.Application.{Application, op_at}
use Rattle.model.specs.Scripts.{IsWellFormed, is_wait}
use Rattle.model.specs.State.{State, Task, Status, Ready, Awake, Waiting, Asleep, WaitingForBits, WaitingForNotification, Suspended}
use Rattle.model.specs.State.{Ended, ticket_if_ready, waits_for_notification, task_at, status_at, progress_at, call_at}
use Rattle.model.specs.State.{notification_at, with_notification, no_task}
use Rattle.model.specs.Switching.{is_ready}
use Rattle.model.specs.Waiting.{set_deadline}
use Rattle.model.specs.Ops.{answer}
use Rattle.model.specs.Notifications.{notified, wake_notified, notify, wait_answer, left_by_wait, end_notification_wait}
use Rattle.model.specs.Notifications.{wait_for_notification, begin_notification_wait, clear_answer, cleared, clear_notification}
use Rattle.model.specs.Invariant.{IsReckoned, Hold, hold_of, UntilWoken, course, IsSound, suspension_of, IsState, wait_of}
use Rattle.model.proofs.Sorting.{by_test}
use Rattle.soundness.proofs.InScripts.{nesting_past}
use Rattle.soundness.proofs.Keeping.{keeps-set_deadline}
use Rattle.soundness.proofs.Sound.{renotified, made_ready, answered}
use Rattle.soundness.proofs.Reckoned.{CanBeReady}
use Rattle.soundness.proofs.Phases.{unsuspended}
use Rattle.soundness.proofs.Bits.{stays-set_deadline, WaitsApart, wait_started, dated_sound, dated_ready}

-- ---- who waits for a notification

-- What is true of each status of one who waits for a notification is true of one who does.
pub by_awaiting : (P : Status → Type 0) → ((ticket : ℕ) (deadline : Option ℕ) → P (WaitingForNotification ticket deadline))
    → (u : Status) → waits_for_notification u ≡ true → P u
by_awaiting P f (Ready n) t = absurd (cc)
by_awaiting P f (Awake w) t = absurd (cc)
by_awaiting P f (Waiting w) t = absurd (cc)
by_awaiting P f (Asleep v n) t = absurd (cc)
by_awaiting P f (WaitingForBits g m d) t = absurd (cc)
by_awaiting P f (WaitingForNotification m d) t = f m d
by_awaiting P f Suspended t = absurd (cc)
by_awaiting P f Ended t = absurd (cc)

pub awaiting_free : (u : Status) → waits_for_notification u ≡ true → wait_of u ≡ None
awaiting_free u t = by_awaiting (λ v. wait_of v ≡ None) (λ m d. refl) u t

pub awaiting_not_ready : (u : Status) → waits_for_notification u ≡ true → is_some (ticket_if_ready u) ≡ false
awaiting_not_ready u t = by_awaiting (λ v. is_some (ticket_if_ready v) ≡ false) (λ m d. refl) u t

pub awaiting_there : (s : State) (i : ℕ) → waits_for_notification (status_at s i) ≡ true → i < length s.tasks
awaiting_there s i waits = by_test (ltb i (length s.tasks))
    (λ t. ltb-true i (length s.tasks) t)
    (λ t.
    let none : task_at s i ≡ no_task = get_or_past s.tasks i no_task (ltb-false i (length s.tasks) t) in
    let f : waits_for_notification (status_at s i) ≡ false = ap (λ (u : Task). waits_for_notification u.status) none in
    absurd (cc))

-- One who waits for a notification may be Ready.
awaiting_can : (s : State) (i : ℕ) → IsReckoned s.time (progress_at s i).previous_wake (status_at s i)
    → waits_for_notification (status_at s i) ≡ true → CanBeReady s i
awaiting_can s i reckoned t = (
  awaiting_there s i t,
  by_awaiting (λ u. IsReckoned s.time (progress_at s i).previous_wake u → (progress_at s i).previous_wake ≤ s.time)
      (λ m d r. r) (status_at s i) t reckoned,
)

for_notification : (deadline : Option ℕ) → WaitsApart (λ ticket. WaitingForNotification ticket deadline)
for_notification deadline =
    record { free = λ ticket. refl; below = λ ticket. omega arith; reckoned = λ now previous ticket past. past }

-- ---- what is kept

module _ (app : Application) (formed : IsWellFormed app) (hold : Hold) where
  -- the notification of a task
  pub notification_put : (s : State) (i : ℕ) (n : Notification) → IsSound app hold s → IsSound app hold (with_notification i n s)
  notification_put s i n h = renotified app formed hold s (with_notification i n s).notifications h

  pub woken_notified : (s : State) (i : ℕ) → IsSound app hold s → IsSound app hold (wake_notified i s)
  woken_notified s i h = by_test (waits_for_notification (status_at s i))
      (λ t. rw t (made_ready app formed hold s i h (awaiting_can s i (h.progress i).reckoned t)))
      (λ t. rw t h)

  pub notified_task : (s : State) (i : ℕ) (action : NotifyAction ℕ) → IsSound app hold s → IsSound app hold (notify i action s)
  unfolding notify
  notified_task s i action h =
      let n : Notification = notified action (notification_at s i) in
      woken_notified (with_notification i n s) i (notification_put s i n h)

  module _ (s : State) (i : ℕ) (op : Op) (h : IsSound app hold s) (free : wait_of (status_at s i) ≡ None)
      (is : op_at app i (progress_at s i).op_index ≡ Some op) (flat : (nesting : ℕ) → nesting_past nesting op ≡ nesting) where
    -- the task leaves this of its notification, and answers
    left_of : (n : Notification) (a : Option ℕ) → IsSound app hold (answer app i a (with_notification i n s))
    left_of n a = answered app formed hold (with_notification i n s) i op (notification_put s i n h) free is a (flat _)

    pub notification_wait_ended : (wait : NotificationWait) → IsSound app hold (end_notification_wait app i wait s)
    unfolding end_notification_wait
    notification_wait_ended wait = left_of (left_by_wait wait (notification_at s i)) (wait_answer wait (notification_at s i))

    pub notification_cleared : (what : NotificationClear) → IsSound app hold (clear_notification app i what s)
    unfolding clear_notification
    notification_cleared what = left_of (cleared what (notification_at s i)) (clear_answer what (notification_at s i))

-- ---- a wait begins

module _ (app : Application) (formed : IsWellFormed app) (s : State) (i : ℕ) (op : Op) (h : IsSound app (hold_of s) s)
    (none : s.call_hold ≡ false) (unlocked : s.locked ≡ None) (calm : suspension_of s ≡ unsuspended)
    (runs : s.current ≡ Some i) (l : i < length s.tasks) (r : is_ready s i ≡ true)
    (is : op_at app i (progress_at s i).op_index ≡ Some op) where
  pub notification_wait_begun : (ticks : Option ℕ) → is_wait ticks ≡ true → course (Some op) ≡ UntilWoken
      → IsState app (begin_notification_wait i ticks s)
  unfolding begin_notification_wait wait_for_notification
  notification_wait_begun ticks range way =
      let begun : State = record s { call_hold = true } in
      let t : State = set_deadline i ticks begun in
      wait_started app formed s i op h none unlocked calm runs l r is t
      (λ ticket. WaitingForNotification ticket (call_at t i).deadline) (for_notification (call_at t i).deadline)
      (dated_sound app formed s i op h none unlocked calm runs l r is ticks range)
      (keeps-set_deadline i ticks begun) (stays-set_deadline i ticks begun)
      (dated_ready app formed s i op h none unlocked calm runs l r is ticks) way

pub notification_wait_held : (i : ℕ) (ticks : Option ℕ) (s : State) → (begin_notification_wait i ticks s).call_hold ≡ true
unfolding begin_notification_wait wait_for_notification set_deadline
notification_wait_held i ticks s = refl
