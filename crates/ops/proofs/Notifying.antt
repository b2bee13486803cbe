-- Task notifications: what a notify, and a wait for a notification, make of the states that the kernel represents.
use Rattle.std.proofs.Common.{◌≡◌, ◌≢◌, ◌<◌, ℕ, true, false, eqb, List, [], length, Option, Some, None, refl, ap, sym, subst}
use Rattle.std.proofs.Common.{◌∙◌}
use Rattle.std.proofs.Common.{arith}
use Rattle.std.specs.Prelude.{◌||◌}
use Rattle.std.specs.Option.{option_and_then, option_eq}
use Rattle.model.specs.declared.call.Phase.{Phase}
use Rattle.model.specs.declared.call.Phase.TheVariants.{Start, Try, Decide, Place, Unlock, Leave}
use Rattle.model.specs.declared.call.WaitList.{WaitList}
use Rattle.model.specs.declared.event.Event.{Event}
use Rattle.model.specs.declared.notification.NotificationWait.{NotificationWait}
use Rattle.model.specs.declared.notification.NotifyAction.{NotifyAction}
use Rattle.model.specs.declared.value.Value.{Value}
use Rattle.model.specs.declared.op.Op.TheVariants.{AwaitNotification, Notify}
use Rattle.model.specs.Application.{Application}
use Rattle.model.specs.State.{State, Status, Task, Progress, Ready, WaitingForNotification, waits_for_notification, task_at}
use Rattle.model.specs.State.{status_at}
use Rattle.model.specs.State.{call_at, notification_at, progress_at}
use Rattle.model.specs.Ops.{answer}
use Rattle.model.specs.Switching.{is_ready, make_ready, preempt}
use Rattle.model.specs.Suspension.{can_resume}
use Rattle.model.specs.Waiting.{set_deadline, wait_key}
use Rattle.model.specs.Notifications.{await_notification, begin_notification_wait, check_notification, end_notification_wait}
use Rattle.model.specs.Notifications.{call_notify, is_there, lacks_notify_value, notify, notify_answer, wait_for_notification}
use Rattle.model.specs.Notifications.{wake_notified}
use Rattle.model.specs.Invariant.{wait_of}
use Rattle.model.specs.Step.{act, act_by_value, notify_by_number}
use Rattle.model.proofs.Statuses.{ready_free}
use Rattle.soundness.proofs.Notified.{awaiting_free, awaiting_not_ready, by_awaiting}
use Rattle.lists.specs.Lists.{place_of}
use Rattle.sched.specs.StandsFor as sched
use Rattle.sched.specs.Schedule as schedule
use Rattle.sched.specs.Schedule.{Schedule, IsCalm}
use Rattle.sched.proofs.Standing as on_sched
use Rattle.clock.specs.StandsFor as clock
use Rattle.clock.specs.Timeline.{Timeline, is_asleep}
use Rattle.clock.proofs.Standing as on_clock
use Rattle.objects.specs.Objects.{SameWaits}
use Rattle.objects.proofs.Kept.{same_ready, same_ticket, stands_same}
use Rattle.objects.proofs.Awake.{at_locked_same}
use Rattle.groups.specs.EventGroups.{EventGroups}
use Rattle.groups.specs.StandsFor as groups
use Rattle.groups.proofs.Standing as on_groups
use Rattle.groups.proofs.Kept.{ready_waits_not}
use Rattle.machine.specs.declared.machine.Machine.{Machine}
use Rattle.machine.specs.Logged.{Logged}
use Rattle.machine.specs.StandsFor.{At, AtAny, DoesAny, Moves, Stands, StandsBefore, StandsFor, decider, progress_in}
use Rattle.machine.specs.StandsFor.Stands.{Placed, Placing}
use Rattle.machine.proofs.Acting.{within}
use Rattle.machine.proofs.Either.{any, progress_is}
use Rattle.machine.proofs.Parts.{apart, progress-kept, rest_with_groups, there_if}
use Rattle.machine.proofs.Waking.{progress-ready}
use Rattle.ops.specs.Can.{CanDecide}
use Rattle.ops.proofs.Before.{before_with_groups, priority-kept, ready_beside, stands_there}
use Rattle.ops.proofs.EventBits.{held_then}

-- ---- the task that is notified

-- what the groups see
pub groups_are : (k : Machine) (s : State) → Stands k s → groups.StandsFor k.groups s
groups_are k s (Placed h) = h.rest.groups
groups_are k s (Placing task list b) = b.groups

-- A task that waits for a notification is woken.
module _ (k : Machine) (s : State) (i : ℕ) (waits : waits_for_notification (status_at s i) ≡ true) where
  pub notified_within : i < length s.tasks
  notified_within = there_if waits_for_notification refl s i waits

  pub notified_unsuspended : can_resume (status_at s i) ≡ false
  notified_unsuspended = by_awaiting (λ (u : Status). can_resume u ≡ false) (λ n d. refl) (status_at s i) waits

  free : wait_of (status_at s i) ≡ None
  free = awaiting_free (status_at s i) waits

  unready : is_ready s i ≡ false
  unready = awaiting_not_ready (status_at s i) waits

  pub apart_from_placing : (task : ℕ) (list : WaitList) → StandsBefore task list k s → task ≢ i
  apart_from_placing task list b e =
      let there = stands_there task list k s b in
      let none : None ≡ Some there.0 =
      sym (ap (option_and_then (wait_key list)) (ap (λ (j : ℕ). wait_of (status_at s j)) e ∙ free)) ∙ there.1 in
      absurd (cc)

  pub unready_there : Stands k s → schedule.is_ready k.sched i ≡ false
  unready_there (Placed h) = on_sched.ready_same k.sched s i h.sched ∙ unready
  unready_there (Placing task list b) = ready_beside task list k s b i (apart_from_placing task list b) ∙ unready

  module _ (log : List Event) (v : Schedule) (t : Timeline) (g : EventGroups) where
    pub notified_at : At k log s → sched.StandsFor v (make_ready i s) → clock.StandsFor t (make_ready i s)
        → groups.StandsFor g (make_ready i s) → At (record k { sched = v; clock = t; groups = g }) log (wake_notified i s)
    notified_at h on awake there =
        rw waits (record {
          stands = record {
            sched = on;
            rest = rest_with_groups h.stands.rest awake (omega arith) (progress-ready s i) refl (same_ready i s free) there;
          };
          log = h.log;
        })

    pub notified_before : (task : ℕ) (list : WaitList) → StandsBefore task list k s → log ≡ s.log
        → sched.StandsBefore task v (make_ready i s) → clock.StandsBefore task (call_at s task).deadline t (make_ready i s)
        → groups.StandsFor g (make_ready i s) → AtAny (record k { sched = v; clock = t; groups = g }) log (wake_notified i s)
    notified_before task list b told on awake there =
        let same : SameWaits s (make_ready i s) = same_ready i s free in
        let left = stands_same s (make_ready i s) same k.objects (Some (decider task list s)) b.objects on.table in
        let locked = at_locked_same (Some (decider task list s)) s (make_ready i s) same b.awake in
        let priority = priority-kept s.tasks i (record (task_at s i) { status = Ready s.next_ticket }) refl task in
        rw waits (record {
          stands =
              Placing task list (before_with_groups b on awake left locked there (progress-ready s i) priority
              (omega arith) refl refl refl);
          log = told;
        })

-- A task that doesn't wait for one is left as it is.
module _ (k : Machine) (log : List Event) (s : State) (i : ℕ) (waits : waits_for_notification (status_at s i) ≡ false) where
  pub unnotified_at : At k log s → At k log (wake_notified i s)
  unnotified_at h = rw waits h

  pub unnotified_any : AtAny k log s → AtAny k log (wake_notified i s)
  unnotified_any h = rw waits h

-- ---- a wait begins

module _ (k : Machine) (log : List Event) (s : State) (h : At k log s) (i : ℕ)
    (r : k.sched.current ≡ Some i) (on : schedule.is_ready k.sched i ≡ true) where
  ready : is_ready s i ≡ true
  ready = sym (on_sched.ready_same k.sched s i h.stands.sched) ∙ on

  pub unlisted : place_of k.groups.waiting i ≡ None
  unlisted = on_groups.free k.groups s h.stands.rest.groups i (ready_waits_not s i ready)

  pub unasleep : is_asleep k.clock i ≡ false
  unasleep = apart k s h.stands i on

  pub waits_notified : k.sched.pending ≡ [] → (v : Schedule) (t : Timeline) (g : EventGroups) (deadline : Option ℕ)
      → deadline ≡ (progress_in k.progress i).call.deadline
      → (sched.StandsBefore i k.sched (wait_for_notification i s) → sched.StandsFor v (wait_for_notification i s))
      → (clock.StandsBefore i deadline k.clock (wait_for_notification i s) → clock.StandsFor t (wait_for_notification i s))
      → groups.StandsFor g (wait_for_notification i s)
      → At (record k { sched = v; clock = t; groups = g }) log (wait_for_notification i s)
  unfolding wait_for_notification
  waits_notified calm v t g deadline until blocks sleeps there =
      let until_then : Option ℕ = (call_at s i).deadline in
      let new : State = wait_for_notification i s in
      let u : Task = record (task_at s i) { status = WaitingForNotification s.next_ticket until_then } in
      let same : SameWaits s new =
      same_ticket i (λ ticket. WaitingForNotification ticket until_then) s refl (ready_free (status_at s i) ready) in
      let same_deadline : deadline ≡ until_then = until ∙ ap (λ (p : Progress). p.call.deadline) (h.stands.rest.progress i) in
      let l : i < length s.tasks = within k log s h i r in
      let c =
      sleeps (subst (λ (d : Option ℕ). clock.StandsBefore i d k.clock new) (sym same_deadline)
      (on_clock.stands_waiting_notification k.clock s i h.stands.rest.clock l ready)) in
      record {
        stands = record {
          sched = blocks (on_sched.stands_waiting_notification k.sched s i calm h.stands.sched l ready);
          rest = rest_with_groups h.stands.rest c (omega arith) (progress-kept s.tasks i u refl) refl same there;
        };
        log = h.log;
      }

-- The running task's call holds the scheduler, and has its deadline.
pub record Timed (new : Machine) (log : List Event) (timed : State) (i : ℕ) : Type 0 where
  pub at : At new log timed
  pub within : i < length timed.tasks
  pub runs : new.sched.current ≡ Some i
  pub ready : schedule.is_ready new.sched i ≡ true
  pub calm : new.sched.pending ≡ []

pub timed_from : (k : Machine) (log : List Event) (s : State) → At k log s → (i : ℕ) → CanDecide k i → (v : Schedule)
    → IsCalm k.sched → v ≡ schedule.hold k.sched → (s.call_hold ≡ false → sched.StandsFor v (record s { call_hold = true }))
    → (timed : Machine) (ticks : Option ℕ) → Moves (record k { sched = v }) timed (set_deadline i ticks) → timed.sched ≡ v
    → Timed timed log (set_deadline i ticks (record s { call_hold = true })) i
timed_from k log s h i c v calm held holds timed ticks times kept =
    let due : State = set_deadline i ticks (record s { call_hold = true }) in
    let before : timed.sched ≡ schedule.hold k.sched = kept ∙ held in
    let runs : timed.sched.current ≡ Some i = ap (λ (w : Schedule). w.current) before ∙ c.runs.current in
    let there : At timed log due = times log (record s { call_hold = true }) (held_then k log s h c.depth v holds) in
    record {
      at = there;
      within = within timed log due there i runs;
      runs = runs;
      ready = ap (λ (w : Schedule). schedule.is_ready w i) before ∙ c.runs.ready;
      calm = ap (λ (w : Schedule). w.pending) before ∙ calm c.depth;
    }

-- A call that needs not wait is over, and another waits.
module _ (app : Application) (new : Machine) (log : List Event) (s : State)
    (i : ℕ) (wait : NotificationWait) (ticks : Option ℕ) where
  pub over_at : (is_there wait (notification_at s i) || option_eq eqb ticks (Some 0)) ≡ true
      → At new log (end_notification_wait app i wait s) → At new log (check_notification app i wait ticks s)
  unfolding check_notification
  over_at t h = rw t h

  pub waiting_at : (is_there wait (notification_at s i) || option_eq eqb ticks (Some 0)) ≡ false
      → At new log (begin_notification_wait i ticks s) → At new log (check_notification app i wait ticks s)
  unfolding check_notification
  waiting_at t h = rw t h

-- ---- a task notifies

pub called_notify : (app : Application) (new : Machine) (log : List Event) (s : State) (i j : ℕ) (action : NotifyAction Value)
    (a : NotifyAction ℕ) (n : ℕ) → lacks_notify_value (progress_at s i).answer action ≡ false → a ≡ notify_by_number s i action
    → Some n ≡ notify_answer a (notification_at s j) → At new log (preempt (answer app i (Some n) (notify j a s)))
    → At new log (act_by_value app i (Notify j action) s)
unfolding call_notify
called_notify app new log s i j action a n lacks number told h =
    rw lacks
    (subst (λ (x : NotifyAction ℕ). At new log (preempt (answer app i (notify_answer x (notification_at s j)) (notify j x s))))
    number
    (subst (λ (y : Option ℕ). At new log (preempt (answer app i y (notify j a s)))) told h))

-- ---- the phases of a wait

module _ (app : Application) (old new : Machine) (old_log new_log : Logged) (task : ℕ) (wait : NotificationWait)
    (ticks : Option ℕ) where
  pub notice_in_phase : (phase : Phase) → (progress_in old.progress task).call.phase ≡ phase
      → DoesAny 2 old old_log new new_log (await_notification app task wait ticks phase)
      → DoesAny 2 old old_log new new_log (act app task (AwaitNotification wait ticks))
  notice_in_phase phase e d = record {
    at = λ s h.
        let now : (call_at s task).phase ≡ phase =
        ap (λ (p : Progress). p.call.phase) (sym (progress_is old s h.stands task)) ∙ e in
        subst (λ (p : Phase). AtAny new new_log.told (await_notification app task wait ticks p s)) (sym now) (d.at s h);
    few = d.few;
    before = d.before;
  }

  notices_at_last : (phase : Phase) → phase ≢ Start → phase ≢ Leave
      → DoesAny 2 old old_log new new_log (end_notification_wait app task wait)
      → DoesAny 2 old old_log new new_log (await_notification app task wait ticks phase)
  notices_at_last Start off on d = absurd (off refl)
  notices_at_last Try off on d = d
  notices_at_last Decide off on d = d
  notices_at_last Place off on d = d
  notices_at_last Unlock off on d = d
  notices_at_last Leave off on d = absurd (on refl)

  -- past Start and Leave
  pub notice_at_last : (phase : Phase) → (progress_in old.progress task).call.phase ≡ phase → phase ≢ Start → phase ≢ Leave
      → DoesAny 2 old old_log new new_log (end_notification_wait app task wait)
      → DoesAny 2 old old_log new new_log (act app task (AwaitNotification wait ticks))
  notice_at_last phase e off on d = notice_in_phase phase e (notices_at_last phase off on d)
