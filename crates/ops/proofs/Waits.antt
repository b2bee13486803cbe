-- Calls that wait: what a wake and each phase make of the states that the kernel represents.
use Rattle.std.proofs.Common.{◌≡◌, ◌≢◌, ◌<◌, ℕ, Bool, true, false, List, [], ◌∷◌, length, Option, Some, None, refl, ap, sym, subst}
use Rattle.std.proofs.Common.{◌∙◌}
use Rattle.std.proofs.Common.{arith}
use Rattle.std.specs.Prelude.{if◌then◌else◌}
use Rattle.std.specs.List.{AllByRecursion}
use Rattle.std.specs.Option.{is_some, option_map, option_and_then}
use Rattle.model.specs.declared.call.Phase.TheVariants.{Decide, Try}
use Rattle.model.specs.declared.call.WaitList.{WaitList}
use Rattle.model.specs.declared.op.Access.{Access}
use Rattle.model.specs.declared.event.Event.{Event}
use Rattle.model.specs.Application.{Application}
use Rattle.model.specs.State.{State, Task, Progress, Object, Status, Wait, Ready, Awake, Waiting, Asleep, WaitingForBits}
use Rattle.model.specs.State.{WaitingForNotification, Suspended}
use Rattle.model.specs.State.{Ended, ticket_if_ready, wait_if_waiting, wait_if_awake, task_at, status_at, call_at, with_object}
use Rattle.model.specs.State.{go_on, for_one}
use Rattle.model.specs.Order.{Key, Entry, first, task_of}
use Rattle.model.specs.Switching.{is_ready, make_ready, preempt, choose}
use Rattle.model.specs.Ops.{answer}
use Rattle.model.specs.Waiting.{wait_key, waiters, awake_status, awaken, is_locked, wake_one, wake_best, is_expired, end_hold}
use Rattle.model.specs.Suspension.{can_resume}
use Rattle.model.specs.Objects.{possible, answer_to, fulfil, attempt}
use Rattle.model.specs.Mutexes.{after_timeout}
use Rattle.model.specs.Calls.{try, do_now, leave_call}
use Rattle.model.specs.Invariant.{IsTable, wait_of}
use Rattle.model.proofs.Sorting.{by_test}
use Rattle.model.proofs.Lists.{HasKey, list_has}
use Rattle.sched.specs.StandsFor as sched
use Rattle.sched.specs.Schedule as schedule
use Rattle.sched.specs.Schedule.{Schedule}
use Rattle.sched.proofs.Standing as on_sched
use Rattle.clock.specs.StandsFor as clock
use Rattle.clock.specs.Timeline.{Timeline}
use Rattle.clock.proofs.Sleepers as on_sleepers
use Rattle.clock.proofs.Sleepers.{SleepsAlike}
use Rattle.objects.specs.WaitersStand.{AtLocked}
use Rattle.objects.specs.Objects as objects
use Rattle.objects.specs.Objects.{Objects}
use Rattle.objects.proofs.Awake.{at_locked-stored, at_locked-wake_best}
use Rattle.groups.specs.StandsFor.{SameEventWaits}
use Rattle.groups.proofs.Kept as bits_kept
use Rattle.groups.proofs.Elsewhere as bits_elsewhere
use Rattle.machine.specs.declared.machine.Machine.{Machine}
use Rattle.machine.specs.StandsFor.{StandsFor, At, progress_in}
use Rattle.machine.specs.Can.{Runs}
use Rattle.machine.proofs.Parts.{clock-same, progress-kept, rest_again, rest_with_objects, sched-same}
use Rattle.sched.proofs.LinedUp.{ready_woken}
use Rattle.machine.proofs.Waking.{progress-ready}

-- ---- a wake

-- who would be woken, if anyone
abbrev pub best : State → WaitList → Option ℕ
best s list = task_of (first (waiters s list))

-- a task that waits in a list
pub record WaitsThere (s : State) (list : WaitList) (i : ℕ) : Type 0 where
  pub within : i < length s.tasks
  pub unready : is_ready s i ≡ false
  pub key : Key
  pub there : option_and_then (wait_key list) (wait_if_waiting (status_at s i)) ≡ Some key

waits_key : WaitList → Task → Option Key
waits_key list t = option_and_then (wait_key list) (wait_if_waiting t.status)

-- a waiting task isn't Ready
unready : (u : Status) → is_some (wait_of u) ≡ true → is_some (ticket_if_ready u) ≡ false
unready (Ready n) e = absurd (cc)
unready (Awake w) e = refl
unready (Waiting w) e = refl
unready (Asleep w n) e = refl
unready (WaitingForBits g m d) e = refl
unready (WaitingForNotification m d) e = refl
unready Suspended e = refl
unready Ended e = refl

some_wait : (list : WaitList) (o : Option Wait) (k : Key) → option_and_then (wait_key list) o ≡ Some k → is_some o ≡ true
some_wait list None k e = absurd (cc)
some_wait list (Some w) k e = refl

waiting_waits : (u : Status) → is_some (wait_if_waiting u) ≡ true → is_some (wait_of u) ≡ true
waiting_waits (Ready n) e = absurd (cc)
waiting_waits (Awake w) e = refl
waiting_waits (Waiting w) e = refl
waiting_waits (Asleep w n) e = absurd (cc)
waiting_waits (WaitingForBits g m d) e = absurd (cc)
waiting_waits (WaitingForNotification m d) e = absurd (cc)
waiting_waits Suspended e = absurd (cc)
waiting_waits Ended e = absurd (cc)

awake_waits : (u : Status) → is_some (wait_if_awake u) ≡ true → is_some (wait_of u) ≡ true
awake_waits (Ready n) e = absurd (cc)
awake_waits (Awake w) e = refl
awake_waits (Waiting w) e = refl
awake_waits (Asleep w n) e = absurd (cc)
awake_waits (WaitingForBits g m d) e = absurd (cc)
awake_waits (WaitingForNotification m d) e = absurd (cc)
awake_waits Suspended e = absurd (cc)
awake_waits Ended e = absurd (cc)

pub unready_waiting : (list : WaitList) (u : Status) (k : Key)
    → option_and_then (wait_key list) (wait_if_waiting u) ≡ Some k → is_some (ticket_if_ready u) ≡ false
unready_waiting list u k e = unready u (waiting_waits u (some_wait list (wait_if_waiting u) k e))

pub unready_awake : (list : WaitList) (u : Status) (k : Key)
    → option_and_then (wait_key list) (wait_if_awake u) ≡ Some k → is_some (ticket_if_ready u) ≡ false
unready_awake list u k e = unready u (awake_waits u (some_wait list (wait_if_awake u) k e))

pub best_waits : (s : State) (list : WaitList) (i : ℕ) → Some i ≡ best s list → WaitsThere s list i
unfolding waits_key
best_waits s list i is = by_entries (waiters s list) (list_has (waits_key list) s.tasks) is where
  by_entries : (es : List Entry) → AllByRecursion (HasKey (waits_key list) s.tasks) es
      → Some i ≡ task_of (first es) → WaitsThere s list i
  by_entries [] has e = absurd (cc)
  by_entries (x ∷ xs) has e =
      let same : i ≡ x.task = cc in
      record {
        within = rw same has.0.within;
        unready = rw same (unready_waiting list (status_at s x.task) x.key has.0.key);
        key = x.key;
        there = rw same has.0.key;
      }

waiting_unsuspended : (u : Status) → is_some (wait_of u) ≡ true → can_resume u ≡ false
waiting_unsuspended (Ready n) e = refl
waiting_unsuspended (Awake w) e = refl
waiting_unsuspended (Waiting w) e = refl
waiting_unsuspended (Asleep w n) e = refl
waiting_unsuspended (WaitingForBits g m d) e = refl
waiting_unsuspended (WaitingForNotification m d) e = refl
waiting_unsuspended Suspended e = absurd (cc)
waiting_unsuspended Ended e = refl

-- a task that waits there isn't suspended
pub there_unsuspended : (s : State) (list : WaitList) (i : ℕ) → WaitsThere s list i → can_resume (status_at s i) ≡ false
there_unsuspended s list i w =
    waiting_unsuspended (status_at s i)
    (waiting_waits (status_at s i) (some_wait list (wait_if_waiting (status_at s i)) w.key w.there))

-- nor is one that was woken there
pub awake_unsuspended : (list : WaitList) (u : Status) (k : Key)
    → option_and_then (wait_key list) (wait_if_awake u) ≡ Some k → can_resume u ≡ false
awake_unsuspended list u k e = waiting_unsuspended u (awake_waits u (some_wait list (wait_if_awake u) k e))

-- the result if some task becomes Ready
open_then : (b : Bool) (o : Option ℕ) (i : ℕ) → Some i ≡ (if b then None else o) → (b ≡ false) × (Some i ≡ o)
open_then true o i e = absurd (cc)
open_then false o i e = (refl, e)

-- some task that waits there becomes Ready
module _ (s : State) (list : WaitList) (i : ℕ) (is : Some i ≡ (if is_locked s.locked list then None else best s list)) where
  pub opened : is_locked s.locked list ≡ false
  opened = (open_then (is_locked s.locked list) (best s list) i is).0

  pub waits_there : WaitsThere s list i
  waits_there = best_waits s list i (open_then (is_locked s.locked list) (best s list) i is).1

  pub wakes_it : wake_best list s ≡ make_ready i s
  unfolding wake_best
  wakes_it =
      subst (λ (o : Option ℕ). for_one (λ task. wake_one task list) o s ≡ make_ready i s)
      (open_then (is_locked s.locked list) (best s list) i is).1 (rw opened refl)

module _ (k : Machine) (s : State) (h : StandsFor k s) (list : WaitList) (i : ℕ)
    (is : Some i ≡ (if is_locked s.locked list then None else best s list)) where
  pub woken_free : schedule.is_ready k.sched i ≡ false
  woken_free = on_sched.ready_same k.sched s i h.sched ∙ (waits_there s list i is).unready

  pub woken_at : (log : List Event) → log ≡ s.log → (v : Schedule) (t : Timeline) (q : Objects)
      → (i < length s.tasks → sched.StandsFor v (make_ready i s))
      → (i < length s.tasks → clock.StandsFor t (make_ready i s)) → objects.StandsFor q None (wake_best list s)
      → At (record k { sched = v; clock = t; objects = q }) log (wake_best list s)
  woken_at log same v t q on awake left =
      let l = (waits_there s list i is).within in
      let one = wakes_it s list i is in
      let there = subst (objects.StandsFor q None) one left in
      let locked = subst (AtLocked None) one (at_locked-wake_best None list s h.rest.awake) in
      let bits = subst (SameEventWaits s) one (bits_elsewhere.same_wake_best list s) in
      subst (At (record k { sched = v; clock = t; objects = q }) log) (sym one) (record {
        stands = record {
          sched = on l;
          rest = rest_with_objects h.rest (awake l) (omega arith) (progress-ready s i) refl there locked bits;
        };
        log = same;
      })

-- nobody becomes Ready: nobody waits there, or the one is Awake until the unlock

none_open : (o : Option ℕ) (b : Bool) → b ≡ false → None ≡ (if b then None else o) → o ≡ None
none_open o b t e = sym (rw t at e)

-- the result of the wake then
pub data Unwoken (s : State) (list : WaitList) : Type 0 where
  Nobody : wake_best list s ≡ s → Unwoken s list
  Counted : (i : ℕ) → i < length s.tasks → wake_best list s ≡ awaken i s → Unwoken s list

pub unwoken : (s : State) (list : WaitList) → None ≡ (if is_locked s.locked list then None else best s list) → Unwoken s list
unfolding wake_best
unwoken s list is = by_best (best s list) refl where
  wakes : (o : Option ℕ) → best s list ≡ o → wake_best list s ≡ for_one (λ task. wake_one task list) o s
  wakes o e = ap (λ (x : Option ℕ). for_one (λ task. wake_one task list) x s) e

  by_best : (o : Option ℕ) → best s list ≡ o → Unwoken s list
  by_best None e = Nobody (wakes None e)
  by_best (Some i) e = by_test (is_locked s.locked list)
      (λ t. Counted i (best_waits s list i (sym e)).within (wakes (Some i) e ∙ rw t refl))
      (λ t. let none = sym e ∙ none_open (best s list) (is_locked s.locked list) t is in absurd (cc))

pub awake_unready : (u : Status) → ticket_if_ready (awake_status u) ≡ ticket_if_ready u
awake_unready (Ready n) = refl
awake_unready (Awake w) = refl
awake_unready (Waiting w) = refl
awake_unready (Asleep w n) = refl
awake_unready (WaitingForBits g m d) = refl
awake_unready (WaitingForNotification m d) = refl
awake_unready Suspended = refl
awake_unready Ended = refl

-- whether a task is suspended stays
pub awake_resumes : (u : Status) → can_resume (awake_status u) ≡ can_resume u
awake_resumes (Ready n) = refl
awake_resumes (Awake w) = refl
awake_resumes (Waiting w) = refl
awake_resumes (Asleep w n) = refl
awake_resumes (WaitingForBits g m d) = refl
awake_resumes (WaitingForNotification m d) = refl
awake_resumes Suspended = refl
awake_resumes Ended = refl

pub awake_alike : (u : Status) → SleepsAlike (awake_status u) u
awake_alike (Ready n) = record { key = refl; wake_time = refl }
awake_alike (Awake w) = record { key = refl; wake_time = refl }
awake_alike (Waiting w) = record { key = refl; wake_time = refl }
awake_alike (Asleep w n) = record { key = refl; wake_time = refl }
awake_alike (WaitingForBits g m d) = record { key = refl; wake_time = refl }
awake_alike (WaitingForNotification m d) = record { key = refl; wake_time = refl }
awake_alike Suspended = record { key = refl; wake_time = refl }
awake_alike Ended = record { key = refl; wake_time = refl }

module _ (k : Machine) (log : List Event) (s : State) (h : At k log s) (list : WaitList)
    (is : None ≡ (if is_locked s.locked list then None else best s list)) (q : Objects)
    (left : objects.StandsFor q None (wake_best list s)) where
  awakened_at : (i : ℕ) → i < length s.tasks → objects.StandsFor q None (awaken i s) → AtLocked None (awaken i s)
      → SameEventWaits s (awaken i s) → At (record k { objects = q }) log (awaken i s)
  awakened_at i l there locked bits =
      let t : Task = record (task_at s i) { status = awake_status (status_at s i) } in
      let table : IsTable (awaken i s) = there.waiters.table in
      let c =
      on_sleepers.stands_kept k.clock s (awaken i s) i t h.stands.rest.clock l refl refl refl (awake_alike (status_at s i)) table in
      record {
        stands = record {
          sched =
              on_sched.stands_kept k.sched s (awaken i s) i t h.stands.sched l refl refl refl
              (ap (λ (o : Option ℕ). option_map (λ n. record { priority = (task_at s i).priority; ticket = n }) o)
              (awake_unready (status_at s i)))
              refl refl table (awake_resumes (status_at s i));
          rest = rest_with_objects h.stands.rest c (omega arith) (progress-kept s.tasks i t refl) refl there locked bits;
        };
        log = h.log;
      }

  pub unwoken_at : At (record k { objects = q }) log (wake_best list s)
  unwoken_at = by_case (unwoken s list is) where
    by_case : Unwoken s list → At (record k { objects = q }) log (wake_best list s)
    by_case (Nobody one) = subst (At (record k { objects = q }) log) (sym one) (record {
      stands =
          record {
            sched = h.stands.sched;
            rest = rest_again h.stands.rest h.stands.rest.clock (subst (objects.StandsFor q None) one left) h.stands.rest.groups;
          };
      log = h.log;
    })
    by_case (Counted i l one) =
        subst (At (record k { objects = q }) log) (sym one) (awakened_at i l (subst (objects.StandsFor q None) one left)
        (subst (AtLocked None) one (at_locked-wake_best None list s h.stands.rest.awake))
        (subst (SameEventWaits s) one (bits_elsewhere.same_wake_best list s)))

-- one task more is Ready, and the running one is as before
pub still_runs : (k new : Machine) (i j : ℕ) → Runs k j → schedule.is_ready k.sched i ≡ false
    → new.sched ≡ schedule.wake i k.sched → new.sched.current ≡ k.sched.current → new.progress ≡ k.progress → Runs new j
still_runs k new i j r off on current same =
    let apart : j ≢ i =
    (λ e. let f : schedule.is_ready k.sched i ≡ true = subst (λ (n : ℕ). schedule.is_ready k.sched n ≡ true) e r.ready in
    absurd (cc)) in
    record {
      current = current ∙ r.current;
      ready = ap (λ (v : Schedule). schedule.is_ready v j) on ∙ ready_woken k.sched i j apart ∙ r.ready;
      op_index = subst (λ (ps : List Progress). (progress_in ps j).op_index < 256) (sym same) r.op_index;
    }

-- ---- a call is done

-- an object changes
pub stored_at : (k : Machine) (log : List Event) (s : State) → At k log s → (o : ℕ) (x : Object) (q : Objects)
    → objects.StandsFor q None (with_object o x s) → At (record k { objects = q }) log (with_object o x s)
stored_at k log s h o x q there =
    let new : State = with_object o x s in
    let table : IsTable new = there.waiters.table in
    let c = clock-same k.clock s new h.stands.rest.clock refl refl refl table in
    record {
      stands = record {
        sched = sched-same h.stands.sched table refl refl refl;
        rest =
            rest_with_objects h.stands.rest c (omega arith) (λ _. refl) refl there
            (at_locked-stored None o x s h.stands.rest.awake) (bits_kept.same_object o x s);
      };
      log = h.log;
    }

-- a try
module _ (app : Application) (new : Machine) (log : List Event) (s : State) (i o : ℕ) (a : Access ℕ) where
  pub tried : possible s o a ≡ true → At new log (preempt (answer app i (answer_to s o a) (fulfil (Some i) o a s)))
      → At new log (try app i o a s)
  unfolding try
  tried t h = rw t h

  module _ (not : possible s o a ≡ false) where
    pub tried_late : is_expired s i ≡ true
        → At new log (answer app i (answer_to s o a) (after_timeout i o s)) → At new log (try app i o a s)
    unfolding try
    tried_late t h = rw (not, t) h

    pub tried_on : is_expired s i ≡ false → At new log (go_on i Decide s) → At new log (try app i o a s)
    unfolding try
    tried_on t h = rw (not, t) h

  -- a call that doesn't wait
  pub did : At new log (preempt (answer app i (answer_to s o a) (attempt (Some i) o a s))) → At new log (do_now app i o a s)
  unfolding do_now
  did h = h

-- the hold ends
pub left_after : (new : Machine) (log : List Event) (s : State) (i : ℕ) → (call_at s i).waits ≡ true
    → At new log (choose (end_hold i Try s)) → At new log (leave_call i s)
unfolding leave_call
left_after new log s i t h = rw t h

pub left_before : (new : Machine) (log : List Event) (s : State) (i : ℕ) → (call_at s i).waits ≡ false
    → At new log (preempt (end_hold i Try s)) → At new log (leave_call i s)
unfolding leave_call
left_before new log s i t h = rw t h
