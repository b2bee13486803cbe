-- Whether a task is Ended, as the lists of the kernel have it.
use Rattle.std.proofs.Common.{◌≡◌, ◌≢◌, ◌&&◌, ℕ, Bool, true, false, not, eqb, ltb, List, [], ◌∷◌, Option, Some, None, refl, ap, sym}
use Rattle.std.proofs.Common.{subst, ◌∙◌, append-nil}
use Rattle.std.specs.Option.{is_some, option_and_then}
use Rattle.model.specs.declared.call.WaitList.{WaitList}
use Rattle.model.specs.Application.{Application}
use Rattle.model.specs.State.{State, Status, Ready, Awake, Waiting, Asleep, WaitingForBits, WaitingForNotification, Suspended}
use Rattle.model.specs.State.{Ended, ticket_if_ready}
use Rattle.model.specs.State.{wake_time_of, status_at, call_at}
use Rattle.model.specs.Order.{Key}
use Rattle.model.specs.Switching.{is_ready}
use Rattle.model.specs.Waiting.{wait_key}
use Rattle.model.specs.Suspension.{can_resume}
use Rattle.model.specs.Step.{is_ended}
use Rattle.model.specs.Run.{are_all_ended}
use Rattle.model.specs.Invariant.{wait_of}
use Rattle.model.proofs.Sorting.{by_test}
use Rattle.model.proofs.Lists.{eqb-refl, eqb-same}
use Rattle.lists.specs.Lists.{has_node, insert_sorted}
use Rattle.lists.proofs.Entries.{has_node-other, insert_sorted-after, insert_sorted-before}
use Rattle.sched.specs.Schedule as schedule
use Rattle.sched.proofs.LinedUp.{ready_if_listed}
use Rattle.sched.proofs.Standing as on_sched
use Rattle.clock.specs.StandsFor as clock
use Rattle.clock.specs.StandsFor.{tasks_at}
use Rattle.clock.specs.Timeline.{Timeline, is_asleep}
use Rattle.clock.proofs.Standing as on_clock
use Rattle.clock.proofs.Sleepers as on_sleepers
use Rattle.objects.specs.WaitersStand.{Decider}
use Rattle.objects.specs.Objects as objects
use Rattle.groups.specs.StandsFor.{event_wait}
use Rattle.machine.specs.declared.machine.Machine.{Machine}
use Rattle.machine.specs.StandsFor.{StandsFor, StandsBefore, Stands, decider}
use Rattle.machine.specs.StandsFor.Stands.{Placed, Placing}
use Rattle.ops.proofs.Before.{ready_beside, stands_there}
use Rattle.kernel.specs.Left.{IsAnyLeft}
use Rattle.kernel.proofs.Ending.{not_passed}
use Rattle.kernel.proofs.Ended.{not_all_but, or_false_left}
use Rattle.std.proofs.lemmas.Bool.{ltb-true, ltb-false}

-- ---- by the status

ready_on : (u : Status) → is_some (ticket_if_ready u) ≡ true → is_ended u ≡ false
ready_on (Ready n) t = refl
ready_on (Awake w) t = refl
ready_on (Waiting w) t = refl
ready_on (Asleep w n) t = refl
ready_on (WaitingForBits g n d) t = refl
ready_on (WaitingForNotification n d) t = refl
ready_on Suspended t = refl
ready_on Ended t = absurd (cc)

asleep_on : (u : Status) → is_some (wake_time_of u) ≡ true → is_ended u ≡ false
asleep_on (Ready n) t = refl
asleep_on (Awake w) t = refl
asleep_on (Waiting w) t = refl
asleep_on (Asleep w n) t = refl
asleep_on (WaitingForBits g n d) t = refl
asleep_on (WaitingForNotification n d) t = refl
asleep_on Suspended t = refl
asleep_on Ended t = absurd (cc)

waits_on : (u : Status) → is_some (wait_of u) ≡ true → is_ended u ≡ false
waits_on (Ready n) t = refl
waits_on (Awake w) t = refl
waits_on (Waiting w) t = refl
waits_on (Asleep w n) t = refl
waits_on (WaitingForBits g n d) t = refl
waits_on (WaitingForNotification n d) t = refl
waits_on Suspended t = refl
waits_on Ended t = absurd (cc)

pub bits_on : (u : Status) → is_some (event_wait u) ≡ true → is_ended u ≡ false
bits_on (Ready n) t = refl
bits_on (Awake w) t = refl
bits_on (Waiting w) t = refl
bits_on (Asleep w n) t = refl
bits_on (WaitingForBits g n d) t = refl
bits_on (WaitingForNotification n d) t = refl
bits_on Suspended t = refl
bits_on Ended t = absurd (cc)

-- who is in no list is Suspended or Ended
in_none : (u : Status) → is_some (ticket_if_ready u) ≡ false → is_some (wake_time_of u) ≡ false
    → is_some (wait_of u) ≡ false → is_some (event_wait u) ≡ false → not (can_resume u) ≡ is_ended u
in_none (Ready n) r a w b = absurd (cc)
in_none (Awake x) r a w b = absurd (cc)
in_none (Waiting x) r a w b = absurd (cc)
in_none (Asleep x n) r a w b = absurd (cc)
in_none (WaitingForBits g n d) r a w b = absurd (cc)
in_none (WaitingForNotification n d) r a w b = absurd (cc)
in_none Suspended r a w b = refl
in_none Ended r a w b = refl

some_wait : (list : WaitList) (u : Status) (m : Key)
    → option_and_then (wait_key list) (wait_of u) ≡ Some m → is_some (wait_of u) ≡ true
some_wait list u m e = by_wait (wait_of u) e where
  by_wait : (o : Option _) → option_and_then (wait_key list) o ≡ Some m → is_some o ≡ true
  by_wait None f = absurd (cc)
  by_wait (Some w) f = refl

-- ---- who sleeps, while another task has still to be placed

beside_inserted : (i j w : ℕ) (xs : List (ℕ × ℕ)) → i ≢ j → has_node j (insert_sorted (i, w) xs) ≡ has_node j xs
beside_inserted i j w [] ne = has_node-other j (i, w) [] ne
beside_inserted i j w (x ∷ xs) ne = by_test (ltb w x.1)
    (λ t. ap (has_node j) (insert_sorted-before i w x xs (ltb-true w x.1 t)) ∙ has_node-other j (i, w) (x ∷ xs) ne)
    (λ t. ap (has_node j) (insert_sorted-after i w x xs (ltb-false w x.1 t)) ∙ by_test (eqb x.0 j)
    (λ u. rw u refl)
    (λ u. rw (u, beside_inserted i j w xs ne) refl))

module _ (task : ℕ) (list : WaitList) (k : Machine) (s : State) (b : StandsBefore task list k s) where
  asleep_beside : (i : ℕ) → task ≢ i → is_asleep k.clock i ≡ is_some (wake_time_of (status_at s i))
  asleep_beside i ne = by_deadline (call_at s task).deadline b.clock where
    by_deadline : (deadline : Option ℕ) → clock.StandsBefore task deadline k.clock s
        → is_asleep k.clock i ≡ is_some (wake_time_of (status_at s i))
    by_deadline None c =
        on_clock.asleep_same k.clock s i (record {
          now = c.now;
          age = c.age;
          held = c.held;
          sorted = c.sorted;
          once = c.once;
          delayed = λ m. sym (append-nil (tasks_at m k.clock.delayed_list)) ∙ c.delayed m;
          table = c.table;
        })
    by_deadline (Some w) c =
        let new : Timeline = record k.clock { delayed_list = insert_sorted (task, w) k.clock.delayed_list } in
        sym (beside_inserted task i w k.clock.delayed_list ne)
        ∙ on_clock.asleep_same new s i (on_sleepers.stands_placed k.clock new s task w refl refl refl refl c.awake c)

-- ---- whether or not a task is still to be placed

-- A task is in the lists in which it is by its status; or it waits, and is Ready until it is placed.
data Seen (k : Machine) (s : State) (i : ℕ) (q : Bool) : Type 0 where
  Listed : schedule.is_ready k.sched i ≡ is_ready s i → is_asleep k.clock i ≡ is_some (wake_time_of (status_at s i))
      → q ≡ is_some (wait_of (status_at s i)) → Seen k s i q
  ToPlace : schedule.is_ready k.sched i ≡ true → is_some (wait_of (status_at s i)) ≡ true → Seen k s i q

module _ (k : Machine) (s : State) (i : ℕ) (h : Stands k s) where
  -- at least: whether it waits at an object is left open
  seen_by_lists : (P : Type 0)
      → (schedule.is_ready k.sched i ≡ is_ready s i → is_asleep k.clock i ≡ is_some (wake_time_of (status_at s i)) → P)
      → (schedule.is_ready k.sched i ≡ true → is_some (wait_of (status_at s i)) ≡ true → P) → P
  seen_by_lists P listed to_place = by_stands h where
    by_stands : Stands k s → P
    by_stands (Placed p) = listed (on_sched.ready_same k.sched s i p.sched) (on_clock.asleep_same k.clock s i p.rest.clock)
    by_stands (Placing task list b) = by_test (eqb i task)
        (λ t.
        let same : i ≡ task = eqb-same i task t in
        let waits = stands_there task list k s b in
        to_place (subst (λ j. schedule.is_ready k.sched j ≡ true) (sym same) (ready_if_listed task k.sched b.sched.still))
        (subst (λ j. is_some (wait_of (status_at s j)) ≡ true) (sym same) (some_wait list (status_at s task) waits.0 waits.1)))
        (λ t.
        let apart : task ≢ i = (λ e. let u : eqb i task ≡ true = rw e (eqb-refl i) in absurd (cc)) in
        listed (ready_beside task list k s b i apart) (asleep_beside task list k s b i apart))

  pub on_if_ready : schedule.is_ready k.sched i ≡ true → is_ended (status_at s i) ≡ false
  on_if_ready t =
      seen_by_lists (is_ended (status_at s i) ≡ false)
      (λ r a. ready_on (status_at s i) (sym r ∙ t)) (λ r w. waits_on (status_at s i) w)

  pub on_if_asleep : is_asleep k.clock i ≡ true → is_ended (status_at s i) ≡ false
  on_if_asleep t =
      seen_by_lists (is_ended (status_at s i) ≡ false)
      (λ r a. asleep_on (status_at s i) (sym a ∙ t)) (λ r w. waits_on (status_at s i) w)

module _ (k : Machine) (s : State) (i : ℕ) (q : Bool) (h : Stands k s)
    (placed : (t : State) → objects.StandsFor k.objects None t → q ≡ is_some (wait_of (status_at t i)))
    (placing : (t : State) (d : Decider) → objects.StandsFor k.objects (Some d) t
    → q ≡ not (eqb i d.task) && is_some (wait_of (status_at t i))) where
  seen : Seen k s i q
  seen = by_stands h where
    by_stands : Stands k s → Seen k s i q
    by_stands (Placed p) =
        Listed (on_sched.ready_same k.sched s i p.sched) (on_clock.asleep_same k.clock s i p.rest.clock) (placed s p.rest.objects)
    by_stands (Placing task list b) = by_test (eqb i task)
        (λ t.
        let same : i ≡ task = eqb-same i task t in
        let waits = stands_there task list k s b in
        ToPlace (subst (λ j. schedule.is_ready k.sched j ≡ true) (sym same) (ready_if_listed task k.sched b.sched.still))
        (subst (λ j. is_some (wait_of (status_at s j)) ≡ true) (sym same) (some_wait list (status_at s task) waits.0 waits.1)))
        (λ t.
        let apart : task ≢ i = (λ e. let u : eqb i task ≡ true = rw e (eqb-refl i) in absurd (cc)) in
        Listed (ready_beside task list k s b i apart) (asleep_beside task list k s b i apart)
        (placing s (decider task list s) b.objects ∙ rw t refl))

  pub on_if_waiting : q ≡ true → is_ended (status_at s i) ≡ false
  on_if_waiting t = by_seen seen where
    by_seen : Seen k s i q → is_ended (status_at s i) ≡ false
    by_seen (Listed r a w) = waits_on (status_at s i) (sym w ∙ t)
    by_seen (ToPlace r w) = waits_on (status_at s i) w

  suspended_is : schedule.is_suspended k.sched i ≡ can_resume (status_at s i)
  suspended_is = by_stands h where
    by_stands : Stands k s → schedule.is_suspended k.sched i ≡ can_resume (status_at s i)
    by_stands (Placed p) = p.sched.suspended i
    by_stands (Placing task list b) = b.sched.suspended i

  pub ended_if_in_none : schedule.is_ready k.sched i ≡ false → is_asleep k.clock i ≡ false → q ≡ false
      → is_some (event_wait (status_at s i)) ≡ false → not (schedule.is_suspended k.sched i) ≡ is_ended (status_at s i)
  ended_if_in_none ready asleep waiting bits = ap not suspended_is ∙ by_seen seen where
    by_seen : Seen k s i q → not (can_resume (status_at s i)) ≡ is_ended (status_at s i)
    by_seen (Listed r a w) = in_none (status_at s i) (sym r ∙ ready) (sym a ∙ asleep) (sym w ∙ waiting) bits
    by_seen (ToPlace r w) = absurd (cc)

-- ---- somebody is left

pub any_left : (app : Application) (k : Machine) (s : State) → StandsFor k s → IsAnyLeft app k → are_all_ended app s ≡ false
any_left app k s h left = not_passed app s (not_all_but app.tasks s.tasks left.0 left.1 (by_test (schedule.is_ready k.sched left.0)
    (λ t. ready_on (status_at s left.0) (sym (on_sched.ready_same k.sched s left.0 h.sched) ∙ t))
    (λ t.
    asleep_on (status_at s left.0) (sym (on_clock.asleep_same k.clock s left.0 h.rest.clock)
    ∙ or_false_left (schedule.is_ready k.sched left.0) (is_asleep k.clock left.0) left.2 t))))
