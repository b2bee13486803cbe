-- A queue is unlocked, and the Awake tasks become Ready.
use Rattle.std.proofs.Common.{◌≡◌, ◌≢◌, ℕ, true, false, List, [], ◌∷◌, ◌++◌, Option, Some, None, IsSome, refl, ap, sym, subst, ◌∙◌}
use Rattle.std.proofs.Common.{arith}
use Rattle.std.specs.List.{AllByRecursion}
use Rattle.std.specs.Option.{option_and_then}
use Rattle.model.specs.declared.call.WaitList.{WaitList}
use Rattle.model.specs.declared.call.WaitList.TheVariants.{ToReceive, ToSend}
use Rattle.model.specs.declared.event.Event.{Event}
use Rattle.model.specs.State.{State, Task, Status, Ready, Awake, Waiting, Asleep, WaitingForBits, WaitingForNotification, Suspended}
use Rattle.model.specs.State.{Ended, wait_if_awake}
use Rattle.model.specs.State.{status_at, for_one, for_each}
use Rattle.model.specs.Order.{Key, Entry, tasks_of}
use Rattle.model.specs.Switching.{is_ready, make_ready}
use Rattle.model.specs.Waiting.{awakened, wait_key, unlock, unlock_object}
use Rattle.model.specs.Invariant.{IsTable}
use Rattle.model.proofs.Lists.{HasKey, list_has}
use Rattle.model.proofs.Unlocking.{current-all_ready}
use Rattle.sched.specs.StandsFor as sched
use Rattle.sched.specs.Schedule as schedule
use Rattle.sched.specs.Schedule.{Schedule}
use Rattle.sched.proofs.Standing as on_sched
use Rattle.clock.specs.StandsFor as clock
use Rattle.clock.specs.Timeline.{Timeline}
use Rattle.objects.specs.WaitersStand.{AreAwakened, AtLocked, opened}
use Rattle.objects.specs.Objects as objects
use Rattle.objects.specs.Objects.{Objects, locked_by}
use Rattle.objects.proofs.Awake.{at_locked-unlock}
use Rattle.objects.proofs.Unlocking.{each_append}
use Rattle.objects.proofs.Counting.{Distinct, distinct_from}
use Rattle.groups.specs.StandsFor.{SameEventWaits}
use Rattle.groups.proofs.Elsewhere as bits_elsewhere
use Rattle.machine.specs.declared.machine.Machine.{Machine}
use Rattle.machine.specs.StandsFor.{StandsFor, At}
use Rattle.machine.specs.Can.{AreThere, AreToWake}
use Rattle.machine.proofs.Parts.{clock-same, rest_again, rest_with_objects, sched-same}
use Rattle.machine.proofs.Waking.{kept-all_ready, progress-all_ready, log-all_ready, released-all_ready}
use Rattle.ops.proofs.Waits.{unready_awake, awake_unsuspended}

-- ---- the Awake tasks can all become Ready

awake_key : WaitList → Task → Option Key
awake_key list t = option_and_then (wait_key list) (wait_if_awake t.status)

-- nobody was woken from both lists
in_one : (o : ℕ) (u : Status) (k m : Key) → option_and_then (wait_key (ToReceive o)) (wait_if_awake u) ≡ Some k
    → option_and_then (wait_key (ToSend o)) (wait_if_awake u) ≡ Some m → ⊥
in_one o (Ready n) k m e f = absurd (cc)
in_one o (Awake w) k m e f = by_list w.list refl where
  by_list : (l : WaitList) → w.list ≡ l → ⊥
  by_list (ToReceive a) is = let g = rw is at f in absurd (cc)
  by_list (ToSend a) is = let g = rw is at e in absurd (cc)
in_one o (Waiting w) k m e f = absurd (cc)
in_one o (Asleep w n) k m e f = absurd (cc)
in_one o (WaitingForBits g n d) k m e f = absurd (cc)
in_one o (WaitingForNotification n d) k m e f = absurd (cc)
in_one o Suspended k m e f = absurd (cc)
in_one o Ended k m e f = absurd (cc)

module _ (k : Machine) (s : State) (h : StandsFor k s) (o : ℕ) where
  Receives : Entry → Type 0
  Receives = HasKey (awake_key (ToReceive o)) s.tasks

  Sends : Entry → Type 0
  Sends = HasKey (awake_key (ToSend o)) s.tasks

  unready : (i : ℕ) → is_ready s i ≡ false → schedule.is_ready k.sched i ≡ false
  unready i off = on_sched.ready_same k.sched s i h.sched ∙ off

  apart_in : (e : Entry) (es : List Entry) → AllByRecursion (λ x. x.task ≡ e.task → ⊥) es
      → AllByRecursion (λ other. other ≢ e.task) (tasks_of es)
  apart_in e [] h = tt
  apart_in e (x ∷ xs) h = (h.0, apart_in e xs h.1)

  apart_from : (e : Entry) → Receives e → (es fs : List Entry) → AllByRecursion (λ x. x.task ≡ e.task → ⊥) es
      → AllByRecursion Sends fs → AllByRecursion (λ other. other ≢ e.task) (tasks_of es ++ tasks_of fs)
  unfolding Receives Sends awake_key
  apart_from e r (x ∷ xs) fs d has = (d.0, apart_from e r xs fs d.1 has)
  apart_from e r [] [] d has = tt
  apart_from e r [] (f ∷ fs) d has = (
    (λ same.
        in_one o (status_at s e.task) e.key f.key r.key
        (subst (λ (i : ℕ). option_and_then (wait_key (ToSend o)) (wait_if_awake (status_at s i)) ≡ Some f.key) same has.0.key)),
    apart_from e r [] fs d has.1,
  )

  senders_wake : (fs : List Entry) → AllByRecursion Sends fs → Distinct fs → AreToWake k.sched (tasks_of fs)
  unfolding Sends awake_key
  senders_wake [] has d = tt
  senders_wake (f ∷ fs) has d =
      (unready f.task (unready_awake (ToSend o) (status_at s f.task) f.key has.0.key), apart_in f fs d.0, senders_wake fs has.1 d.1)

  all_wake : (es fs : List Entry) → AllByRecursion Receives es → Distinct es
      → AllByRecursion Sends fs → Distinct fs → AreToWake k.sched (tasks_of es ++ tasks_of fs)
  unfolding Receives awake_key
  all_wake [] fs has d more c = senders_wake fs more c
  all_wake (e ∷ es) fs has d more c = (
    unready e.task (unready_awake (ToReceive o) (status_at s e.task) e.key has.0.key),
    apart_from e has.0 es fs d.0 more,
    all_wake es fs has.1 d.1 more c,
  )

  within_by : (list : WaitList) (es : List Entry) → AllByRecursion (HasKey (awake_key list) s.tasks) es → AreThere s (tasks_of es)
  unfolding awake_key
  within_by list [] has = tt
  within_by list (e ∷ es) has =
      ((has.0.within, awake_unsuspended list (status_at s e.task) e.key has.0.key), within_by list es has.1)

  module _ (xs ys : List ℕ) (are : AreAwakened s o xs ys) where
    pub are_to_wake : AreToWake k.sched (xs ++ ys)
    unfolding Receives Sends awake_key
    are_to_wake =
        rw (are.0, are.1) (all_wake (awakened s (ToReceive o)) (awakened s (ToSend o))
        (list_has (awake_key (ToReceive o)) s.tasks) (distinct_from (awake_key (ToReceive o)) 0 s.tasks)
        (list_has (awake_key (ToSend o)) s.tasks) (distinct_from (awake_key (ToSend o)) 0 s.tasks))

    pub receivers_within : AreThere s xs
    unfolding awake_key
    receivers_within = rw are.0 (within_by (ToReceive o) (awakened s (ToReceive o)) (list_has (awake_key (ToReceive o)) s.tasks))

    pub senders_within : AreThere s ys
    unfolding awake_key
    senders_within = rw are.1 (within_by (ToSend o) (awakened s (ToSend o)) (list_has (awake_key (ToSend o)) s.tasks))

-- ---- the unlock

module _ (k : Machine) (log : List Event) (s : State) (h : At k log s) where
  pub sched_opened : sched.StandsFor k.sched (opened s)
  sched_opened =
      let old = h.stands.sched.table in
      let table : IsTable (opened s) =
      record { tickets = old.tickets; few = old.few; current = old.current; holders = old.holders } in
      sched-same h.stands.sched table refl refl refl

  pub clock_opened : clock.StandsFor k.clock (opened s)
  clock_opened = clock-same k.clock s (opened s) h.stands.rest.clock refl refl refl sched_opened.table

  -- some were Awake
  pub unlocked_at : (is : List ℕ) (v : Schedule) (t : Timeline) (q : Objects)
      → unlock s ≡ for_each make_ready is (opened s) → sched.StandsFor v (for_each make_ready is (opened s))
      → clock.StandsFor t (for_each make_ready is (opened s)) → objects.StandsFor q None (unlock s)
      → At (record k { sched = v; clock = t; objects = q }) log (unlock s)
  unlocked_at is v t q e on awake there =
      let left = subst (objects.StandsFor q None) e there in
      let locked = subst (AtLocked None) e (at_locked-unlock None s h.stands.rest.awake) in
      let bits = subst (SameEventWaits s) e (bits_elsewhere.same_unlock s) in
      subst (At (record k { sched = v; clock = t; objects = q }) log) (sym e) (record {
        stands =
            record {
              sched = on;
              rest =
                  rest_with_objects h.stands.rest awake (let e = released-all_ready is (opened s) in omega (arith, e))
                  (progress-all_ready is (opened s)) (kept-all_ready is (opened s)) left locked bits;
            };
        log = h.log ∙ sym (log-all_ready is (opened s));
      })

  -- nothing was locked
  pub still_unlocked : k.objects.lock ≡ None → (q : Objects)
      → objects.StandsFor q None (unlock s) → At (record k { objects = q }) log (unlock s)
  unfolding unlock
  still_unlocked none q there =
      let is : None ≡ s.locked = sym (ap locked_by none) ∙ h.stands.rest.objects.locked in
      let back : objects.StandsFor q None s =
      subst (λ (o : Option ℕ). objects.StandsFor q None (for_one unlock_object o s)) (sym is) there in
      let k2 : Machine = record k { objects = q } in
      subst (λ (o : Option ℕ). At k2 log (for_one unlock_object o s)) is (record {
        stands = record { sched = h.stands.sched; rest = rest_again h.stands.rest h.stands.rest.clock back h.stands.rest.groups };
        log = h.log;
      })

front_apart : (i : ℕ) (is js : List ℕ) → AllByRecursion (λ other. other ≢ i) (is ++ js) → AllByRecursion (λ other. other ≢ i) is
front_apart i [] js h = tt
front_apart i (j ∷ is) js h = (h.0, front_apart i is js h.1)

-- the first of those that can become Ready
pub front_wakes : (v : Schedule) (is js : List ℕ) → AreToWake v (is ++ js) → AreToWake v is
front_wakes v [] js h = tt
front_wakes v (i ∷ is) js h = (h.0, front_apart i is js h.1, front_wakes v is js h.2)

-- the unlock changes nobody who runs
pub current-unlock : (s : State) → (unlock s).current ≡ s.current
unfolding unlock
current-unlock s = by_locked s.locked where
  by_locked : (o : Option ℕ) → (for_one unlock_object o s).current ≡ s.current
  by_locked None = refl
  by_locked (Some o) =
      current-all_ready (record s { locked = None }) (tasks_of (awakened s (ToReceive o)) ++ tasks_of (awakened s (ToSend o)))

-- one list after the other
pub in_turn : (P : State → Type 0) (s : State) (is js : List ℕ)
    → P (for_each make_ready js (for_each make_ready is s)) → P (for_each make_ready (is ++ js) s)
in_turn P s is js h = subst P (sym (each_append is js s)) h

-- if nothing was unlocked
pub none_by : {Y : Type 0} (lock : Option Y) → (IsSome lock → false ≡ true) → lock ≡ None
none_by None h = refl
none_by (Some l) h = let f = h refl in absurd (cc)
