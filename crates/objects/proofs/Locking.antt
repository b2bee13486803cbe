-- The lock of an object, over the whole of the objects.
use Rattle.std.proofs.Common.{length, ◌≡◌, ℕ, false, Option, Some, None, List, [], ◌∷◌, ◌++◌, sym, ◌∙◌, ap, subst, refl, eqb}
use Rattle.std.specs.Option.{IfSome, is_some, option_map, unwrap_or}
use Rattle.std.proofs.lemmas.Option.{same_Some}
use Rattle.model.specs.declared.call.WaitList.{WaitList}
use Rattle.model.specs.declared.call.WaitList.TheVariants.{ToReceive, ToSend}
use Rattle.model.specs.State.{State, Object, status_at, wait_if_awake, for_each, for_one}
use Rattle.model.specs.Order.{Entry, first, task_of, tasks_of}
use Rattle.model.specs.Switching.{make_ready}
use Rattle.model.specs.Mutexes.{best_priority}
use Rattle.model.specs.Waiting.{awakened, is_locked, unlock, unlock_object, waiters, wake_best, wake_one}
use Rattle.model.proofs.Sorting.{by_test}
use Rattle.model.proofs.Lists.{eqb-same}
use Rattle.model.proofs.Unlocking.{locked-all_ready}
use Rattle.objects.specs.declared.lock.Lock.{Lock}
use Rattle.objects.specs.Items.{object_in}
use Rattle.task_lists.specs.Priorities.{with_priorities}
use Rattle.objects.specs.WaitingLists.{first_priority, waiting_in}
use Rattle.objects.specs.WaitersStand.{AtLocked, Decider, FirstAwake, StandLocked, WaitersStand, one_more, opened, standing}
use Rattle.objects.specs.Objects.{Counts, Objects, StandsFor, counted, counted_by, locked_by}
use Rattle.objects.proofs.Keys.{waiters_all}
use Rattle.objects.proofs.Counting.{stands_received, stands_sent}
use Rattle.objects.proofs.Unlocking.{stands_opened, unlocks}

-- it is locked

none_awake : (s : State) → ((task : ℕ) → wait_if_awake (status_at s task) ≡ None) → (es : List Entry) → FirstAwake s 0 es
none_awake s h [] = tt
none_awake s h (e ∷ es) = (ap is_some (h e.task), none_awake s h es)

pub stands_locked : (v : Objects) (d : Option Decider) (s : State) (o : ℕ)
    → StandsFor v d s → ((task : ℕ) → wait_if_awake (status_at s task) ≡ None)
    → StandsFor (record v { lock = Some (record { object = o; receivers = 0; senders = 0 }) }) d (record s { locked = Some o })
stands_locked v d s o h nobody =
    let new : State = record s { locked = Some o } in
    record {
      number = h.number;
      objects = h.objects;
      waiters =
          record {
            lists = h.waiters.lists;
            table =
                record {
                  tickets = h.waiters.table.tickets;
                  few = h.waiters.table.few;
                  current = h.waiters.table.current;
                  holders = h.waiters.table.holders;
                };
          };
      locked = refl;
      counts = (none_awake new nobody (standing new (ToReceive o)), none_awake new nobody (standing new (ToSend o)));
    }

-- what holds of the lists then
pub standing_locked : (v : Objects) (d : Option Decider) (s : State) (l : Lock) → StandsFor v d s
    → v.lock ≡ Some l → StandLocked v.waiting d l.object l.receivers l.senders s
standing_locked v d s l h e =
    let counts : Counts s l = subst (λ (o : Option Lock). IfSome o (Counts s)) e h.counts in
    record { stand = h.waiters; locked = sym h.locked ∙ ap locked_by e; to_receive = counts.0; to_send = counts.1 }

-- it is unlocked

pub objects-all_ready : (js : List ℕ) (s : State) → (for_each make_ready js s).objects ≡ s.objects
objects-all_ready [] s = refl
objects-all_ready (j ∷ js) s = objects-all_ready js (make_ready j s)

pub stands_unlocked_none : (v : Objects) (s : State) → StandsFor v None s → v.lock ≡ None → StandsFor v None (unlock s)
unfolding unlock
stands_unlocked_none v s h e =
    subst (λ (x : Option ℕ). StandsFor v None (for_one unlock_object x s)) (sym (ap locked_by e) ∙ h.locked) h

pub stands_unlocked : (v : Objects) (w : List (List (ℕ × ℕ))) (s : State) (l : Lock) → StandsFor v None s
    → v.lock ≡ Some l → WaitersStand w None (unlock s)
    → StandsFor (record { number = v.number; objects = v.objects; waiting = w; lock = None }) None (unlock s)
unfolding unlock
stands_unlocked v w s l h e stand =
    let js : List ℕ = tasks_of (awakened s (ToReceive l.object)) ++ tasks_of (awakened s (ToSend l.object)) in
    let is : Some l.object ≡ s.locked = sym (ap locked_by e) ∙ h.locked in
    let own : WaitersStand w None (unlock_object l.object s) =
    subst (λ (x : Option ℕ). WaitersStand w None (for_one unlock_object x s)) (sym is) stand in
    let one : StandsFor (record { number = v.number; objects = v.objects; waiting = w; lock = None })
    None (unlock_object l.object s) =
    record {
      number = ap length (objects-all_ready js (opened s)) ∙ h.number;
      objects = λ k. h.objects k ∙ sym (ap (λ (os : List Object). object_in os k) (objects-all_ready js (opened s)));
      waiters = own;
      locked = sym (locked-all_ready (opened s) js);
      counts = tt;
    } in
    subst (λ (x : Option ℕ).
    StandsFor (record { number = v.number; objects = v.objects; waiting = w; lock = None }) None (for_one unlock_object x s))
    is one

-- the best waiter of a list is woken

woken_objects : (s : State) (list : WaitList) (o : Option ℕ) → (for_one (λ task. wake_one task list) o s).objects ≡ s.objects
woken_objects s list None = refl
woken_objects s list (Some i) = by_test (is_locked s.locked list) (λ t. rw t refl) (λ t. rw t refl)

woken_locked : (s : State) (list : WaitList) (o : Option ℕ) → (for_one (λ task. wake_one task list) o s).locked ≡ s.locked
woken_locked s list None = refl
woken_locked s list (Some i) = by_test (is_locked s.locked list) (λ t. rw t refl) (λ t. rw t refl)

wake_objects : (s : State) (list : WaitList) → (wake_best list s).objects ≡ s.objects
unfolding wake_best
wake_objects s list = woken_objects s list (task_of (first (waiters s list)))

wake_locked : (s : State) (list : WaitList) → (wake_best list s).locked ≡ s.locked
unfolding wake_best
wake_locked s list = woken_locked s list (task_of (first (waiters s list)))

-- The list is one of the locked object's, and the wake is counted.
counted_at : (l m : Lock) (list : WaitList) (v : List (List (ℕ × ℕ))) (d : Option Decider) (s : State) → Some m ≡ counted list l
    → StandLocked v d l.object l.receivers l.senders s → StandLocked v d m.object m.receivers m.senders (wake_best list s)
counted_at l m (ToReceive o) v d s e h = by_test (eqb l.object o)
    (λ t.
    let f = rw t at e in
    let same : l.object ≡ o = eqb-same l.object o t in
    let P : Lock → Type 0 = λ k. StandLocked v d k.object k.receivers k.senders (wake_best (ToReceive o) s) in
    subst P (sym (same_Some m (record l { receivers = one_more l.receivers }) f))
    (subst (λ (k : ℕ). StandLocked v d l.object (one_more l.receivers) l.senders (wake_best (ToReceive k) s))
    same (stands_received v d l.object l.receivers l.senders s h)))
    (λ t. let f = rw t at e in absurd (cc))
counted_at l m (ToSend o) v d s e h = by_test (eqb l.object o)
    (λ t.
    let f = rw t at e in
    let same : l.object ≡ o = eqb-same l.object o t in
    let P : Lock → Type 0 = λ k. StandLocked v d k.object k.receivers k.senders (wake_best (ToSend o) s) in
    subst P (sym (same_Some m (record l { senders = one_more l.senders }) f))
    (subst (λ (k : ℕ). StandLocked v d l.object l.receivers (one_more l.senders) (wake_best (ToSend k) s))
    same (stands_sent v d l.object l.receivers l.senders s h)))
    (λ t. let f = rw t at e in absurd (cc))

pub stands_counted : (number : ℕ) (objects : List Object) (waiting : List (List (ℕ × ℕ)))
    (lock : Option Lock) (m : Lock) (list : WaitList) (d : Option Decider) (s : State)
    → Some m ≡ counted_by list lock
    → StandsFor (record { number = number; objects = objects; waiting = waiting; lock = lock }) d s
    → StandsFor (record { number = number; objects = objects; waiting = waiting; lock = Some m }) d (wake_best list s)
stands_counted number objects waiting None m list d s e h = absurd (cc)
stands_counted number objects waiting (Some l) m list d s e h =
    let k =
    counted_at l m list waiting d s e
    (record { stand = h.waiters; locked = sym h.locked; to_receive = h.counts.0; to_send = h.counts.1 }) in
    record {
      number = ap length (wake_objects s list) ∙ h.number;
      objects = λ i. h.objects i ∙ sym (ap (λ (os : List Object). object_in os i) (wake_objects s list));
      waiters = k.stand;
      locked = sym k.locked;
      counts = (k.to_receive, k.to_send);
    }

none_counted : (l : Lock) (list : WaitList) → None ≡ counted list l → is_locked (Some l.object) list ≡ false
none_counted l (ToReceive o) e = by_test (eqb l.object o) (λ t. let f = rw t at e in absurd (cc)) (λ t. t)
none_counted l (ToSend o) e = by_test (eqb l.object o) (λ t. let f = rw t at e in absurd (cc)) (λ t. t)

none_locked : (list : WaitList) → is_locked None list ≡ false
none_locked (ToReceive o) = refl
none_locked (ToSend o) = refl

pub shut_by : (lock : Option Lock) (list : WaitList) (locked : Option ℕ)
    → None ≡ counted_by list lock → locked_by lock ≡ locked → is_locked locked list ≡ false
shut_by None list locked e h = subst (λ (x : Option ℕ). is_locked x list ≡ false) h (none_locked list)
shut_by (Some l) list locked e h = subst (λ (x : Option ℕ). is_locked x list ≡ false) h (none_counted l list e)

-- The list is another object's.
pub stands_taken_best : (number : ℕ) (objects : List Object) (waiting new : List (List (ℕ × ℕ)))
    (lock : Option Lock) (list : WaitList) (d : Option Decider) (s : State)
    → StandsFor (record { number = number; objects = objects; waiting = waiting; lock = lock }) d s
    → WaitersStand new d (wake_best list s)
    → ((o receivers senders : ℕ) → StandLocked waiting d o receivers senders s
    → StandLocked new d o receivers senders (wake_best list s))
    → StandsFor (record { number = number; objects = objects; waiting = new; lock = lock }) d (wake_best list s)
stands_taken_best number objects waiting new None list d s h stand counts = record {
  number = ap length (wake_objects s list) ∙ h.number;
  objects = λ i. h.objects i ∙ sym (ap (λ (os : List Object). object_in os i) (wake_objects s list));
  waiters = stand;
  locked = h.locked ∙ sym (wake_locked s list);
  counts = tt;
}
stands_taken_best number objects waiting new (Some l) list d s h stand counts =
    let k =
    counts l.object l.receivers l.senders
    (record { stand = h.waiters; locked = sym h.locked; to_receive = h.counts.0; to_send = h.counts.1 }) in
    record {
      number = ap length (wake_objects s list) ∙ h.number;
      objects = λ i. h.objects i ∙ sym (ap (λ (os : List Object). object_in os i) (wake_objects s list));
      waiters = stand;
      locked = h.locked ∙ sym (wake_locked s list);
      counts = (k.to_receive, k.to_send);
    }

-- ---- the best waiter's priority, while nothing is locked

first_with : (es : List Entry)
    → first_priority (with_priorities es) ≡ unwrap_or (option_map (λ (e : Entry). e.key.priority) (first es)) 0
first_with [] = refl
first_with (e ∷ es) = refl

pub best_priority_is : (v : List (List (ℕ × ℕ))) (s : State) (list : WaitList) → WaitersStand v None s
    → AtLocked None s → s.locked ≡ None → first_priority (waiting_in v list) ≡ best_priority s list
best_priority_is v s list h at none =
    let shut : is_locked s.locked list ≡ false = ap (λ (o : Option ℕ). is_locked o list) none ∙ none_locked list in
    ap first_priority (h.lists list) ∙ first_with (standing s list)
    ∙ ap (λ (es : List Entry). unwrap_or (option_map (λ (e : Entry). e.key.priority) (first es)) 0)
    (sym (waiters_all s list shut at.awake))

-- nobody was woken since

module _ (v : Objects) (s : State) (l : Lock) (h : StandsFor v None s) (e : v.lock ≡ Some l)
    (no_receivers : l.receivers ≡ 0) (no_senders : l.senders ≡ 0) where
  none_woken : StandLocked v.waiting None l.object 0 0 s
  none_woken =
      let S : ℕ → ℕ → Type 0 = λ receivers senders. StandLocked v.waiting None l.object receivers senders s in
      subst (λ (n : ℕ). S n 0) no_receivers (subst (λ (n : ℕ). S l.receivers n) no_senders (standing_locked v None s l h e))

  pub unlock_opens : unlock s ≡ opened s
  unlock_opens = unlocks v.waiting s l.object 0 0 [] [] none_woken refl refl

  pub stands_released : StandsFor
      (record { number = v.number; objects = v.objects; waiting = v.waiting; lock = None }) None (unlock s)
  stands_released =
      stands_unlocked v v.waiting s l h e
      (subst (λ (t : State). WaitersStand v.waiting None t) (sym unlock_opens) (stands_opened v.waiting s h.waiters))
