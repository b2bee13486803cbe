-- While an object is locked its wakes are counted, and the lists stay.
use Rattle.std.proofs.Common.{◌≡◌, ℕ, ◌+◌, ◌≤◌, zero, suc, true, false, List, [], ◌∷◌, ◌++◌, Option, Some, None, refl, ap, sym, ◌∙◌}
use Rattle.std.proofs.Common.{arith, ltb, eqb, length, drop, subst, add-one}
use Rattle.std.specs.List.{AllByRecursion}
use Rattle.std.specs.Option.{is_some, option_and_then, option_map, option_to_list}
use Rattle.std.proofs.lemmas.Bool.{ltb-false}
use Rattle.std.proofs.lemmas.List.{get_or-set_same, get_or-set_other}
use Rattle.model.specs.declared.call.WaitList.{WaitList}
use Rattle.model.specs.declared.call.WaitList.TheVariants.{ToReceive, ToSend}
use Rattle.model.specs.State.{State, Status, Ready, Awake, Waiting, Asleep, WaitingForBits, WaitingForNotification, Suspended}
use Rattle.model.specs.State.{Ended, Task, Wait, no_task}
use Rattle.model.specs.State.{wait_if_awake, wait_if_waiting, task_at, status_at, for_one}
use Rattle.model.specs.Invariant.{wait_of}
use Rattle.model.specs.Order.{Key, Entry, entry, first, in_order, keyed, list_by, put, before, task_of}
use Rattle.model.specs.Switching.{is_same}
use Rattle.model.specs.Waiting.{awaken, awake_status, is_locked, same_list, wait_key, waiters, wake_best, wake_one}
use Rattle.model.proofs.Sorting.{All-in_order, All-put, All-weaker, by_test, length-in_order}
use Rattle.model.proofs.Lists.{HasKey, eqb-refl, eqb-same, list_has, list_without}
use Rattle.objects.specs.WaitersStand.{Decider, FirstAwake, StandLocked, WaitersStand, is_awake, one_more, standing}
use Rattle.objects.proofs.Keys.{same_list-true, standing_key, waiting_key}
use Rattle.objects.proofs.Parts.{waiters_rest}
use Rattle.objects.proofs.Standing.{standing-awakened, stands_awakened}

-- each task is in a list once

places : (f : Task → Option Key) (i : ℕ) (ts : List Task) → AllByRecursion (λ e. i ≤ e.task) (keyed f i ts)
places f i [] = tt
places f i (t ∷ ts) =
    let later =
    All-weaker (λ e. i + 1 ≤ e.task) (λ e. i ≤ e.task) (λ e le. omega arith) (keyed f (i + 1) ts) (places f (i + 1) ts) in
    elim (f t) as (λ o. AllByRecursion (λ e. i ≤ e.task) (option_to_list (option_map (entry i) o) ++ keyed f (i + 1) ts)) [
      | None ↦ later
      | Some n ↦ (omega arith, later)
    ]

abbrev pub Distinct : List Entry → Type 0
Distinct [] = Unit {0}
Distinct (x ∷ xs) = AllByRecursion (λ e. e.task ≡ x.task → ⊥) xs × Distinct xs

Distinct-put : (e : Entry) (xs : List Entry) → AllByRecursion (λ x. x.task ≡ e.task → ⊥) xs → Distinct xs → Distinct (put e xs)
Distinct-put e [] h d = (tt, tt)
Distinct-put e (f ∷ fs) h d = by_test (before e.key f.key)
    (λ t. rw t (h, d))
    (λ t. rw t (All-put (λ x. x.task ≡ f.task → ⊥) e fs (λ s. h.0 (sym s)) d.0, Distinct-put e fs h.1 d.1))

pub distinct_from : (f : Task → Option Key) (o : ℕ) (ts : List Task) → Distinct (in_order (keyed f o ts))
distinct_from f o [] = tt
distinct_from f o (t ∷ ts) =
    let xs = in_order (keyed f (o + 1) ts) in
    let later : Distinct xs = distinct_from f (o + 1) ts in
    let here : AllByRecursion (λ e. e.task ≡ o → ⊥) xs =
    All-in_order (λ e. e.task ≡ o → ⊥) (keyed f (o + 1) ts) (All-weaker (λ e. o + 1 ≤ e.task)
    (λ e. e.task ≡ o → ⊥) (λ e le s. omega arith) (keyed f (o + 1) ts) (places f (o + 1) ts)) in
    elim (f t) as (λ r. Distinct (in_order (option_to_list (option_map (entry o) r) ++ keyed f (o + 1) ts))) [
      | None ↦ later
      | Some k ↦ Distinct-put (entry o k) xs here later
    ]

length-keyed : (f : Task → Option Key) (o : ℕ) (ts : List Task) → length (keyed f o ts) ≤ length ts
length-keyed f o [] = omega arith
length-keyed f o (t ∷ ts) =
    let later = length-keyed f (o + 1) ts in
    elim (f t) as (λ r. length (option_to_list (option_map (entry o) r) ++ keyed f (o + 1) ts) ≤ suc (length ts)) [
      | None ↦ omega arith
      | Some n ↦ omega arith
    ]

length-list : (f : Task → Option Key) (ts : List Task) → length (list_by f ts) ≤ length ts
length-list f ts = omega (arith, length-in_order (keyed f 0 ts), length-keyed f 0 ts)

-- the first of a list are Awake

pub awake_agree : (old new : State) (k : ℕ) (es : List Entry)
    → AllByRecursion (λ e. is_awake new e.task ≡ is_awake old e.task) es → FirstAwake old k es → FirstAwake new k es
awake_agree old new k [] a h = tt
awake_agree old new zero (e ∷ es) a h = (a.0 ∙ h.0, awake_agree old new zero es a.1 h.1)
awake_agree old new (suc k) (e ∷ es) a h = (a.0 ∙ h.0, awake_agree old new k es a.1 h.1)

agree_apart : (old new : State) (i : ℕ) → ((j : ℕ) → (j ≡ i → ⊥) → is_awake new j ≡ is_awake old j) → (es : List Entry)
    → AllByRecursion (λ y. y.task ≡ i → ⊥) es → AllByRecursion (λ e. is_awake new e.task ≡ is_awake old e.task) es
agree_apart old new i a [] h = tt
agree_apart old new i a (e ∷ es) h = (a e.task h.0, agree_apart old new i a es h.1)

pub awake_apart : (old new : State) (i k : ℕ) (es : List Entry) → ((j : ℕ) → (j ≡ i → ⊥) → is_awake new j ≡ is_awake old j)
    → AllByRecursion (λ y. y.task ≡ i → ⊥) es → FirstAwake old k es → FirstAwake new k es
awake_apart old new i k es a h = awake_agree old new k es (agree_apart old new i a es h)

-- The first of those that aren't Awake wakes.
awake_more : (old new : State) (k : ℕ) (es : List Entry) (e : Entry) (rest : List Entry) → drop k es ≡ e ∷ rest
    → is_awake new e.task ≡ true → ((j : ℕ) → is_awake old j ≡ true → is_awake new j ≡ true)
    → ((j : ℕ) → (j ≡ e.task → ⊥) → is_awake new j ≡ is_awake old j) → Distinct es → FirstAwake old k es → FirstAwake new (suc k) es
awake_more old new zero [] e rest d t m a u h = tt
awake_more old new (suc k) [] e rest d t m a u h = tt
awake_more old new zero (x ∷ es) e rest d t m a u h =
    let same : x ≡ e = cc in
    let later : AllByRecursion (λ y. y.task ≡ x.task → ⊥) es = u.0 in
    let Q : Entry → Type 0 = λ z. AllByRecursion (λ y. y.task ≡ z.task → ⊥) es in
    let E : Entry → Type 0 = λ z. is_awake new z.task ≡ true in
    (subst E (sym same) t, awake_apart old new e.task zero es a (subst Q same later) h.1)
awake_more old new (suc k) (x ∷ es) e rest d t m a u h = (m x.task h.0, awake_more old new k es e rest d t m a u.1 h.1)

awake_more_none : (s : State) (k : ℕ) (es : List Entry) → drop k es ≡ [] → FirstAwake s k es → FirstAwake s (suc k) es
awake_more_none s zero [] d h = tt
awake_more_none s (suc k) [] d h = tt
awake_more_none s zero (x ∷ es) d h = absurd (cc)
awake_more_none s (suc k) (x ∷ es) d h = (h.0, awake_more_none s k es d h.1)

awake_all : (s : State) (k m : ℕ) (es : List Entry) → length es ≤ k → length es ≤ m → FirstAwake s k es → FirstAwake s m es
awake_all s k m [] l n h = tt
awake_all s zero m (x ∷ es) l n h = absurd (omega arith)
awake_all s (suc k) zero (x ∷ es) l n h = absurd (omega arith)
awake_all s (suc k) (suc m) (x ∷ es) l n h = (h.0, awake_all s k m es (omega arith) (omega arith) h.1)

-- the count stops at 32
awake_capped : (s : State) (k : ℕ) (es : List Entry) → length es ≤ 32 → FirstAwake s (suc k) es → FirstAwake s (one_more k) es
awake_capped s k es l h = by_test (ltb k 32)
    (λ t. rw (t, add-one) h)
    (λ t. let le = ltb-false k 32 t in rw t (awake_all s (suc k) k es (omega arith) (omega arith) h))

-- by cases on a status

waits_stands : (list : WaitList) (k : Key) (u : Status) → option_and_then (wait_key list) (wait_if_waiting u) ≡ Some k
    → option_and_then (wait_key list) (wait_of u) ≡ Some k
waits_stands q k (Ready n) h = absurd (cc)
waits_stands q k (Awake w) h = absurd (cc)
waits_stands q k (Waiting w) h = h
waits_stands q k (Asleep m b) h = absurd (cc)
waits_stands q k (WaitingForBits g m d) h = absurd (cc)
waits_stands q k (WaitingForNotification m d) h = absurd (cc)
waits_stands q k Suspended h = absurd (cc)
waits_stands q k Ended h = absurd (cc)

key_elsewhere : (q p : WaitList) (k : Key) (w : Wait) → wait_key q w ≡ Some k → same_list q p ≡ false → wait_key p w ≡ None
key_elsewhere q p k w h n = by_test (same_list w.list q)
    (λ t. let e : w.list ≡ q = same_list-true w.list q t in
    let R : WaitList → Type 0 = λ a. wait_key p (record w { list = a }) ≡ None in
    subst R (sym e) (rw n refl))
    (λ t. let f = rw t at h in absurd (cc))

pub stands_once : (q p : WaitList) (k : Key) (u : Status) → option_and_then (wait_key q) (wait_of u) ≡ Some k
    → same_list q p ≡ false → option_and_then (wait_key p) (wait_of u) ≡ None
stands_once q p k (Ready n) h e = refl
stands_once q p k (Awake w) h e = key_elsewhere q p k w h e
stands_once q p k (Waiting w) h e = key_elsewhere q p k w h e
stands_once q p k (Asleep m b) h e = refl
stands_once q p k (WaitingForBits g m d) h e = refl
stands_once q p k (WaitingForNotification m d) h e = refl
stands_once q p k Suspended h e = refl
stands_once q p k Ended h e = refl

awakes : (list : WaitList) (k : Key) (u : Status) → option_and_then (wait_key list) (wait_of u) ≡ Some k
    → is_some (wait_if_awake (awake_status u)) ≡ true
awakes q k (Ready n) h = absurd (cc)
awakes q k (Awake w) h = refl
awakes q k (Waiting w) h = refl
awakes q k (Asleep m b) h = absurd (cc)
awakes q k (WaitingForBits g m d) h = absurd (cc)
awakes q k (WaitingForNotification m d) h = absurd (cc)
awakes q k Suspended h = absurd (cc)
awakes q k Ended h = absurd (cc)

-- The best waiter is Awake: one more of its list, and of any other list as many.
module _ (s : State) (q : WaitList) (few : length s.tasks ≤ 32) where
  others_as : (i : ℕ) (j : ℕ) → (j ≡ i → ⊥) → is_awake (awaken i s) j ≡ is_awake s j
  others_as i j n =
      ap (λ (t : Task). is_some (wait_if_awake t.status))
      (get_or-set_other s.tasks i j (record (task_at s i) { status = awake_status (status_at s i) }) no_task n)

  by_head : (k : ℕ) (p : WaitList) (m : ℕ) (ws : List Entry) → waiters s q ≡ ws
      → FirstAwake s k (standing s q) → FirstAwake s m (standing s p) → is_locked s.locked q ≡ true
      → FirstAwake (for_one (λ task. wake_one task q) (task_of (first ws)) s) (one_more k)
      (standing (for_one (λ task. wake_one task q) (task_of (first ws)) s) q)
      × (same_list q p ≡ false
      → FirstAwake (for_one (λ task. wake_one task q) (task_of (first ws)) s) m
      (standing (for_one (λ task. wake_one task q) (task_of (first ws)) s) p))
  by_head k p m [] is h g shown =
      let L = standing s q in
      let short : length L ≤ 32 = omega (arith, few, length-list (standing_key q) s.tasks) in
      (awake_capped s k L short (awake_more_none s k L (sym (waiters_rest s q k h) ∙ is) h), λ n. g)
  by_head k p m (e ∷ rest) is h g shown =
      let L = standing s q in
      let i = e.task in
      let u = status_at s i in
      let t' : Task = record (task_at s i) { status = awake_status u } in
      let short : length L ≤ 32 = omega (arith, few, length-list (standing_key q) s.tasks) in
      let all : AllByRecursion (HasKey (waiting_key q) s.tasks) (e ∷ rest) =
      subst (AllByRecursion (HasKey (waiting_key q) s.tasks)) is (list_has (waiting_key q) s.tasks) in
      let stand : option_and_then (wait_key q) (wait_of u) ≡ Some e.key = waits_stands q e.key u all.0.key in
      let new : State = awaken i s in
      let risen : is_awake new i ≡ true =
      ap (λ (t : Task). is_some (wait_if_awake t.status)) (get_or-set_same s.tasks i t' no_task all.0.within)
      ∙ awakes q e.key u stand in
      let agree : (j : ℕ) → (j ≡ i → ⊥) → is_awake new j ≡ is_awake s j = others_as i in
      let rise : (j : ℕ) → is_awake s j ≡ true → is_awake new j ≡ true = λ j y. by_test (eqb j i)
      (λ t. subst (λ (n : ℕ). is_awake new n ≡ true) (sym (eqb-same j i t)) risen)
      (λ t. agree j (λ b. let w : eqb j i ≡ true = rw b (eqb-refl i) in cc (w, t)) ∙ y) in
      let more : FirstAwake new (one_more k) L =
      awake_capped new k L short (awake_more s new k L e rest (sym (waiters_rest s q k h) ∙ is)
      risen rise agree (distinct_from (standing_key q) 0 s.tasks) h) in
      let same : (n : WaitList) → standing s n ≡ standing (awaken i s) n = λ n. sym (standing-awakened s i n) in
      rw shown (
        subst (FirstAwake new (one_more k)) (same q) more,
        λ n.
            subst (FirstAwake new m) (same p) (awake_apart s new i m (standing s p) agree
            (list_without (standing_key p) i s.tasks (stands_once q p e.key u stand n)) g),
      )

counted : (v : List (List (ℕ × ℕ))) (s : State) (d : Option Decider) (q : WaitList) (o : Option ℕ)
    → WaitersStand v d s → is_locked s.locked q ≡ true → WaitersStand v d (for_one (λ task. wake_one task q) o s)
counted v s d q None h shown = h
counted v s d q (Some i) h shown = rw shown (stands_awakened v d s i h)

locked_after : (s : State) (q : WaitList) (o : Option ℕ) → is_locked s.locked q ≡ true
    → (for_one (λ task. wake_one task q) o s).locked ≡ s.locked
locked_after s q None shown = refl
locked_after s q (Some i) shown = rw shown refl

locks : (s : State) (o : ℕ) → s.locked ≡ Some o → is_same s.locked (Some o) ≡ true
locks s o e = ap (λ x. is_same x (Some o)) e ∙ eqb-refl o

-- A wake of a task that waits to receive from the locked object, or to send to it, counts.
pub stands_received : (v : List (List (ℕ × ℕ))) (d : Option Decider) (o receivers senders : ℕ) (s : State)
    → StandLocked v d o receivers senders s → StandLocked v d o (one_more receivers) senders (wake_best (ToReceive o) s)
unfolding wake_best
stands_received v d o receivers senders s h =
    let shown : is_locked s.locked (ToReceive o) ≡ true = locks s o h.locked in
    let r =
    by_head s (ToReceive o) h.stand.table.few receivers (ToSend o) senders
    (waiters s (ToReceive o)) refl h.to_receive h.to_send shown in
    record {
      stand = counted v s d (ToReceive o) (task_of (first (waiters s (ToReceive o)))) h.stand shown;
      locked = locked_after s (ToReceive o) (task_of (first (waiters s (ToReceive o)))) shown ∙ h.locked;
      to_receive = r.0;
      to_send = r.1 refl;
    }

pub stands_sent : (v : List (List (ℕ × ℕ))) (d : Option Decider) (o receivers senders : ℕ) (s : State)
    → StandLocked v d o receivers senders s → StandLocked v d o receivers (one_more senders) (wake_best (ToSend o) s)
unfolding wake_best
stands_sent v d o receivers senders s h =
    let shown : is_locked s.locked (ToSend o) ≡ true = locks s o h.locked in
    let r =
    by_head s (ToSend o) h.stand.table.few senders (ToReceive o) receivers
    (waiters s (ToSend o)) refl h.to_send h.to_receive shown in
    record {
      stand = counted v s d (ToSend o) (task_of (first (waiters s (ToSend o)))) h.stand shown;
      locked = locked_after s (ToSend o) (task_of (first (waiters s (ToSend o)))) shown ∙ h.locked;
      to_receive = r.1 refl;
      to_send = r.0;
    }
