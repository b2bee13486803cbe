-- A task that is Awake waited at the locked object: what keeps that.
use Rattle.std.proofs.Common.{◌≡◌, ℕ, ◌<◌, true, Option, Some, None, List, [], ◌∷◌, length, set, get_or, sym, ◌∙◌, ap, subst, refl}
use Rattle.std.proofs.Common.{eqb}
use Rattle.std.specs.List.{AllByRecursion}
use Rattle.std.specs.Option.{IfSome, option_and_then}
use Rattle.model.specs.declared.call.Phase.TheVariants.{Place}
use Rattle.model.specs.declared.call.WaitList.{WaitList}
use Rattle.model.specs.declared.op.Access.{Access}
use Rattle.model.specs.State.{State, Object, Status, Task, Wait, Ready, Awake, Waiting, Asleep, WaitingForBits}
use Rattle.model.specs.State.{WaitingForNotification, Suspended, Ended}
use Rattle.model.specs.State.{no_task, wait_if_awake, wait_if_waiting, status_at, task_at, with_object, go_on, for_one, for_each}
use Rattle.model.specs.Order.{Entry, Key, first, task_of}
use Rattle.model.specs.Switching.{make_ready}
use Rattle.model.specs.Objects.{list_for}
use Rattle.model.specs.Calls.{lock}
use Rattle.model.specs.Waiting.{awaken, awake_status, is_locked, same_list, unlock, unlock_object, wait_in, wait_key, waiters}
use Rattle.model.specs.Waiting.{wake_best, wake_one}
use Rattle.model.proofs.Sorting.{by_test}
use Rattle.model.proofs.Lists.{HasKey, eqb-refl, eqb-same, list_has}
use Rattle.model.proofs.Tables.{each-set}
use Rattle.model.proofs.Unlocking.{none_awake, is_locked-own, none_left}
use Rattle.objects.specs.WaitersStand.{AtLocked, Decider}
use Rattle.objects.specs.Objects.{SameWaits}
use Rattle.objects.proofs.Deciding.{others_as_before, waits_now}
use Rattle.objects.proofs.Keys.{same_list-true, waiting_key}
use Rattle.objects.proofs.Kept.{same_go_on}

-- a wait of the locked object, if it is one
abbrev WokenAt : Option ℕ → Option Wait → Type 0
WokenAt locked o = IfSome o (λ w. is_locked locked w.list ≡ true)

-- If nothing is locked no task is Awake.
pub nobody_awake : (d : Option Decider) (s : State) → s.locked ≡ None
    → AtLocked d s → (i : ℕ) → wait_if_awake (status_at s i) ≡ None
nobody_awake d s none h i = none_awake s.locked (wait_if_awake (status_at s i)) none (h.awake i)

-- and then so it is
pub at_locked-nobody : (s : State) → ((i : ℕ) → wait_if_awake (status_at s i) ≡ None) → AtLocked None s
at_locked-nobody s nobody = record { awake = λ i. subst (WokenAt s.locked) (sym (nobody i)) tt; to_place = tt }

-- ---- what keeps it

-- the same waits, and the same is locked
pub at_locked_same : (d : Option Decider) (s t : State) → SameWaits s t → AtLocked d s → AtLocked d t
at_locked_same d s t same h = record {
  awake = λ i.
      subst (λ (o : Option ℕ). WokenAt o (wait_if_awake (status_at t i)))
      (sym same.locked) (subst (WokenAt s.locked) (sym (same.awake i)) (h.awake i));
  to_place = subst (λ (o : Option ℕ). IfSome d (λ d. is_locked o d.list ≡ true)) (sym same.locked) h.to_place;
}

-- one task changes
at_locked-set : (d : Option Decider) (s new : State) (i : ℕ) (t : Task) → new.tasks ≡ set s.tasks i t
    → new.locked ≡ s.locked → WokenAt s.locked (wait_if_awake t.status) → AtLocked d s → AtLocked d new
at_locked-set d s new i t is locked own h =
    let P : ℕ → Task → Type 0 = λ j u. WokenAt s.locked (wait_if_awake u.status) in
    record {
      awake = λ j. subst (λ (o : Option ℕ). WokenAt o (wait_if_awake (status_at new j))) (sym locked)
          (subst (λ (ts : List Task). WokenAt s.locked (wait_if_awake (get_or ts j no_task).status))
          (sym is) (each-set no_task P s.tasks i t own h.awake j));
      to_place = subst (λ (o : Option ℕ). IfSome d (λ d. is_locked o d.list ≡ true)) (sym locked) h.to_place;
    }

pub at_locked-ready : (d : Option Decider) (i : ℕ) (s : State) → AtLocked d s → AtLocked d (make_ready i s)
at_locked-ready d i s h =
    at_locked-set d s (make_ready i s) i (record (task_at s i) { status = Ready s.next_ticket }) refl refl tt h

pub at_locked-all_ready : (d : Option Decider) (is : List ℕ) (s : State) → AtLocked d s → AtLocked d (for_each make_ready is s)
at_locked-all_ready d [] s h = h
at_locked-all_ready d (i ∷ is) s h = at_locked-all_ready d is (make_ready i s) (at_locked-ready d i s h)

pub at_locked-stored : (d : Option Decider) (o : ℕ) (x : Object) (s : State) → AtLocked d s → AtLocked d (with_object o x s)
at_locked-stored d o x s h = record { awake = h.awake; to_place = h.to_place }

-- ---- a wake

-- a task that waits in a list of the locked object, and is woken
woken_at : (locked : Option ℕ) (list : WaitList) (k : Key) (u : Status) → is_locked locked list ≡ true
    → option_and_then (wait_key list) (wait_if_waiting u) ≡ Some k → WokenAt locked (wait_if_awake (awake_status u))
woken_at locked list k (Ready n) shown e = absurd cc
woken_at locked list k (Awake w) shown e = absurd cc
woken_at locked list k (Waiting w) shown e = by_test (same_list w.list list)
    (λ t. ap (is_locked locked) (same_list-true w.list list t) ∙ shown)
    (λ t. let f = rw t at e in absurd cc)
woken_at locked list k (Asleep m n) shown e = absurd cc
woken_at locked list k (WaitingForBits g m d) shown e = absurd cc
woken_at locked list k (WaitingForNotification m d) shown e = absurd cc
woken_at locked list k Suspended shown e = absurd cc
woken_at locked list k Ended shown e = absurd cc

at_locked-woken_first : (d : Option Decider) (list : WaitList) (s : State) (es : List Entry)
    → AllByRecursion (HasKey (waiting_key list) s.tasks) es → AtLocked d s
    → AtLocked d (for_one (λ task. wake_one task list) (task_of (first es)) s)
at_locked-woken_first d list s [] has h = h
at_locked-woken_first d list s (e ∷ es) has h = by_test (is_locked s.locked list)
    (λ t.
    rw t (at_locked-set d s (awaken e.task s) e.task (record (task_at s e.task) { status = awake_status (status_at s e.task) })
    refl refl (woken_at s.locked list e.key (status_at s e.task) t has.0.key) h))
    (λ t. rw t (at_locked-ready d e.task s h))

pub at_locked-wake_best : (d : Option Decider) (list : WaitList) (s : State) → AtLocked d s → AtLocked d (wake_best list s)
unfolding wake_best
at_locked-wake_best d list s h = at_locked-woken_first d list s (waiters s list) (list_has (waiting_key list) s.tasks) h

-- ---- a decision, and an unlock

-- the object is locked, while nothing was
pub at_locked-locked : (s : State) (o : ℕ) → s.locked ≡ None → AtLocked None s → AtLocked None (record s { locked = Some o })
at_locked-locked s o none h = at_locked-nobody (record s { locked = Some o }) (nobody_awake None s none h)

module _ (s : State) (i o : ℕ) (a : Access ℕ) (none : s.locked ≡ None) (h : AtLocked None s) where
  nobody_then : i < length s.tasks → (j : ℕ) → wait_if_awake (status_at (wait_in i (list_for o a) s) j) ≡ None
  nobody_then l j = by_test (eqb j i)
      (λ t.
      subst (λ (k : ℕ). wait_if_awake (status_at (wait_in i (list_for o a) s) k) ≡ None)
      (sym (eqb-same j i t)) (waits_now s i (list_for o a) l))
      (λ t.
      ap wait_if_awake (others_as_before s i (list_for o a) j (λ q. let u : eqb j i ≡ true = rw q (eqb-refl i) in absurd cc))
      ∙ nobody_awake None s none h j)

  pub at_locked-decides : (priority : ℕ) → i < length s.tasks
      → AtLocked (Some (record { task = i; list = list_for o a; priority = priority }))
      (lock i o Place (wait_in i (list_for o a) s))
  at_locked-decides priority l =
      let d : Option Decider = Some (record { task = i; list = list_for o a; priority = priority }) in
      let w : State = record (wait_in i (list_for o a) s) { call_hold = true; locked = Some o } in
      let begun : AtLocked d w = record { awake = (at_locked-nobody w (nobody_then l)).awake; to_place = is_locked-own o a } in
      at_locked_same d w (go_on i Place w) (same_go_on i Place w) begun

-- the one that wasn't placed yet is placed
pub at_locked-placed : (d : Option Decider) (s : State) → AtLocked d s → AtLocked None s
at_locked-placed d s h = record { awake = h.awake; to_place = tt }

-- the object is locked no more: nobody is Awake
pub nobody_awake-unlock : (d : Option Decider) (s : State) → AtLocked d s → (i : ℕ) → wait_if_awake (status_at (unlock s) i) ≡ None
unfolding unlock
nobody_awake-unlock d s h i = by_locked s.locked (λ j. h.awake j) where
  by_locked : (o : Option ℕ) → ((j : ℕ) → WokenAt o (wait_if_awake (status_at s j)))
      → wait_if_awake (status_at (for_one unlock_object o s) i) ≡ None
  by_locked None k = none_awake None (wait_if_awake (status_at s i)) refl (k i)
  by_locked (Some o) k = none_left (record s { locked = None }) o i (k i)

pub at_locked-unlock : (d : Option Decider) (s : State) → AtLocked d s → AtLocked None (unlock s)
at_locked-unlock d s h = at_locked-nobody (unlock s) (nobody_awake-unlock d s h)
