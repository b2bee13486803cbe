-- Waits at objects, and what their ends do, leave the waits for bits as they are.
use Rattle.std.proofs.Common.{◌≡◌, ℕ, true, ◌++◌, List, [], ◌∷◌, Option, Some, None, refl, ◌∙◌}
use Rattle.std.specs.List.{AllByRecursion}
use Rattle.std.specs.Option.{option_and_then}
use Rattle.model.specs.declared.call.CallProgress.{CallProgress}
use Rattle.model.specs.declared.call.WaitList.{WaitList}
use Rattle.model.specs.declared.call.WaitList.TheVariants.{ToReceive, ToSend}
use Rattle.model.specs.State.{State, Status, Task, Ready, Awake, Waiting, Asleep, WaitingForBits, WaitingForNotification, Suspended}
use Rattle.model.specs.State.{Ended, wait_if_awake}
use Rattle.model.specs.State.{wait_if_waiting, call_at, status_at, task_at, with_call, take_ticket, for_one}
use Rattle.model.specs.Order.{Entry, Key, first, task_of, tasks_of}
use Rattle.model.specs.Waiting.{awake_status, awaken, awakened, is_locked, unlock, unlock_object, wait_in, wait_key, waiters}
use Rattle.model.specs.Waiting.{wake_best, wake_one}
use Rattle.model.proofs.Sorting.{by_test}
use Rattle.model.proofs.Lists.{HasKey, list_has}
use Rattle.groups.specs.StandsFor.{SameEventWaits, event_wait}
use Rattle.groups.proofs.Kept.{same, same_all_ready, same_both, same_call, same_parts, same_ready, same_status, same_ticket}

-- ---- a wait begins

pub same_wait_in : (i : ℕ) (list : WaitList) (s : State) → event_wait (status_at s i) ≡ None → SameEventWaits s (wait_in i list s)
unfolding wait_in
same_wait_in i list s was =
    let call : CallProgress = record (call_at s i) { waits = true } in
    let s1 : State = with_call i call s in
    let k : SameEventWaits s s1 = same_call i call s refl in
    let status : ℕ → Status = λ ticket.
    Waiting (record { list = list; priority = (task_at s i).priority; ticket = ticket; deadline = (call_at s i).deadline }) in
    same_both s s1 (take_ticket i status s1) k (same_ticket i status s1 refl (k.waits i ∙ was))

-- ---- a task is woken that doesn't wait for bits

awake_waits_not : (u : Status) → event_wait u ≡ None → event_wait (awake_status u) ≡ None
awake_waits_not (Ready n) none = refl
awake_waits_not (Awake w) none = refl
awake_waits_not (Waiting w) none = refl
awake_waits_not (Asleep w n) none = refl
awake_waits_not (WaitingForBits g n d) none = absurd cc
awake_waits_not (WaitingForNotification n d) none = absurd cc
awake_waits_not Suspended none = refl
awake_waits_not Ended none = refl

pub same_awaken : (i : ℕ) (s : State) → event_wait (status_at s i) ≡ None → SameEventWaits s (awaken i s)
same_awaken i s was = same_status i (awake_status (status_at s i)) s (awake_waits_not (status_at s i) was) was

pub same_wake_one : (i : ℕ) (list : WaitList) (s : State) → event_wait (status_at s i) ≡ None → SameEventWaits s (wake_one i list s)
same_wake_one i list s was = by_test (is_locked s.locked list) (λ t. rw t (same_awaken i s was)) (λ t. rw t (same_ready i s was))

-- a task that waits at an object doesn't wait for bits

waiter_elsewhere : (list : WaitList) (u : Status) (k : Key)
    → option_and_then (wait_key list) (wait_if_waiting u) ≡ Some k → event_wait u ≡ None
waiter_elsewhere list (Ready n) k e = refl
waiter_elsewhere list (Awake w) k e = refl
waiter_elsewhere list (Waiting w) k e = refl
waiter_elsewhere list (Asleep w n) k e = refl
waiter_elsewhere list (WaitingForBits g n d) k e = absurd cc
waiter_elsewhere list (WaitingForNotification n d) k e = absurd cc
waiter_elsewhere list Suspended k e = refl
waiter_elsewhere list Ended k e = refl

awake_elsewhere : (list : WaitList) (u : Status) (k : Key)
    → option_and_then (wait_key list) (wait_if_awake u) ≡ Some k → event_wait u ≡ None
awake_elsewhere list (Ready n) k e = refl
awake_elsewhere list (Awake w) k e = refl
awake_elsewhere list (Waiting w) k e = absurd cc
awake_elsewhere list (Asleep w n) k e = refl
awake_elsewhere list (WaitingForBits g n d) k e = absurd cc
awake_elsewhere list (WaitingForNotification n d) k e = absurd cc
awake_elsewhere list Suspended k e = refl
awake_elsewhere list Ended k e = refl

same_first : (list : WaitList) (s : State) (es : List Entry)
    → AllByRecursion (HasKey (λ (t : Task). option_and_then (wait_key list) (wait_if_waiting t.status)) s.tasks) es
    → SameEventWaits s (for_one (λ task. wake_one task list) (task_of (first es)) s)
same_first list s [] h = same s
same_first list s (e ∷ es) h = same_wake_one e.task list s (waiter_elsewhere list (status_at s e.task) e.key h.0.key)

pub same_wake_best : (list : WaitList) (s : State) → SameEventWaits s (wake_best list s)
unfolding wake_best
same_wake_best list s =
    same_first list s (waiters s list) (list_has (λ (t : Task). option_and_then (wait_key list) (wait_if_waiting t.status)) s.tasks)

-- ---- an object is unlocked

awakened_free : (list : WaitList) (s : State) (es : List Entry)
    → AllByRecursion (HasKey (λ (t : Task). option_and_then (wait_key list) (wait_if_awake t.status)) s.tasks) es
    → AllByRecursion (λ i. event_wait (status_at s i) ≡ None) (tasks_of es)
awakened_free list s [] h = tt
awakened_free list s (e ∷ es) h = (awake_elsewhere list (status_at s e.task) e.key h.0.key, awakened_free list s es h.1)

all_of_both : (P : ℕ → Type 0) (is js : List ℕ) → AllByRecursion P is → AllByRecursion P js → AllByRecursion P (is ++ js)
all_of_both P [] js h k = k
all_of_both P (i ∷ is) js h k = (h.0, all_of_both P is js h.1 k)

same_unlock_object : (object : ℕ) (s : State) → SameEventWaits s (unlock_object object s)
same_unlock_object object s =
    let opened : State = record s { locked = None } in
    let of_list : (list : WaitList) → AllByRecursion (λ i. event_wait (status_at s i) ≡ None) (tasks_of (awakened s list)) = λ list.
    awakened_free list s (awakened s list)
    (list_has (λ (t : Task). option_and_then (wait_key list) (wait_if_awake t.status)) s.tasks) in
    let is : List ℕ = tasks_of (awakened s (ToReceive object)) in
    let js : List ℕ = tasks_of (awakened s (ToSend object)) in
    same_both s opened (unlock_object object s) (same_parts s opened refl refl)
    (same_all_ready (is ++ js) opened
    (all_of_both (λ i. event_wait (status_at s i) ≡ None) is js (of_list (ToReceive object)) (of_list (ToSend object))))

same_unlock_one : (o : Option ℕ) (s : State) → SameEventWaits s (for_one unlock_object o s)
same_unlock_one None s = same s
same_unlock_one (Some object) s = same_unlock_object object s

pub same_unlock : (s : State) → SameEventWaits s (unlock s)
unfolding unlock
same_unlock s = same_unlock_one s.locked s
