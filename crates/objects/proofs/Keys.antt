-- The place of a task, by cases on its status and on the list.
use Rattle.std.proofs.Common.{◌≡◌, ◌≢◌, ℕ, ◌+◌, ◌<◌, true, false, Option, None, List, [], ◌∷◌, ◌++◌, refl, ap, ap₂, sym, ◌∙◌, arith}
use Rattle.std.proofs.Common.{get_or, length, suc}
use Rattle.std.specs.List.{AllByRecursion, cons_option}
use Rattle.std.specs.Option.{IfSome, option_and_then, option_map, option_to_list}
use Rattle.model.specs.declared.call.WaitList.{WaitList}
use Rattle.model.specs.declared.call.WaitList.TheVariants.{ToReceive, ToSend}
use Rattle.model.specs.State.{State, Status, Ready, Awake, Waiting, Asleep, WaitingForBits, WaitingForNotification, Suspended}
use Rattle.model.specs.State.{Ended, Task, Wait, no_task}
use Rattle.model.specs.State.{wait_if_waiting, wait_if_awake, ticket_of, status_at}
use Rattle.model.specs.Order.{Key, Entry, entry, in_order, keyed}
use Rattle.model.specs.Waiting.{same_list, wait_key, waiters, is_locked, awake_status}
use Rattle.model.specs.Invariant.{AllTicketsBelow, HasTicketBelow, wait_of}
use Rattle.model.proofs.Sorting.{by_test}
use Rattle.model.proofs.Lists.{Below, eqb-refl, eqb-same}
use Rattle.objects.specs.WaitingLists.{number_of}
use Rattle.objects.specs.WaitersStand.{standing}

-- lists and their numbers

pub same_list-true : (a b : WaitList) → same_list a b ≡ true → a ≡ b
same_list-true (ToReceive a) (ToReceive b) h = ap ToReceive (eqb-same a b h)
same_list-true (ToReceive a) (ToSend b) h = absurd (cc)
same_list-true (ToSend a) (ToReceive b) h = absurd (cc)
same_list-true (ToSend a) (ToSend b) h = ap ToSend (eqb-same a b h)

pub same_list-refl : (a : WaitList) → same_list a a ≡ true
same_list-refl (ToReceive a) = eqb-refl a
same_list-refl (ToSend a) = eqb-refl a

-- lists of one number are the same
one_list : (a b : WaitList) → number_of a ≡ number_of b → a ≡ b
one_list (ToReceive a) (ToReceive b) h = ap ToReceive (omega (arith, h))
one_list (ToReceive a) (ToSend b) h = absurd (omega (arith, h))
one_list (ToSend a) (ToReceive b) h = absurd (omega (arith, h))
one_list (ToSend a) (ToSend b) h = ap ToSend (omega (arith, h))

pub other_number : (a b : WaitList) → same_list a b ≡ false → number_of b ≢ number_of a
other_number a b shut = λ e.
    let same : a ≡ b = one_list a b (sym e) in
    let shown : same_list a b ≡ true = ap (same_list a) (sym same) ∙ same_list-refl a in
    cc (shown, shut)

-- keys

abbrev pub standing_key : WaitList → Task → Option Key
standing_key list t = option_and_then (wait_key list) (wait_of t.status)

abbrev pub waiting_key : WaitList → Task → Option Key
waiting_key list t = option_and_then (wait_key list) (wait_if_waiting t.status)

key_below : (n : ℕ) (list : WaitList) (w : Wait) → w.ticket < n
    → AllByRecursion (λ (k : Key). k.ticket < n) (cons_option (wait_key list w) [])
key_below n list w h = by_test (same_list w.list list) (λ t. rw t (h, tt)) (λ t. rw t tt)

standing_below : (n : ℕ) (list : WaitList) (u : Status) → HasTicketBelow n u
    → AllByRecursion (λ (k : Key). k.ticket < n) (cons_option (option_and_then (wait_key list) (wait_of u)) [])
standing_below n list (Ready m) h = tt
standing_below n list (Awake w) h = key_below n list w h
standing_below n list (Waiting w) h = key_below n list w h
standing_below n list (Asleep m b) h = tt
standing_below n list (WaitingForBits g m d) h = tt
standing_below n list (WaitingForNotification m d) h = tt
standing_below n list Suspended h = tt
standing_below n list Ended h = tt

pub below_standing : (n : ℕ) (list : WaitList) (ts : List Task) → AllTicketsBelow n ts → Below (standing_key list) n ts
below_standing n list [] h = tt
below_standing n list (t ∷ ts) h = (standing_below n list t.status h.0, below_standing n list ts h.1)

-- an awakening changes neither a task's place nor its ticket
pub wait_of-awake : (u : Status) → wait_of (awake_status u) ≡ wait_of u
wait_of-awake (Ready m) = refl
wait_of-awake (Awake w) = refl
wait_of-awake (Waiting w) = refl
wait_of-awake (Asleep m b) = refl
wait_of-awake (WaitingForBits g m d) = refl
wait_of-awake (WaitingForNotification m d) = refl
wait_of-awake Suspended = refl
wait_of-awake Ended = refl

pub ticket_of-awake : (u : Status) → ticket_of (awake_status u) ≡ ticket_of u
ticket_of-awake (Ready m) = refl
ticket_of-awake (Awake w) = refl
ticket_of-awake (Waiting w) = refl
ticket_of-awake (Asleep m b) = refl
ticket_of-awake (WaitingForBits g m d) = refl
ticket_of-awake (WaitingForNotification m d) = refl
ticket_of-awake Suspended = refl
ticket_of-awake Ended = refl

-- if an object isn't locked, all tasks that are there wait

abbrev pub AwakeAtLocked : State → Type 0
AwakeAtLocked s = (task : ℕ) → IfSome (wait_if_awake (status_at s task)) (λ w. is_locked s.locked w.list ≡ true)

locked_key : (s : State) (list : WaitList) (w : Wait) → is_locked s.locked list ≡ false
    → is_locked s.locked w.list ≡ true → wait_key list w ≡ None
locked_key s list w shut shown = by_test (same_list w.list list)
    (λ t.
    absurd (let e : is_locked s.locked w.list ≡ is_locked s.locked list = ap (is_locked s.locked) (same_list-true w.list list t) in
    cc (e, shown, shut)))
    (λ t. rw t refl)

waiting_same : (s : State) (list : WaitList) (u : Status) → is_locked s.locked list ≡ false
    → IfSome (wait_if_awake u) (λ w. is_locked s.locked w.list ≡ true)
    → option_and_then (wait_key list) (wait_if_waiting u) ≡ option_and_then (wait_key list) (wait_of u)
waiting_same s list (Ready m) shut h = refl
waiting_same s list (Awake w) shut h = sym (locked_key s list w shut h)
waiting_same s list (Waiting w) shut h = refl
waiting_same s list (Asleep m b) shut h = refl
waiting_same s list (WaitingForBits g m d) shut h = refl
waiting_same s list (WaitingForNotification m d) shut h = refl
waiting_same s list Suspended shut h = refl
waiting_same s list Ended shut h = refl

keyed_same : (f g : Task → Option Key) (o : ℕ) (ts : List Task)
    → ((i : ℕ) → i < length ts → f (get_or ts i no_task) ≡ g (get_or ts i no_task)) → keyed f o ts ≡ keyed g o ts
keyed_same f g o [] h = refl
keyed_same f g o (t ∷ ts) h =
    ap₂ (λ (k : Option Key) (es : List Entry). option_to_list (option_map (entry o) k) ++ es)
    (h 0 (omega arith)) (keyed_same f g (o + 1) ts (λ i l. h (suc i) (omega (arith, l))))

pub waiters_all : (s : State) (list : WaitList) → is_locked s.locked list ≡ false
    → AwakeAtLocked s → waiters s list ≡ standing s list
waiters_all s list shut h =
    ap in_order (keyed_same (waiting_key list) (standing_key list) 0 s.tasks
    (λ i l. waiting_same s list (get_or s.tasks i no_task).status shut (h i)))
