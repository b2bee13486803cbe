-- A task that was Awake is Ready after an unlock.
use Rattle.std.proofs.Common.{◌≡◌, ◌<◌, ◌||◌, ℕ, zero, suc, true, false, eqb, arith, List, [], ◌∷◌, ◌++◌, length, get_or, Option}
use Rattle.std.proofs.Common.{Some, None, refl, ap, sym, subst, ◌∙◌, get_or-set_same}
use Rattle.std.specs.Prelude.{Bool}
use Rattle.std.specs.Option.{IfSome, option_and_then, is_some}
use Rattle.std.proofs.Math.ListN.{length-set}
use Rattle.model.specs.declared.call.WaitList.{WaitList}
use Rattle.model.specs.declared.call.WaitList.TheVariants.{ToReceive, ToSend}
use Rattle.model.specs.State.{State, Task, Wait, Ready, ticket_if_ready, wait_if_awake, task_at, status_at, progress_at, for_each}
use Rattle.model.specs.State.{no_task}
use Rattle.model.specs.Order.{Key, Entry, key, tasks_of}
use Rattle.model.specs.Switching.{is_ready, make_ready}
use Rattle.model.specs.Waiting.{same_list, wait_key, awakened, is_locked}
use Rattle.model.specs.declared.op.Access.{Access}
use Rattle.model.specs.declared.op.Access.TheVariants.{Send, SendFront, Overwrite, Receive, Peek, Take, Give, Lock}
use Rattle.model.specs.Objects.{list_for}
use Rattle.model.proofs.Sorting.{by_test}
use Rattle.model.proofs.Lists.{eqb-refl, eqb-same}
use Rattle.model.proofs.Members.{has_task, has_task-key}
use Rattle.model.proofs.Tables.{each-set}
use Rattle.model.proofs.Statuses.{ready_not_woken}

same_list-refl : (list : WaitList) → same_list list list ≡ true
same_list-refl (ToReceive o) = eqb-refl o
same_list-refl (ToSend o) = eqb-refl o

-- a number is among these
among : ℕ → List ℕ → Bool
among i [] = false
among i (j ∷ js) = eqb j i || among i js

among-append : (i : ℕ) (js ks : List ℕ) → among i (js ++ ks) ≡ (among i js || among i ks)
unfolding among
among-append i [] ks = refl
among-append i (j ∷ js) ks = by_test (eqb j i) (λ t. rw t refl) (λ t. rw t (among-append i js ks))

among-tasks_of : (i : ℕ) (es : List Entry) → among i (tasks_of es) ≡ has_task i es
unfolding among
among-tasks_of i [] = refl
among-tasks_of i (e ∷ es) = ap (λ (b : Bool). eqb e.task i || b) (among-tasks_of i es)

still_ready : (s : State) (js : List ℕ) (i : ℕ) → is_ready s i ≡ true → is_ready (for_each make_ready js s) i ≡ true
still_ready s [] i r = r
still_ready s (j ∷ js) i r =
    let P : ℕ → Task → Type 0 = λ k t. k ≡ i → is_some (ticket_if_ready t.status) ≡ true in
    let one : is_ready (make_ready j s) i ≡ true =
    each-set no_task P s.tasks j (record (task_at s j) { status = Ready s.next_ticket })
    (λ _. refl) (λ k e. subst (λ (m : ℕ). is_ready s m ≡ true) (sym e) r) i refl in
    still_ready (make_ready j s) js i one

made_of : (s : State) (js : List ℕ) (i : ℕ) → i < length s.tasks → among i js ≡ true → is_ready (for_each make_ready js s) i ≡ true
unfolding among
made_of s [] i l t = absurd (cc)
made_of s (j ∷ js) i l t = by_test (eqb j i)
    (λ e.
    let same : j ≡ i = eqb-same j i e in
    let R : Task → Type 0 = λ u. is_some (ticket_if_ready u.status) ≡ true in
    let one : is_ready (make_ready i s) i ≡ true =
    subst R (sym (get_or-set_same s.tasks i (record (task_at s i) { status = Ready s.next_ticket }) no_task l)) refl in
    still_ready (make_ready j s) js i (subst (λ k. is_ready (make_ready k s) i ≡ true) (sym same) one))
    (λ e. made_of (make_ready j s) js i (rw length-set l) (rw e at t))

not_woken_still : (s : State) (js : List ℕ) (i : ℕ) → wait_if_awake (status_at s i) ≡ None
    → wait_if_awake (status_at (for_each make_ready js s) i) ≡ None
not_woken_still s [] i n = n
not_woken_still s (j ∷ js) i n =
    let P : ℕ → Task → Type 0 = λ k t. k ≡ i → wait_if_awake t.status ≡ None in
    not_woken_still (make_ready j s) js i (each-set no_task P s.tasks j (record (task_at s j) { status = Ready s.next_ticket })
    (λ _. refl) (λ k e. subst (λ (m : ℕ). wait_if_awake (status_at s m) ≡ None) (sym e) n) i refl)

-- the tasks that the unlock of an object makes Ready
abbrev pub opened_by : State → ℕ → List ℕ
opened_by s o = tasks_of (awakened s (ToReceive o)) ++ tasks_of (awakened s (ToSend o))

unfoldable pub awake_key : WaitList → Task → Option Key
awake_key list t = option_and_then (wait_key list) (wait_if_awake t.status)

awake_keyed : (s : State) (i : ℕ) (w : Wait) → wait_if_awake (status_at s i) ≡ Some w
    → awake_key w.list (task_at s i) ≡ Some (key w.priority w.ticket)
unfolding awake_key
awake_keyed s i w e = ap (option_and_then (wait_key w.list)) e ∙ (let t = same_list-refl w.list in rw t refl)

awake_among : (s : State) (i : ℕ) (w : Wait) → wait_if_awake (status_at s i) ≡ Some w
    → among i (tasks_of (awakened s w.list)) ≡ true
unfolding awake_key
awake_among s i w e =
    among-tasks_of i (awakened s w.list)
    ∙ has_task-key (awake_key w.list) refl i (key w.priority w.ticket) s.tasks (awake_keyed s i w e)

or_left : (a b : Bool) → a ≡ true → (a || b) ≡ true
or_left true b e = refl
or_left false b e = absurd (cc)

or_right : (a b : Bool) → b ≡ true → (a || b) ≡ true
or_right true b e = refl
or_right false b e = e

of_locked : (s : State) (o i : ℕ) (list : WaitList) → is_locked (Some o) list ≡ true
    → among i (tasks_of (awakened s list)) ≡ true → among i (opened_by s o) ≡ true
of_locked s o i (ToReceive p) t a =
    let same : o ≡ p = eqb-same o p t in
    let b : among i (tasks_of (awakened s (ToReceive o))) ≡ true = rw same a in
    among-append i (tasks_of (awakened s (ToReceive o))) (tasks_of (awakened s (ToSend o))) ∙ or_left _ _ b
of_locked s o i (ToSend p) t a =
    let same : o ≡ p = eqb-same o p t in
    let b : among i (tasks_of (awakened s (ToSend o))) ≡ true = rw same a in
    among-append i (tasks_of (awakened s (ToReceive o))) (tasks_of (awakened s (ToSend o)))
    ∙ or_right (among i (tasks_of (awakened s (ToReceive o)))) _ b

awake_within : (ts : List Task) (i : ℕ) (w : Wait) → wait_if_awake (get_or ts i no_task).status ≡ Some w → i < length ts
awake_within [] i w e = absurd (cc)
awake_within (t ∷ ts) zero w e = omega arith
awake_within (t ∷ ts) (suc i) w e = let l = awake_within ts i w e in omega arith

-- nobody is Awake any more
pub none_left : (s : State) (o i : ℕ) → IfSome (wait_if_awake (status_at s i)) (λ w. is_locked (Some o) w.list ≡ true)
    → wait_if_awake (status_at (for_each make_ready (opened_by s o) s) i) ≡ None
none_left s o i h = by_wait (wait_if_awake (status_at s i)) refl h where
  by_wait : (w : Option Wait) → wait_if_awake (status_at s i) ≡ w → IfSome w (λ w. is_locked (Some o) w.list ≡ true)
      → wait_if_awake (status_at (for_each make_ready (opened_by s o) s) i) ≡ None
  by_wait None e h = not_woken_still s (opened_by s o) i e
  by_wait (Some w) e h =
      ready_not_woken (status_at (for_each make_ready (opened_by s o) s) i)
      (made_of s (opened_by s o) i (awake_within s.tasks i w e) (of_locked s o i w.list h (awake_among s i w e)))

-- and nobody is further in a script
pub still_at : (s : State) (js : List ℕ) (i : ℕ) → progress_at (for_each make_ready js s) i ≡ progress_at s i
still_at s [] i = refl
still_at s (j ∷ js) i =
    let P : ℕ → Task → Type 0 = λ k t. k ≡ i → t.progress ≡ progress_at s i in
    let own : j ≡ i → progress_at s j ≡ progress_at s i = ap (progress_at s) in
    still_at (make_ready j s) js i
    ∙ each-set no_task P s.tasks j (record (task_at s j) { status = Ready s.next_ticket }) own (λ k. ap (progress_at s)) i refl

pub locked-all_ready : (s : State) (js : List ℕ) → (for_each make_ready js s).locked ≡ s.locked
locked-all_ready s [] = refl
locked-all_ready s (j ∷ js) = locked-all_ready (make_ready j s) js

pub current-all_ready : (s : State) (js : List ℕ) → (for_each make_ready js s).current ≡ s.current
current-all_ready s [] = refl
current-all_ready s (j ∷ js) = current-all_ready (make_ready j s) js

-- if nothing is locked no task is Awake
unlocked_none : (list : WaitList) → is_locked None list ≡ true → ⊥
unlocked_none (ToReceive o) t = absurd (cc)
unlocked_none (ToSend o) t = absurd (cc)

pub none_awake : (locked : Option ℕ) (o : Option Wait) → locked ≡ None → IfSome o (λ w. is_locked locked w.list ≡ true) → o ≡ None
none_awake locked None e h = refl
none_awake locked (Some w) e h = absurd (unlocked_none w.list (subst (λ l. is_locked l w.list ≡ true) e h))

pub is_locked-own : {Item : Type 0} (o : ℕ) (a : Access Item) → is_locked (Some o) (list_for o a) ≡ true
is_locked-own o (Send v) = eqb-refl o
is_locked-own o (SendFront v) = eqb-refl o
is_locked-own o (Overwrite v) = eqb-refl o
is_locked-own o Receive = eqb-refl o
is_locked-own o Peek = eqb-refl o
is_locked-own o Take = eqb-refl o
is_locked-own o Give = eqb-refl o
is_locked-own o Lock = eqb-refl o
