-- The members of a waiting list: the waiting tasks, but not the one that isn't placed yet.
use Rattle.std.proofs.Common.{◌≡◌, ◌≢◌, ℕ, zero, suc, ◌+◌, get_or, ◌&&◌, ◌||◌, Bool, true, false, not, List, [], ◌∷◌, Option, Some}
use Rattle.std.proofs.Common.{None, refl, ap, sym, subst, ◌∙◌, arith, eqb}
use Rattle.std.specs.Prelude.{nat_lt, ◌==◌}
use Rattle.std.specs.List.{AllByRecursion}
use Rattle.std.specs.Option.{is_some, option_and_then}
use Rattle.lists.specs.Lists.{Apart, EachOnce, IsSound, entries_of, has_node, place_of}
use Rattle.lists.proofs.Entries.{apart_from_test, has_node-apart, has_node-other, has_node-same}
use Rattle.lists.proofs.Laws.{place_of-None}
use Rattle.model.specs.declared.call.WaitList.{WaitList}
use Rattle.model.specs.declared.call.WaitList.TheVariants.{ToReceive, ToSend}
use Rattle.model.specs.State.{State, Task, Wait, no_task, task_at, status_at}
use Rattle.model.specs.Invariant.{wait_of}
use Rattle.model.specs.Order.{Key, Entry, key}
use Rattle.model.specs.Waiting.{same_list, wait_key}
use Rattle.model.proofs.Sorting.{by_test}
use Rattle.model.proofs.Lists.{HasKey, eqb-refl, eqb-same, list_has, list_without}
use Rattle.model.proofs.Members.{has_task-key}
use Rattle.task_lists.specs.Priorities.{with_priorities}
use Rattle.task_lists.proofs.Priorities.{has_node-with_priorities}
use Rattle.objects.specs.Places.{list_places}
use Rattle.objects.specs.WaitingLists.{number_of, waiting_in}
use Rattle.task_lists.specs.Tasks.{insert_by_priority}
use Rattle.objects.specs.WaitersStand.{Decider, standing}
use Rattle.objects.specs.Objects.{Objects, StandsFor}
use Rattle.objects.proofs.Keys.{same_list-refl, same_list-true, standing_key}
use Rattle.objects.proofs.Counting.{Distinct, distinct_from, stands_once}
use Rattle.objects.proofs.Waking.{apart_inserted, apart_priorities}

-- each number is that of a list
list_at : (l : ℕ) → (list : WaitList) × (number_of list ≡ l)
list_at zero = (ToReceive 0, refl)
list_at (suc l) = next (list_at l).0 (list_at l).1 where
  next : (list : WaitList) → number_of list ≡ l → (list : WaitList) × (number_of list ≡ suc l)
  next (ToReceive o) e = (ToSend o, omega (arith, e))
  next (ToSend o) e = (ToReceive (o + 1), omega (arith, e))

-- a task that is apart from each list is in no place
pub no_place : (v : List (List (ℕ × ℕ))) (i : ℕ) → ((list : WaitList) → Apart (Some i) (waiting_in v list)) → place_of v i ≡ None
no_place v i absent =
    place_of-None i v (λ l below. let r = list_at l in subst (λ (k : ℕ). Apart (Some i) (entries_of v k)) r.1 (absent r.0))

-- ---- an entry put among others

has_node-inserted : (i : ℕ) (e : ℕ × ℕ) (xs : List (ℕ × ℕ)) → e.0 ≢ i → has_node i (insert_by_priority e xs) ≡ has_node i xs
has_node-inserted i e [] ne = has_node-other i e [] ne
has_node-inserted i e (x ∷ xs) ne = by_test (nat_lt x.1 e.1)
    (λ t. rw t (has_node-other i e (x ∷ xs) ne))
    (λ t. rw t (ap (λ (b : Bool). x.0 == i || b) (has_node-inserted i e xs ne)))

inserted-has : (e : ℕ × ℕ) (xs : List (ℕ × ℕ)) → has_node e.0 (insert_by_priority e xs) ≡ true
inserted-has e [] = has_node-same e.0 e [] refl
inserted-has e (x ∷ xs) = by_test (nat_lt x.1 e.1)
    (λ t. rw t (has_node-same e.0 e (x ∷ xs) refl))
    (λ t. rw t (ap (λ (b : Bool). x.0 == e.0 || b) (inserted-has e xs) ∙ or-true (x.0 == e.0))) where
      or-true : (b : Bool) → (b || true) ≡ true
      or-true true = refl
      or-true false = refl

once_inserted : (e : ℕ × ℕ) (xs : List (ℕ × ℕ)) → EachOnce (insert_by_priority e xs) → Apart (Some e.0) xs
once_inserted e [] h = tt
once_inserted e (x ∷ xs) h = by_test (nat_lt x.1 e.1)
    (λ t. let k = rw t at h in k.0)
    (λ t. let k = rw t at h in let r = apart_inserted x.0 e xs k.0 in ((λ q. r.0 (sym q)), once_inserted e xs k.1))

once_priorities : (es : List Entry) → Distinct es → EachOnce (with_priorities es)
once_priorities [] d = tt
once_priorities (e ∷ es) d = (apart_priorities e.task es d.0, once_priorities es d.1)

-- ---- the tasks in a list

standing_apart : (s : State) (i : ℕ) (list : WaitList) → standing_key list (task_at s i) ≡ None
    → Apart (Some i) (with_priorities (standing s list))
standing_apart s i list none = apart_priorities i (standing s list) (list_without (standing_key list) i s.tasks none)

standing_has : (s : State) (i : ℕ) (list : WaitList) (k : Key)
    → standing_key list (task_at s i) ≡ Some k → has_node i (with_priorities (standing s list)) ≡ true
standing_has s i list k is = has_node-with_priorities i (standing s list) ∙ has_task-key (standing_key list) refl i k s.tasks is

has_key : (f : Task → Option Key) (ts : List Task) (i : ℕ) (es : List Entry) → AllByRecursion (HasKey f ts) es
    → has_node i (with_priorities es) ≡ true → (k : Key) × (f (get_or ts i no_task) ≡ Some k)
has_key f ts i [] h e = absurd cc
has_key f ts i (x ∷ es) h e = by_test (eqb x.task i)
    (λ t. (x.key, subst (λ (n : ℕ). f (get_or ts n no_task) ≡ Some x.key) (eqb-same x.task i t) h.0.key))
    (λ t. has_key f ts i es h.1 (rw t at e))

no_wait : (s : State) (i : ℕ) (list : WaitList) → wait_of (status_at s i) ≡ None → standing_key list (task_at s i) ≡ None
no_wait s i list none = ap (option_and_then (wait_key list)) none

-- ---- every task is placed

module _ (v : Objects) (s : State) (h : StandsFor v None s) (i : ℕ) where
  pub absent : wait_of (status_at s i) ≡ None → (list : WaitList) → Apart (Some i) (waiting_in v.waiting list)
  absent none list = subst (Apart (Some i)) (sym (h.waiters.lists list)) (standing_apart s i list (no_wait s i list none))

  -- a task that doesn't wait is in no list
  pub free : wait_of (status_at s i) ≡ None → place_of v.waiting i ≡ None
  free none = no_place v.waiting i (absent none)

-- ---- one is still to be placed

module _ (v : Objects) (s : State) (d : Decider) (h : StandsFor v (Some d) s) where
  own : insert_by_priority (d.task, d.priority) (waiting_in v.waiting d.list) ≡ with_priorities (standing s d.list)
  own = let was = h.waiters.lists d.list in rw (same_list-refl d.list) at was

  elsewhere : (list : WaitList) → same_list d.list list ≡ false → waiting_in v.waiting list ≡ with_priorities (standing s list)
  elsewhere list t = let was = h.waiters.lists list in rw t at was

  still_absent : (list : WaitList) → Apart (Some d.task) (waiting_in v.waiting list)
  still_absent list = by_test (same_list d.list list)
      (λ t. subst (λ (q : WaitList). Apart (Some d.task) (waiting_in v.waiting q)) (same_list-true d.list list t)
      (once_inserted (d.task, d.priority) (waiting_in v.waiting d.list)
      (subst EachOnce (sym own) (once_priorities (standing s d.list) (distinct_from (standing_key d.list) 0 s.tasks)))))
      (λ t.
      let there : has_node d.task (with_priorities (standing s d.list)) ≡ true =
      ap (has_node d.task) (sym own) ∙ inserted-has (d.task, d.priority) (waiting_in v.waiting d.list) in
      let k = has_key (standing_key d.list) s.tasks d.task (standing s d.list) (list_has (standing_key d.list) s.tasks) there in
      subst (Apart (Some d.task)) (sym (elsewhere list t))
      (standing_apart s d.task list (stands_once d.list list k.0 (status_at s d.task) k.1 t)))

  -- it is in no list yet
  pub still_free : place_of v.waiting d.task ≡ None
  still_free = no_place v.waiting d.task still_absent

  -- any other keeps its place
  pub others_listed : (i : ℕ) → d.task ≢ i → (list : WaitList)
      → has_node i (waiting_in v.waiting list) ≡ has_node i (with_priorities (standing s list))
  others_listed i ne list = by_test (same_list d.list list)
      (λ t.
      subst (λ (q : WaitList). has_node i (waiting_in v.waiting q) ≡ has_node i (with_priorities (standing s q)))
      (same_list-true d.list list t)
      (sym (has_node-inserted i (d.task, d.priority) (waiting_in v.waiting d.list) ne) ∙ ap (has_node i) own))
      (λ t. ap (has_node i) (elsewhere list t))

-- ---- whether a task is in a list

wait_cases : (o : Option Wait) → (P : Option Wait → Type 0) → (o ≡ None → P None) → ((w : Wait) → o ≡ Some w → P (Some w)) → P o
wait_cases None P n w = n refl
wait_cases (Some x) P n w = w x refl

-- It is, if it waits.
pub waiting_is : (v : List (List (ℕ × ℕ))) (s : State) (i : ℕ) → IsSound list_places 32 v
    → ((list : WaitList) → has_node i (waiting_in v list) ≡ has_node i (with_priorities (standing s list)))
    → is_some (place_of v i) ≡ is_some (wait_of (status_at s i))
waiting_is v s i sound listed = wait_cases (wait_of (status_at s i)) (λ o. is_some (place_of v i) ≡ is_some o)
    (λ none.
    ap is_some (no_place v i (λ list.
    apart_from_test i (waiting_in v list)
    (listed list ∙ has_node-apart i (with_priorities (standing s list)) (standing_apart s i list (no_wait s i list none))))))
    (λ w is.
    let keyed : standing_key w.list (task_at s i) ≡ Some (key w.priority w.ticket) =
    ap (option_and_then (wait_key w.list)) is ∙ (let t = same_list-refl w.list in rw t refl) in
    ap is_some (sound.one_place i (number_of w.list) (listed w.list ∙ standing_has s i w.list (key w.priority w.ticket) keyed)))

pub stands_waiting : (v : Objects) (s : State) (i : ℕ) → IsSound list_places 32 v.waiting
    → StandsFor v None s → is_some (place_of v.waiting i) ≡ is_some (wait_of (status_at s i))
stands_waiting v s i sound h = waiting_is v.waiting s i sound (λ list. ap (has_node i) (h.waiters.lists list))

pub stands_placing : (v : Objects) (s : State) (d : Decider) (i : ℕ) → IsSound list_places 32 v.waiting
    → StandsFor v (Some d) s → is_some (place_of v.waiting i) ≡ (not (i == d.task) && is_some (wait_of (status_at s i)))
stands_placing v s d i sound h = by_test (i == d.task)
    (λ t. rw t (ap is_some (subst (λ (k : ℕ). place_of v.waiting k ≡ None) (sym (eqb-same i d.task t)) (still_free v s d h))))
    (λ t.
    rw t (waiting_is v.waiting s i sound
    (others_listed v s d h i (λ e. let u : eqb i d.task ≡ true = rw e (eqb-refl i) in absurd cc))))
