-- What a change of the lists is in the definitions.
use Rattle.std.proofs.Common.{◌≡◌, ℕ, ◌<◌, false, Option, Some, None, List, [], ◌∷◌, ◌++◌, set, length, map, sym, ◌∙◌, ap, subst}
use Rattle.std.proofs.Common.{arith, refl, eqb, ltb, get_or}
use Rattle.std.specs.List.{AllByRecursion, filter}
use Rattle.std.specs.Option.{IfSome, option_and_then}
use Rattle.std.proofs.lemmas.Bool.{ltb-false, ltb-true}
use Rattle.std.proofs.lemmas.Option.{same_Some}
use Rattle.lists.specs.Lists.{first_of, without}
use Rattle.lists.proofs.Entries.{none-some}
use Rattle.lists.proofs.Laws.{entries_of-without}
use Rattle.model.specs.declared.call.WaitList.{WaitList}
use Rattle.model.specs.State.{State, no_task, Status, Task, Ready, Suspended, task_at, status_at, take_ticket, with_status}
use Rattle.model.specs.State.{for_each}
use Rattle.model.specs.Order.{Key, Entry, entry, first, key, put, task_of}
use Rattle.model.specs.Switching.{make_ready}
use Rattle.model.specs.Waiting.{awaken, awake_status, wait_key, is_locked, waiters}
use Rattle.model.specs.Invariant.{HasTicketBelow, IsTable}
use Rattle.model.proofs.Sorting.{All-filtered, before_false, before_true, by_test}
use Rattle.model.proofs.Lists.{HasKey, list-entered, list-gone, list-kept, list_below, list_has, other}
use Rattle.model.proofs.Tables.{table-set, table-taken, ticket_at}
use Rattle.task_lists.specs.Priorities.{with_priorities}
use Rattle.objects.specs.WaitingLists.{number_of, waiting_in}
use Rattle.task_lists.specs.Tasks.{insert_by_priority}
use Rattle.objects.specs.WaitersStand.{Decider, WaitersStand, standing}
use Rattle.objects.proofs.Keys.{AwakeAtLocked, below_standing, standing_key, ticket_of-awake, wait_of-awake, waiters_all}

-- lists of entries, as tasks with their priorities

-- an entry whose ticket is above all goes after its equals
with_priorities-put : (e : Entry) (xs : List Entry) → AllByRecursion (λ (x : Entry). x.key.ticket < e.key.ticket) xs
    → with_priorities (put e xs) ≡ insert_by_priority (e.task, e.key.priority) (with_priorities xs)
with_priorities-put e [] h = refl
with_priorities-put e (x ∷ xs) h =
    let n = h.0 in
    by_test (ltb x.key.priority e.key.priority)
    (λ t. let lt = ltb-true x.key.priority e.key.priority t in
    rw (before_true e.key x.key (record { high = omega arith; early = λ le. absurd (omega arith) }), t) refl)
    (λ t. let le = ltb-false x.key.priority e.key.priority t in
    rw (before_false e.key x.key (record { low = le; late = λ ge. omega arith }), t)
    (ap (λ (l : List (ℕ × ℕ)). (x.task, x.key.priority) ∷ l) (with_priorities-put e xs h.1)))

with_priorities-filter : (i : ℕ) (xs : List Entry) → with_priorities (filter (other i) xs) ≡ without i (with_priorities xs)
with_priorities-filter i [] = refl
with_priorities-filter i (x ∷ xs) =
    by_test (eqb x.task i) (λ t. rw t (with_priorities-filter i xs))
    (λ t. rw t (ap (λ (l : List (ℕ × ℕ)). (x.task, x.key.priority) ∷ l) (with_priorities-filter i xs)))

-- a task that takes a ticket

module _ (s : State) (i : ℕ) (status : ℕ → Status) (h : IsTable s) (l : i < length s.tasks) (list : WaitList) where
  -- and is in the list with it
  pub standing-joined : (p : ℕ)
      → standing_key list (record (task_at s i) { status = status s.next_ticket }) ≡ Some (key p s.next_ticket)
      → with_priorities (standing (take_ticket i status s) list)
      ≡ insert_by_priority (i, p) (without i (with_priorities (standing s list)))
  standing-joined p is =
      let t : Task = record (task_at s i) { status = status s.next_ticket } in
      let b = below_standing s.next_ticket list s.tasks h.tickets in
      let k : Key = key p s.next_ticket in
      ap with_priorities (list-entered (standing_key list) k i t s.tasks l is b)
      ∙ with_priorities-put (entry i k) (filter (other i) (standing s list))
      (All-filtered (λ (x : Entry). x.key.ticket < s.next_ticket) (other i)
      (standing s list) (list_below (standing_key list) s.next_ticket s.tasks b))
      ∙ ap (insert_by_priority (i, p)) (with_priorities-filter i (standing s list))

  -- or isn't there
  pub standing-left : standing_key list (record (task_at s i) { status = status s.next_ticket }) ≡ None
      → with_priorities (standing (take_ticket i status s) list) ≡ without i (with_priorities (standing s list))
  standing-left is =
      let t : Task = record (task_at s i) { status = status s.next_ticket } in
      ap with_priorities (list-gone (standing_key list) i t s.tasks l is) ∙ with_priorities-filter i (standing s list)

-- a task that changes and keeps its place
pub stands_kept : (v : List (List (ℕ × ℕ))) (d : Option Decider) (s : State) (i : ℕ) (t : Task) → WaitersStand v d s
    → ((list : WaitList) → standing_key list t ≡ standing_key list (task_at s i)) → HasTicketBelow s.next_ticket t.status
    → WaitersStand v d (record s { tasks = set s.tasks i t })
stands_kept v d s i t h same below = record {
  lists = λ list. h.lists list ∙ sym (ap with_priorities (list-kept (standing_key list) i t s.tasks (same list)));
  table = table-set s i t h.table below;
}

-- A task that is woken through the locked object keeps its place.
pub standing-awakened : (s : State) (i : ℕ) (list : WaitList) → standing (awaken i s) list ≡ standing s list
standing-awakened s i list =
    list-kept (standing_key list) i (record (task_at s i) { status = awake_status (status_at s i) })
    s.tasks (ap (option_and_then (wait_key list)) (wait_of-awake (status_at s i)))

pub stands_awakened : (v : List (List (ℕ × ℕ))) (d : Option Decider) (s : State) (i : ℕ)
    → WaitersStand v d s → WaitersStand v d (awaken i s)
stands_awakened v d s i h =
    let u = status_at s i in
    record {
      lists = λ list. h.lists list ∙ sym (ap with_priorities (standing-awakened s i list));
      table = table-set s i (record (task_at s i) { status = awake_status u }) h.table
          (subst (λ (o : Option ℕ). IfSome o (λ ticket. ticket < s.next_ticket))
          (sym (ticket_of-awake u)) (ticket_at s.next_ticket i s.tasks h.table.tickets));
    }

-- Who becomes Ready is in no list: a wake of the best, a timeout.
pub stands_readied : (v : List (List (ℕ × ℕ))) (s : State) (i : ℕ) → WaitersStand v None s
    → i < length s.tasks → WaitersStand (map (without i) v) None (make_ready i s)
stands_readied v s i h l = record {
  lists = λ list.
      entries_of-without i (number_of list) v ∙ ap (without i) (h.lists list) ∙ sym (standing-left s i Ready h.table l list refl);
  table = table-taken s i Ready h.table (omega arith);
}

-- Likewise for a suspended task.
pub stands_suspended : (v : List (List (ℕ × ℕ))) (s : State) (i : ℕ) → WaitersStand v None s
    → i < length s.tasks → WaitersStand (map (without i) v) None (with_status i Suspended s)
stands_suspended v s i h l =
    let t : Task = record (task_at s i) { status = Suspended } in
    record {
      lists = λ list.
          entries_of-without i (number_of list) v ∙ ap (without i) (h.lists list)
          ∙ sym
          (ap with_priorities (list-gone (standing_key list) i t s.tasks l refl) ∙ with_priorities-filter i (standing s list));
      table = table-set s i t h.table tt;
    }

-- the best waiter

first_priorities : (es : List Entry) → first_of (with_priorities es) ≡ task_of (first es)
first_priorities [] = refl
first_priorities (e ∷ es) = refl

first_within : (f : Task → Option Key) (ts : List Task) (i : ℕ) (es : List Entry)
    → AllByRecursion (HasKey f ts) es → Some i ≡ first_of (with_priorities es) → i < length ts
first_within f ts i [] h e = absurd (none-some i (sym e))
first_within f ts i (x ∷ es) h e = subst (λ (k : ℕ). k < length ts) (sym (same_Some i x.task e)) h.0.within

first_key : (f : Task → Option Key) (ts : List Task) (i : ℕ) (es : List Entry) → AllByRecursion (HasKey f ts) es
    → Some i ≡ first_of (with_priorities es) → (k : Key) × (f (get_or ts i no_task) ≡ Some k)
first_key f ts i [] h e = absurd (none-some i (sym e))
first_key f ts i (x ∷ es) h e =
    (x.key, subst (λ (n : ℕ). f (get_or ts n no_task) ≡ Some x.key) (sym (same_Some i x.task e)) h.0.key)

module _ (v : List (List (ℕ × ℕ))) (s : State) (list : WaitList) (h : waiting_in v list ≡ with_priorities (standing s list)) where
  pub head_within : (i : ℕ) → Some i ≡ first_of (waiting_in v list) → i < length s.tasks
  head_within i e =
      first_within (standing_key list) s.tasks i (standing s list) (list_has (standing_key list) s.tasks) (e ∙ ap first_of h)

  pub head_key : (i : ℕ) → Some i ≡ first_of (waiting_in v list) → (k : Key) × (standing_key list (task_at s i) ≡ Some k)
  head_key i e =
      first_key (standing_key list) s.tasks i (standing s list) (list_has (standing_key list) s.tasks) (e ∙ ap first_of h)

  -- the first of the list, if its object isn't locked
  pub best_is : AwakeAtLocked s → is_locked s.locked list ≡ false → first_of (waiting_in v list) ≡ task_of (first (waiters s list))
  best_is awake shut =
      ap first_of h ∙ first_priorities (standing s list)
      ∙ ap (λ (es : List Entry). task_of (first es)) (sym (waiters_all s list shut awake))

-- many become Ready, one after another

pub each_more : (s : State) (is : List ℕ) (i : ℕ) → for_each make_ready (is ++ i ∷ []) s ≡ make_ready i (for_each make_ready is s)
each_more s [] i = refl
each_more s (j ∷ is) i = each_more (make_ready j s) is i
