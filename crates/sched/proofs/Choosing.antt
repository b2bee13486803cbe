-- The ready lists of a state, as a task is chosen, blocked or suspended.
use Rattle.std.proofs.Common.{◌≡◌, ◌≢◌, ◌+◌, ℕ, ◌<◌, inl, inr, Bool, true, false, Some, List, ◌∷◌, []}
use Rattle.std.proofs.Common.{get_or, set, length, sym, ◌∙◌, ap, subst, arith, refl, eqb, ltb}
use Rattle.std.specs.Prelude.{if◌then◌else◌}
use Rattle.std.specs.List.{AllByRecursion, filter}
use Rattle.std.specs.Option.{is_some}
use Rattle.std.proofs.lemmas.Bool.{cases_eq, ltb-false, ltb-true}
use Rattle.std.proofs.lemmas.List.{get_or-set_other, get_or-set_same}
use Rattle.model.specs.Suspension.{can_resume}
use Rattle.model.specs.State.{State, Status, Task, Ready, Awake, Waiting, Asleep, WaitingForBits, WaitingForNotification, Suspended}
use Rattle.model.specs.State.{Ended, no_task}
use Rattle.model.specs.State.{task_at, status_at, ticket_if_ready}
use Rattle.model.specs.Order.{Entry, entry, key, list_by, put}
use Rattle.model.specs.Switching.{make_ready, ready_key, ready_list}
use Rattle.model.specs.Invariant.{IsTable}
use Rattle.model.proofs.Sorting.{All-filtered, before_false, before_true, by_test}
use Rattle.model.proofs.Lists.{list-entered, list_below, other}
use Rattle.model.proofs.Tables.{below_ready, table-make_ready, each-set}
use Rattle.lists.specs.Lists.{without}
use Rattle.task_lists.specs.Priorities.{with_priorities}
use Rattle.sched.specs.Schedule as mine
use Rattle.sched.specs.Schedule.{Schedule, is_suspended, priority_in}
use Rattle.task_lists.specs.Tasks.{insert_by_priority}
use Rattle.sched.specs.StandsFor.{StandsFor, task_holds_of}
use Rattle.sched.proofs.LinedUp.{lined_up_calm}

-- how often tasks hold the scheduler, and whether a call does
abbrev pub holds_of : State → ℕ × Bool
holds_of s = (task_holds_of s, s.call_hold)

-- how often it is held then
abbrev pub depth_by : ℕ × Bool → ℕ
depth_by holds = holds.0 + (if holds.1 then 1 else 0)

-- the ready list, as tasks with their priorities

-- an entry whose ticket is above all goes after its equals
with_priorities-put : (e : Entry) (xs : List Entry) → AllByRecursion (λ (x : Entry). x.key.ticket < e.key.ticket) xs
    → with_priorities (put e xs) ≡ insert_by_priority (e.task, e.key.priority) (with_priorities xs)
with_priorities-put e [] h = refl
with_priorities-put e (x ∷ xs) h =
    let n = h.0 in
    by_test (ltb x.key.priority e.key.priority)
    (λ t. let lt = ltb-true x.key.priority e.key.priority t in
    rw (before_true e.key x.key (record { high = omega arith; early = λ le. absurd (omega arith) }), t) refl)
    (λ t. let le = ltb-false x.key.priority e.key.priority t in
    rw (before_false e.key x.key (record { low = le; late = λ ge. omega arith }), t)
    (ap (λ (l : List (ℕ × ℕ)). (x.task, x.key.priority) ∷ l) (with_priorities-put e xs h.1)))

pub with_priorities-filter : (i : ℕ) (xs : List Entry) → with_priorities (filter (other i) xs) ≡ without i (with_priorities xs)
with_priorities-filter i [] = refl
with_priorities-filter i (x ∷ xs) =
    by_test (eqb x.task i) (λ t. rw t (with_priorities-filter i xs))
    (λ t. rw t (ap (λ (l : List (ℕ × ℕ)). (x.task, x.key.priority) ∷ l) (with_priorities-filter i xs)))

-- a task that becomes Ready with the next ticket goes after its equals
pub ready_list-entered : (s new : State) (i p : ℕ) (t : Task) → IsTable s → i < length s.tasks
    → new.tasks ≡ set s.tasks i t → ready_key t ≡ Some (key p s.next_ticket)
    → with_priorities (ready_list new) ≡ insert_by_priority (i, p) (without i (with_priorities (ready_list s)))
ready_list-entered s new i p t h l is ready =
    let b = below_ready s.next_ticket s.tasks h.tickets in
    let k = key p s.next_ticket in
    ap (λ ts. with_priorities (list_by ready_key ts)) is
    ∙ ap with_priorities (list-entered ready_key k i t s.tasks l ready b)
    ∙ with_priorities-put (entry i k) (filter (other i) (ready_list s))
    (All-filtered (λ (x : Entry). x.key.ticket < s.next_ticket) (other i)
    (ready_list s) (list_below ready_key s.next_ticket s.tasks b))
    ∙ ap (insert_by_priority (i, p)) (with_priorities-filter i (ready_list s))

pub ready_list-make_ready : (s : State) (i : ℕ) → IsTable s → i < length s.tasks
    → with_priorities (ready_list (make_ready i s))
    ≡ insert_by_priority (i, (task_at s i).priority) (without i (with_priorities (ready_list s)))
ready_list-make_ready s i h l =
    ready_list-entered s (make_ready i s) i (task_at s i).priority
    (record (task_at s i) { status = Ready s.next_ticket }) h l refl refl

-- these are each task's numbers still, if the task that changes keeps its own
pub numbers_kept : (number : Task → ℕ) (ns : List ℕ) (s new : State) (i : ℕ) (t : Task)
    → ((j : ℕ) → priority_in ns j ≡ number (task_at s j)) → new.tasks ≡ set s.tasks i t
    → number t ≡ number (task_at s i) → (j : ℕ) → priority_in ns j ≡ number (task_at new j)
numbers_kept number ns s new i t h is same =
    subst (λ (ts : List Task). (j : ℕ) → priority_in ns j ≡ number (get_or ts j no_task)) (sym is)
    (each-set no_task (λ j u. priority_in ns j ≡ number u) s.tasks i t (h i ∙ sym same) h)

-- the same if a task becomes Ready
pub numbers_readied : (number : Task → ℕ) (ns : List ℕ) (s : State) (i : ℕ) → ((j : ℕ) → priority_in ns j ≡ number (task_at s j))
    → number (record (task_at s i) { status = Ready s.next_ticket }) ≡ number (task_at s i) → (j : ℕ)
    → priority_in ns j ≡ number (task_at (make_ready i s) j)
numbers_readied number ns s i h same =
    numbers_kept number ns s (make_ready i s) i (record (task_at s i) { status = Ready s.next_ticket }) h refl same

-- these still say which tasks are suspended, if the task that changes is so as before
pub suspended_kept : (f : ℕ → Bool) (s new : State) (i : ℕ) (t : Task) → ((j : ℕ) → f j ≡ can_resume (status_at s j))
    → new.tasks ≡ set s.tasks i t → can_resume t.status ≡ can_resume (status_at s i) → (j : ℕ) → f j ≡ can_resume (status_at new j)
suspended_kept f s new i t h is same =
    subst (λ (ts : List Task). (j : ℕ) → f j ≡ can_resume (get_or ts j no_task).status) (sym is)
    (each-set no_task (λ j u. f j ≡ can_resume u.status) s.tasks i t (h i ∙ sym same) h)

-- and these, if they are changed with it
pub suspended_changed : (f g : ℕ → Bool) (s new : State) (i : ℕ) (t : Task)
    → ((j : ℕ) → f j ≡ can_resume (status_at s j)) → ((j : ℕ) → j ≢ i → g j ≡ f j) → g i ≡ can_resume t.status
    → i < length s.tasks → new.tasks ≡ set s.tasks i t → (j : ℕ) → g j ≡ can_resume (status_at new j)
suspended_changed f g s new i t h others own l is j =
    let at : can_resume (status_at new j) ≡ can_resume (get_or (set s.tasks i t) j no_task).status =
    ap (λ (ts : List Task). can_resume (get_or ts j no_task).status) is in
    elim (cases_eq j i) [
      | inl here ↦
          ap g here ∙ own ∙ sym (ap (λ (u : Task). can_resume u.status) (get_or-set_same s.tasks i t no_task l))
          ∙ sym (at ∙ ap (λ (k : ℕ). can_resume (get_or (set s.tasks i t) k no_task).status) here)
      | inr apart ↦
          others j apart ∙ h j ∙ sym (at ∙ ap (λ (u : Task). can_resume u.status) (get_or-set_other s.tasks i j t no_task apart))
    ]

-- a Ready task isn't suspended
pub ready_unsuspended : (u : Status) → is_some (ticket_if_ready u) ≡ true → can_resume u ≡ false
ready_unsuspended (Ready n) t = refl
ready_unsuspended (Awake w) t = absurd cc
ready_unsuspended (Waiting w) t = absurd cc
ready_unsuspended (Asleep m n) t = absurd cc
ready_unsuspended (WaitingForBits g m d) t = absurd cc
ready_unsuspended (WaitingForNotification m d) t = absurd cc
ready_unsuspended Suspended t = absurd cc
ready_unsuspended Ended t = absurd cc

-- a task goes to the back, from wherever it was, if no task is pending and it isn't suspended
pub stands_back : (v : Schedule) (s : State) (i : ℕ) → v.pending ≡ [] → StandsFor v s → i < length s.tasks
    → can_resume (status_at s i) ≡ false → StandsFor (mine.make_ready i (record v { ready = without i v.ready })) (make_ready i s)
stands_back v s i none h l awake = record {
  ready =
      lined_up_calm (mine.make_ready i (record v { ready = without i v.ready })) none
      ∙ ap (λ (p : ℕ). insert_by_priority (i, p) (without i v.ready)) (h.priorities i)
      ∙ ap (λ (r : List (ℕ × ℕ)). insert_by_priority (i, (task_at s i).priority) (without i r))
      (sym (lined_up_calm v none) ∙ h.ready)
      ∙ sym (ready_list-make_ready s i h.table l);
  current = h.current;
  priorities = numbers_readied (λ (t : Task). t.priority) v.priorities s i h.priorities refl;
  base_priorities = numbers_readied (λ (t : Task). t.base_priority) v.base_priorities s i h.base_priorities refl;
  depth = h.depth;
  suspensions = h.suspensions;
  suspended =
      suspended_kept (is_suspended v) s (make_ready i s) i
      (record (task_at s i) { status = Ready s.next_ticket }) h.suspended refl (sym awake);
  table = table-make_ready s i h.table;
}
