-- Each change of the schedule is a deed of the definitions.
use Rattle.std.proofs.Common.{◌≡◌, ◌≢◌, ◌+◌, ℕ, ◌<◌, ◌≤◌, inl, inr, Bool, true, false, not, Option, Some, None, List, ◌∷◌, []}
use Rattle.std.proofs.Common.{get_or, set, length, sym, ◌∙◌, ap, ap₂, subst, arith, refl, eqb}
use Rattle.std.specs.Prelude.{◌||◌, ◌&&◌, nat_lt, nat_eq, if◌then◌else◌}
use Rattle.std.specs.List.{AllByRecursion, list_any}
use Rattle.std.specs.Option.{IfSome, is_some, option_map}
use Rattle.std.proofs.Math.ListN.{length-set}
use Rattle.std.proofs.lemmas.Bool.{cases_eq, lt-ltb, ltb-false, ltb-true}
use Rattle.std.proofs.lemmas.List.{get_or-set_other, get_or-set_same, set-set}
use Rattle.model.specs.declared.call.CallProgress.{CallProgress}
use Rattle.model.specs.declared.call.WaitList.{WaitList}
use Rattle.model.specs.Waiting.{wait_in}
use Rattle.model.specs.Groups.{wait_for_bits}
use Rattle.model.specs.Notifications.{wait_for_notification}
use Rattle.model.specs.Suspension.{can_resume}
use Rattle.model.specs.State.{State, Status, Task, Ready, Awake, Waiting, Asleep, WaitingForBits, WaitingForNotification, Suspended}
use Rattle.model.specs.State.{Ended, no_task}
use Rattle.model.specs.State.{task_at, status_at, progress_at, call_at, with_task, with_call, take_ticket, ticket_if_ready, for_one}
use Rattle.model.specs.Order.{Entry, first, key, keyed, list_by, task_of}
use Rattle.model.specs.Switching.{choice, choose, dispatch, is_above, is_beside, is_held, is_outranked, is_ready, is_same}
use Rattle.model.specs.Switching.{is_sharing, make_ready, preempt, ready_key, ready_list, slice, to_back, yield_now}
use Rattle.model.specs.Mutexes.{set_priority}
use Rattle.model.specs.Invariant.{HasTicketBelow, IsTable}
use Rattle.model.proofs.Sorting.{Falls, Falls-in_order, IsAfter, by_test}
use Rattle.model.proofs.Lists.{list-gone, list-kept}
use Rattle.model.proofs.Members.{has_task, has_task-key, has_task-none}
use Rattle.model.proofs.Tables.{table-make_ready, table-set, table-taken, ticket_at}
use Rattle.model.proofs.Chosen.{choice_within, same_eq}
use Rattle.lists.specs.Lists.{Each, first_of, has_node, without}
use Rattle.lists.proofs.Entries.{apart_from_test, has_node-without_other, without-apart}
use Rattle.task_lists.specs.Priorities.{with_priorities}
use Rattle.task_lists.proofs.Priorities.{has_node-with_priorities}
use Rattle.sched.specs.Schedule as mine
use Rattle.sched.specs.Schedule.{IsCalm, Schedule, is_suspended, lined_up, priority_in}
use Rattle.task_lists.specs.Tasks.{insert_by_priority}
use Rattle.sched.specs.StandsFor.{DoesFree, StandsFor, StandsBefore, depth_of, task_holds_of}
use Rattle.sched.proofs.ReadyList.{none_of}
use Rattle.sched.proofs.LinedUp.{IsFalling, has_node-added, line_up-append, line_up-falling, line_up-under, lined_up-block}
use Rattle.sched.proofs.LinedUp.{lined_up_calm, without-added}
use Rattle.sched.proofs.Choosing.{holds_of, depth_by, with_priorities-filter, ready_list-entered, ready_list-make_ready}
use Rattle.sched.proofs.Choosing.{numbers_kept, numbers_readied, suspended_kept, suspended_changed, ready_unsuspended}
use Rattle.sched.proofs.Choosing.{stands_back}

-- ---- a task that isn't Ready becomes so: it goes after its equals among those lined up

-- in the schedule w, which is v except for its lists, and for the task, which isn't suspended
pub record Adds (i : ℕ) (v w : Schedule) : Type 0 where
  pub ready : lined_up w ≡ insert_by_priority (i, priority_in v.priorities i) (lined_up v)
  pub current : w.current ≡ v.current
  pub priorities : w.priorities ≡ v.priorities
  pub base_priorities : w.base_priorities ≡ v.base_priorities
  pub depth : w.depth ≡ v.depth
  pub suspensions : w.suspensions ≡ v.suspensions
  pub others : (j : ℕ) → j ≢ i → is_suspended w j ≡ is_suspended v j
  pub awake : is_suspended w i ≡ false

pub adds_made_ready : (v : Schedule) (i : ℕ) → v.pending ≡ [] → is_suspended v i ≡ false → Adds i v (mine.make_ready i v)
adds_made_ready v i none awake = record {
  ready =
      lined_up_calm (mine.make_ready i v) none
      ∙ ap (insert_by_priority (i, priority_in v.priorities i)) (sym (lined_up_calm v none));
  current = refl;
  priorities = refl;
  base_priorities = refl;
  depth = refl;
  suspensions = refl;
  others = λ j ne. refl;
  awake = awake;
}

pub adds_pended : (v : Schedule) (i : ℕ) → is_suspended v i ≡ false → Adds i v (mine.pend_ready i v)
adds_pended v i awake = record {
  ready = line_up-append v.pending i v.priorities v.ready;
  current = refl;
  priorities = refl;
  base_priorities = refl;
  depth = refl;
  suspensions = refl;
  others = λ j ne. refl;
  awake = awake;
}

pub stands_added : (v w : Schedule) (s : State) (i : ℕ) → Adds i v w → StandsFor v s
    → i < length s.tasks → mine.is_ready v i ≡ false → StandsFor w (make_ready i s)
stands_added v w s i adds h l free = record {
  ready =
      adds.ready
      ∙ ap (λ (p : ℕ). insert_by_priority (i, p) (lined_up v)) (h.priorities i)
      ∙ ap (insert_by_priority (i, (task_at s i).priority))
      (sym (without-apart i (lined_up v) (apart_from_test i (lined_up v) free)) ∙ ap (without i) h.ready)
      ∙ sym (ready_list-make_ready s i h.table l);
  current = adds.current ∙ h.current;
  priorities = λ j.
      ap (λ (ps : List ℕ). priority_in ps j) adds.priorities
      ∙ numbers_readied (λ (t : Task). t.priority) v.priorities s i h.priorities refl j;
  base_priorities = λ j.
      ap (λ (ps : List ℕ). priority_in ps j) adds.base_priorities
      ∙ numbers_readied (λ (t : Task). t.base_priority) v.base_priorities s i h.base_priorities refl j;
  depth = adds.depth ∙ h.depth;
  suspensions = adds.suspensions ∙ h.suspensions;
  suspended =
      suspended_changed (is_suspended v) (is_suspended w) s (make_ready i s) i
      (record (task_at s i) { status = Ready s.next_ticket }) h.suspended adds.others adds.awake l refl;
  table = table-make_ready s i h.table;
}

-- while another is still to be placed
pub placing_added : (v w : Schedule) (s : State) (decider i : ℕ) → Adds i v w
    → has_node decider w.ready ≡ true → IsFalling v.ready → StandsBefore decider v s → decider ≢ i
    → i < length s.tasks → mine.is_ready v i ≡ false → StandsBefore decider w (make_ready i s)
placing_added v w s decider i adds still falling h ne l free =
    let left = without decider (lined_up v) in
    let out : has_node i left ≡ false = has_node-without_other decider i (lined_up v) (λ same. ne (sym same)) ∙ free in
    record {
      ready =
          ap (without decider) adds.ready
          ∙ without-added decider (i, priority_in v.priorities i) (lined_up v)
          (λ same. ne (sym same)) (line_up-falling v.pending v.priorities v.ready falling)
          ∙ ap (λ (p : ℕ). insert_by_priority (i, p) left) (h.priorities i)
          ∙ ap (insert_by_priority (i, (task_at s i).priority))
          (sym (without-apart i left (apart_from_test i left out)) ∙ ap (without i) h.ready)
          ∙ sym (ready_list-make_ready s i h.table l);
      still = still;
      current = adds.current ∙ h.current;
      priorities = λ j.
          ap (λ (ps : List ℕ). priority_in ps j) adds.priorities
          ∙ numbers_readied (λ (t : Task). t.priority) v.priorities s i h.priorities refl j;
      base_priorities = λ j.
          ap (λ (ps : List ℕ). priority_in ps j) adds.base_priorities
          ∙ numbers_readied (λ (t : Task). t.base_priority) v.base_priorities s i h.base_priorities refl j;
      depth = adds.depth ∙ h.depth;
      suspensions = adds.suspensions ∙ h.suspensions;
      suspended =
          suspended_changed (is_suspended v) (is_suspended w) s (make_ready i s) i
          (record (task_at s i) { status = Ready s.next_ticket }) h.suspended adds.others adds.awake l refl;
      table = table-make_ready s i h.table;
    }

-- it goes to its ready list, if no task is pending
pub stands_made_ready : (v : Schedule) (s : State) (i : ℕ) → v.pending ≡ [] → StandsFor v s → i < length s.tasks
    → can_resume (status_at s i) ≡ false → mine.is_ready v i ≡ false → StandsFor (mine.make_ready i v) (make_ready i s)
stands_made_ready v s i none h l awake free =
    stands_added v (mine.make_ready i v) s i (adds_made_ready v i none (h.suspended i ∙ awake)) h l free

pub placing_made_ready : (v : Schedule) (s : State) (decider i : ℕ) → v.pending ≡ [] → IsFalling v.ready
    → StandsBefore decider v s → decider ≢ i → i < length s.tasks → can_resume (status_at s i) ≡ false
    → mine.is_ready v i ≡ false → StandsBefore decider (mine.make_ready i v) (make_ready i s)
placing_made_ready v s decider i none falling h ne l awake free =
    let still : has_node decider (mine.make_ready i v).ready ≡ true =
    has_node-added decider (i, priority_in v.priorities i) v.ready (λ same. ne (sym same)) ∙ h.still in
    placing_added v (mine.make_ready i v) s decider i (adds_made_ready v i none (h.suspended i ∙ awake)) still falling h ne l free

-- it is pending
pub stands_pended : (v : Schedule) (s : State) (i : ℕ) → StandsFor v s → i < length s.tasks
    → can_resume (status_at s i) ≡ false → mine.is_ready v i ≡ false → StandsFor (mine.pend_ready i v) (make_ready i s)
stands_pended v s i h l awake free = stands_added v (mine.pend_ready i v) s i (adds_pended v i (h.suspended i ∙ awake)) h l free

pub placing_pended : (v : Schedule) (s : State) (decider i : ℕ) → IsFalling v.ready
    → StandsBefore decider v s → decider ≢ i → i < length s.tasks → can_resume (status_at s i) ≡ false
    → mine.is_ready v i ≡ false → StandsBefore decider (mine.pend_ready i v) (make_ready i s)
placing_pended v s decider i falling h ne l awake free =
    placing_added v (mine.pend_ready i v) s decider i (adds_pended v i (h.suspended i ∙ awake)) h.still falling h ne l free

-- whether a task is Ready

ready_key_of : {p q : ℕ} {u w : Status} → p ≡ q → u ≡ w
    → option_map (key p) (ticket_if_ready u) ≡ option_map (key q) (ticket_if_ready w)
ready_key_of ep eu = ap₂ (λ (n : ℕ) (v : Status). option_map (key n) (ticket_if_ready v)) ep eu

ready_at : (s : State) (i p : ℕ) (u : Status) → (task_at s i).priority ≡ p
    → (task_at s i).status ≡ u → has_task i (ready_list s) ≡ is_some (ticket_if_ready u)
ready_at s i p (Ready n) ep eu = has_task-key ready_key refl i (key p n) s.tasks (ready_key_of ep eu)
ready_at s i p (Awake w) ep eu = has_task-none ready_key i s.tasks (ready_key_of ep eu)
ready_at s i p (Waiting w) ep eu = has_task-none ready_key i s.tasks (ready_key_of ep eu)
ready_at s i p (Asleep w n) ep eu = has_task-none ready_key i s.tasks (ready_key_of ep eu)
ready_at s i p (WaitingForBits g m d) ep eu = has_task-none ready_key i s.tasks (ready_key_of ep eu)
ready_at s i p (WaitingForNotification m d) ep eu = has_task-none ready_key i s.tasks (ready_key_of ep eu)
ready_at s i p Suspended ep eu = has_task-none ready_key i s.tasks (ready_key_of ep eu)
ready_at s i p Ended ep eu = has_task-none ready_key i s.tasks (ready_key_of ep eu)

-- a task is in the ready list if it is Ready
pub ready_in_list : (s : State) (i : ℕ) → has_task i (ready_list s) ≡ is_ready s i
ready_in_list s i = ready_at s i (task_at s i).priority (task_at s i).status refl refl

pub ready_same : (v : Schedule) (s : State) (i : ℕ) → StandsFor v s → mine.is_ready v i ≡ is_ready s i
ready_same v s i h =
    ap (has_node i) h.ready ∙ has_node-with_priorities i (ready_list s) ∙ ready_in_list s i

-- whether a Ready task is above the running one, or beside it, if no task is pending

any-with_priorities : (p : ℕ × ℕ → Bool) (q : Entry → Bool) (es : List Entry)
    → ((e : Entry) → p (e.task, e.key.priority) ≡ q e) → list_any p (with_priorities es) ≡ list_any q es
any-with_priorities p q [] h = refl
any-with_priorities p q (e ∷ es) h = ap₂ (λ (a b : Bool). a || b) (h e) (any-with_priorities p q es h)

above_same : (priorities : List ℕ) (s : State) (r : Option ℕ)
    → ((task : ℕ) → priority_in priorities task ≡ (task_at s task).priority)
    → (e : Entry) → mine.is_above priorities r (e.task, e.key.priority) ≡ is_above s r e
above_same priorities s None h e = refl
above_same priorities s (Some task) h e = ap (λ (p : ℕ). nat_lt p e.key.priority) (h task)

beside_same : (priorities : List ℕ) (s : State) (r : Option ℕ)
    → ((task : ℕ) → priority_in priorities task ≡ (task_at s task).priority) → (e : Entry)
    → mine.is_beside priorities r (e.task, e.key.priority) ≡ is_beside s r e
beside_same priorities s None h e = refl
beside_same priorities s (Some task) h e = ap (λ (p : ℕ). not (nat_eq e.task task) && nat_eq e.key.priority p) (h task)

pub outranked_same : (v : Schedule) (s : State) → v.pending ≡ [] → StandsFor v s → mine.is_outranked v ≡ is_outranked s
outranked_same v s none h =
    ap₂ (λ (r : Option ℕ) (es : List (ℕ × ℕ)). list_any (mine.is_above v.priorities r) es)
    h.current (sym (lined_up_calm v none) ∙ h.ready)
    ∙ any-with_priorities (mine.is_above v.priorities s.current) (is_above s s.current)
    (ready_list s) (above_same v.priorities s s.current h.priorities)

pub sharing_same : (v : Schedule) (s : State) → v.pending ≡ [] → StandsFor v s → mine.is_sharing v ≡ is_sharing s
sharing_same v s none h =
    ap₂ (λ (r : Option ℕ) (es : List (ℕ × ℕ)). list_any (mine.is_beside v.priorities r) es)
    h.current (sym (lined_up_calm v none) ∙ h.ready)
    ∙ any-with_priorities (mine.is_beside v.priorities s.current) (is_beside s s.current)
    (ready_list s) (beside_same v.priorities s s.current h.priorities)

-- the choice, if no task is pending

first_task : (es : List Entry) → first_of (with_priorities es) ≡ task_of (first es)
first_task [] = refl
first_task (e ∷ es) = refl

stands_chosen : (v : Schedule) (s : State) → v.pending ≡ [] → StandsFor v s → StandsFor (mine.choose v) (choose s)
unfolding choose dispatch
stands_chosen v s none h =
    let is : first_of v.ready ≡ choice s = ap first_of (sym (lined_up_calm v none) ∙ h.ready) ∙ first_task (ready_list s) in
    by_test (is_same (choice s) s.current)
    (λ t.
    rw t (record {
      ready = h.ready;
      current = is ∙ same_eq (choice s) s.current t;
      priorities = h.priorities;
      base_priorities = h.base_priorities;
      depth = h.depth;
      suspensions = h.suspensions;
      suspended = h.suspended;
      table = h.table;
    }))
    (λ t. rw t (record {
      ready = h.ready;
      current = is;
      priorities = h.priorities;
      base_priorities = h.base_priorities;
      depth = h.depth;
      suspensions = h.suspensions;
      suspended = h.suspended;
      table = record { tickets = h.table.tickets; few = h.table.few; current = choice_within s; holders = h.table.holders };
    }))

-- the running task goes to the back, and the choice runs

one_back : (v : Schedule) (s : State) (o : Option ℕ) → v.pending ≡ [] → StandsFor v s
    → IfSome o (λ task. task < length s.tasks) → StandsFor (mine.for_one mine.to_back o v) (for_one to_back o s)
unfolding to_back
one_back v s None none h within = h
one_back v s (Some task) none h within =
    let same : has_node task v.ready ≡ is_ready s task = ap (has_node task) (sym (lined_up_calm v none)) ∙ ready_same v s task h in
    by_test (is_ready s task)
    (λ t. let u = same ∙ t in rw (t, u) (stands_back v s task none h within (ready_unsuspended (status_at s task) t)))
    (λ t. let u = same ∙ t in rw (t, u) h)

pending_kept : (v : Schedule) (o : Option ℕ) → (mine.for_one mine.to_back o v).pending ≡ v.pending
pending_kept v None = refl
pending_kept v (Some task) = by_test (has_node task v.ready) (λ t. rw t refl) (λ t. rw t refl)

stands_yielded : (v : Schedule) (s : State) → v.pending ≡ [] → StandsFor v s → StandsFor (mine.yield_now v) (yield_now s)
unfolding yield_now
stands_yielded v s none h =
    let back : StandsFor (mine.for_one mine.to_back s.current v) (for_one to_back s.current s) =
    one_back v s s.current none h h.table.current in
    let mine_back : StandsFor (mine.for_one mine.to_back v.current v) (for_one to_back s.current s) =
    subst (λ (o : Option ℕ). StandsFor (mine.for_one mine.to_back o v) (for_one to_back s.current s)) (sym h.current) back in
    stands_chosen (mine.for_one mine.to_back v.current v) (for_one to_back s.current s) (pending_kept v v.current ∙ none) mine_back

-- the same if a test says so
yielded_if : (v : Schedule) (s : State) (b c : Bool) → b ≡ c → v.pending ≡ [] → StandsFor v s
    → StandsFor (if b then mine.yield_now v else v) (if c then yield_now s else s)
yielded_if v s b c same none h = by_test c
    (λ t. let u = same ∙ t in rw (t, u) (stands_yielded v s none h))
    (λ t. let u = same ∙ t in rw (t, u) h)

-- If no task holds the scheduler, no `suspend_all` is active, and no critical section is open.
pub none_suspends : (s : State) → task_holds_of s ≡ 0 → s.suspensions ≡ 0
none_suspends s none = omega arith

pub none_open : (s : State) → task_holds_of s ≡ 0 → s.sections ≡ 0
none_open s none = omega arith

-- the scheduler is held if it is held at least once
pub held_by_depth : (s : State) → is_held s ≡ nat_lt 0 (depth_of s)
held_by_depth s = either s.call_hold s.suspensions s.sections where
  of_two : (n m : ℕ) → (nat_lt 0 n || nat_lt 0 m) ≡ nat_lt 0 (n + m + 0)
  of_two n m = by_test (nat_lt 0 n)
      (λ t. let more = ltb-true 0 n t in rw t (sym (lt-ltb 0 (n + m + 0) (omega arith))))
      (λ t. let none = ltb-false 0 n t in rw t (ap (nat_lt 0) (let same : m ≡ n + m + 0 = omega arith in same)))

  either : (b : Bool) (n m : ℕ) → ((b || nat_lt 0 n) || nat_lt 0 m) ≡ nat_lt 0 (n + m + (if b then 1 else 0))
  either true n m = sym (lt-ltb 0 (n + m + 1) (omega arith))
  either false n m = of_two n m

pub free_depth : (s : State) → is_held s ≡ false → depth_of s ≡ 0
free_depth s free = let le = ltb-false 0 (depth_of s) (sym (held_by_depth s) ∙ free) in omega (arith, le)

-- the deeds, as the contracts name them

does : {old new : Schedule} {next : Schedule → Schedule} (deed : State → State)
    → ((v : Schedule) (s : State) → v.pending ≡ [] → StandsFor v s → StandsFor (next v) (deed s))
    → IsCalm old → new ≡ next old → DoesFree old new deed
does {old} {new} {next} deed stands calm is = λ s h free.
    let none : old.pending ≡ [] = calm (h.depth ∙ free_depth s free) in
    subst (λ (v : Schedule). StandsFor v (deed s)) (sym is) (stands old s none h)

pub does_choose : {old new : Schedule} → IsCalm old → new ≡ mine.choose old → DoesFree old new choose
does_choose calm is = does choose stands_chosen calm is

pub does_yield_now : {old new : Schedule} → IsCalm old → new ≡ mine.yield_now old → DoesFree old new yield_now
does_yield_now calm is = does yield_now stands_yielded calm is

pub does_preempt : {old new : Schedule} → IsCalm old → new ≡ mine.preempt old → DoesFree old new preempt
unfolding preempt
does_preempt calm is =
    does preempt (λ v s none h. yielded_if v s (mine.is_outranked v) (is_outranked s) (outranked_same v s none h) none h) calm is

pub does_slice : {old new : Schedule} → IsCalm old → new ≡ mine.slice old → DoesFree old new slice
unfolding slice
does_slice calm is =
    does slice (λ v s none h.
    yielded_if v s (mine.is_outranked v || mine.is_sharing v) (is_outranked s || is_sharing s)
    (ap₂ (λ (a b : Bool). a || b) (outranked_same v s none h) (sharing_same v s none h)) none h)
    calm is

steady_apart : (a : Bool) → not a ≡ true → a ≡ false
steady_apart true t = absurd (cc)
steady_apart false t = refl

-- the end of a tick switches nothing
pub slice_none : (v : Schedule) (s : State) → v.pending ≡ [] → StandsFor v s → mine.is_steady v ≡ true → slice s ≡ s
unfolding slice
slice_none v s none h t =
    let u : (is_outranked s || is_sharing s) ≡ false =
    ap₂ (λ (a b : Bool). a || b) (sym (outranked_same v s none h)) (sym (sharing_same v s none h))
    ∙ steady_apart (mine.is_outranked v || mine.is_sharing v) t in
    rw u refl

-- a task changes by itself

falling_with_priorities : (es : List Entry) → Falls es → IsFalling (with_priorities es)
falling_with_priorities [] h = tt
falling_with_priorities (e ∷ es) h = (each es h.0, falling_with_priorities es h.1) where
  each : (fs : List Entry) → AllByRecursion (λ (f : Entry). IsAfter f.key e.key) fs
      → Each (λ f. f.1 ≤ e.key.priority) (with_priorities fs)
  each [] k = tt
  each (f ∷ fs) k = (k.0.low, each fs k.1)

-- the tasks in the ready lists are in order, as the lined up ones are
pub falling_ready : (v : Schedule) (s : State) → StandsFor v s → IsFalling v.ready
falling_ready v s h =
    line_up-under v.pending v.priorities v.ready
    (subst IsFalling (sym h.ready) (falling_with_priorities (ready_list s) (Falls-in_order (keyed ready_key 0 s.tasks))))

-- it is Ready no more
pub stands_blocked : (v : Schedule) (s new : State) (i : ℕ) (t : Task) → StandsFor v s → i < length s.tasks
    → new.tasks ≡ set s.tasks i t → new.current ≡ s.current → holds_of new ≡ holds_of s → ready_key t ≡ None
    → t.priority ≡ (task_at s i).priority → t.base_priority ≡ (task_at s i).base_priority → IsTable new
    → can_resume t.status ≡ can_resume (status_at s i) → StandsFor (mine.block i v) new
stands_blocked v s new i t h l is current held none same same_base table alike = record {
  ready =
      lined_up-block i v (falling_ready v s h) ∙ ap (without i) h.ready ∙ sym (with_priorities-filter i (ready_list s))
      ∙ sym (ap with_priorities (ap (list_by ready_key) is ∙ list-gone ready_key i t s.tasks l none));
  current = h.current ∙ sym current;
  priorities = numbers_kept (λ (u : Task). u.priority) v.priorities s new i t h.priorities is same;
  base_priorities = numbers_kept (λ (u : Task). u.base_priority) v.base_priorities s new i t h.base_priorities is same_base;
  depth = h.depth ∙ sym (ap depth_by held);
  suspensions = h.suspensions ∙ sym (ap (λ (p : ℕ × Bool). p.0) held);
  suspended = suspended_kept (is_suspended v) s new i t h.suspended is alike;
  table = table;
}

list_kept : (s new : State) (i : ℕ) (t : Task) → new.tasks ≡ set s.tasks i t
    → ready_key t ≡ ready_key (task_at s i) → with_priorities (ready_list s) ≡ with_priorities (ready_list new)
list_kept s new i t is key_same = sym (ap with_priorities (ap (list_by ready_key) is ∙ list-kept ready_key i t s.tasks key_same))

-- it keeps its key
pub stands_kept : (v : Schedule) (s new : State) (i : ℕ) (t : Task) → StandsFor v s → i < length s.tasks
    → new.tasks ≡ set s.tasks i t → new.current ≡ s.current → holds_of new ≡ holds_of s → ready_key t ≡ ready_key (task_at s i)
    → t.priority ≡ (task_at s i).priority → t.base_priority ≡ (task_at s i).base_priority → IsTable new
    → can_resume t.status ≡ can_resume (status_at s i) → StandsFor v new
stands_kept v s new i t h l is current held key_same same same_base table alike = record {
  ready = h.ready ∙ list_kept s new i t is key_same;
  current = h.current ∙ sym current;
  priorities = numbers_kept (λ (u : Task). u.priority) v.priorities s new i t h.priorities is same;
  base_priorities = numbers_kept (λ (u : Task). u.base_priority) v.base_priorities s new i t h.base_priorities is same_base;
  depth = h.depth ∙ sym (ap depth_by held);
  suspensions = h.suspensions ∙ sym (ap (λ (p : ℕ × Bool). p.0) held);
  suspended = suspended_kept (is_suspended v) s new i t h.suspended is alike;
  table = table;
}

-- its priority changes

priority_changed : (ps : List ℕ) (s new : State) (i p : ℕ) (t : Task)
    → ((j : ℕ) → priority_in ps j ≡ (task_at s j).priority) → i < length ps → i < length s.tasks
    → new.tasks ≡ set s.tasks i t → t.priority ≡ p → (j : ℕ) → priority_in (set ps i p) j ≡ (task_at new j).priority
priority_changed ps s new i p t h lp ls is has j =
    sym (ap (λ (ts : List Task). (get_or ts j no_task).priority) is ∙ elim (cases_eq j i) [
      | inl here ↦
          rw here (ap (λ (u : Task). u.priority) (get_or-set_same s.tasks i t no_task ls) ∙ has ∙ sym (get_or-set_same ps i p 0 lp))
      | inr apart ↦
          ap (λ (u : Task). u.priority) (get_or-set_other s.tasks i j t no_task apart)
          ∙ sym (get_or-set_other ps i j p 0 apart ∙ h j)
    ])

-- a Ready one moves after its new equals
stands_moved : (v : Schedule) (s : State) (i p : ℕ) → v.pending ≡ [] → StandsFor v s → i < length s.tasks → i < length v.priorities
    → is_ready s i ≡ true
    → StandsFor (mine.make_ready i (record v { ready = without i v.ready; priorities = set v.priorities i p }))
    (make_ready i (with_task i (record (task_at s i) { priority = p }) s))
stands_moved v s i p none h l known on =
    let u : Task = record (task_at s i) { priority = p } in
    let ranked : State = with_task i u s in
    let at : task_at ranked i ≡ u = get_or-set_same s.tasks i u no_task l in
    let new : State = make_ready i ranked in
    let w : Task = record (task_at ranked i) { status = Ready s.next_ticket } in
    let is : new.tasks ≡ set s.tasks i w = set-set s.tasks i u w in
    record {
      ready =
          lined_up_calm (mine.make_ready i (record v { ready = without i v.ready; priorities = set v.priorities i p })) none
          ∙ ap (λ (q : ℕ). insert_by_priority (i, q) (without i v.ready)) (get_or-set_same v.priorities i p 0 known)
          ∙ ap (λ (r : List (ℕ × ℕ)). insert_by_priority (i, p) (without i r)) (sym (lined_up_calm v none) ∙ h.ready)
          ∙ sym (ready_list-entered s new i p w h.table l is (ap (λ (x : Task). Some (key x.priority s.next_ticket)) at));
      current = h.current;
      priorities = priority_changed v.priorities s new i p w h.priorities known l is (ap (λ (x : Task). x.priority) at);
      base_priorities =
          numbers_kept (λ (x : Task). x.base_priority) v.base_priorities s new
          i w h.base_priorities is (ap (λ (x : Task). x.base_priority) at);
      depth = h.depth;
      suspensions = h.suspensions;
      suspended = suspended_kept (is_suspended v) s new i w h.suspended is (sym (ready_unsuspended (status_at s i) on));
      table = table-make_ready ranked i (table-set s i u h.table (ticket_at s.next_ticket i s.tasks h.table.tickets));
    }

unready_key : (p q : ℕ) (status : Status) → is_some (ticket_if_ready status) ≡ false
    → option_map (key p) (ticket_if_ready status) ≡ option_map (key q) (ticket_if_ready status)
unready_key p q status off = rw (none_of (ticket_if_ready status) off) refl

-- and another stays as it is
stands_ranked : (v : Schedule) (s : State) (i p : ℕ) → v.pending ≡ [] → StandsFor v s → i < length s.tasks
    → i < length v.priorities → is_ready s i ≡ false
    → StandsFor (record v { priorities = set v.priorities i p }) (with_task i (record (task_at s i) { priority = p }) s)
stands_ranked v s i p none h l known off =
    let u : Task = record (task_at s i) { priority = p } in
    let new : State = with_task i u s in
    record {
      ready =
          lined_up_calm (record v { priorities = set v.priorities i p }) none ∙ sym (lined_up_calm v none) ∙ h.ready
          ∙ list_kept s new i u refl (unready_key p (task_at s i).priority (task_at s i).status off);
      current = h.current;
      priorities = priority_changed v.priorities s new i p u h.priorities known l refl refl;
      base_priorities = numbers_kept (λ (x : Task). x.base_priority) v.base_priorities s new i u h.base_priorities refl refl;
      depth = h.depth;
      suspensions = h.suspensions;
      suspended = suspended_kept (is_suspended v) s new i u h.suspended refl refl;
      table = table-set s i u h.table (ticket_at s.next_ticket i s.tasks h.table.tickets);
    }

pub stands_prioritised : (v : Schedule) (s : State) (i p : ℕ) → v.pending ≡ [] → StandsFor v s
    → i < length s.tasks → i < length v.priorities → StandsFor (mine.set_priority i p v) (set_priority i p s)
unfolding set_priority to_back
stands_prioritised v s i p none h l known =
    let u : Task = record (task_at s i) { priority = p } in
    let listed : has_node i v.ready ≡ is_ready s i = ap (has_node i) (sym (lined_up_calm v none)) ∙ ready_same v s i h in
    let still : is_ready (with_task i u s) i ≡ is_ready s i =
    ap (λ (x : Task). is_some (ticket_if_ready x.status)) (get_or-set_same s.tasks i u no_task l) in
    by_test (eqb (task_at s i).priority p)
    (λ t. let e : eqb (priority_in v.priorities i) p ≡ true = ap (λ (n : ℕ). eqb n p) (h.priorities i) ∙ t in rw (t, e) h)
    (λ t. let e : eqb (priority_in v.priorities i) p ≡ false = ap (λ (n : ℕ). eqb n p) (h.priorities i) ∙ t in
    by_test (is_ready s i)
    (λ on. let a = listed ∙ on in let b = still ∙ on in rw (t, e, a, b) (stands_moved v s i p none h l known on))
    (λ off. let a = listed ∙ off in let b = still ∙ off in rw (t, e, a, b) (stands_ranked v s i p none h l known off)))

pub does_set_priority : {old new : Schedule} (i p : ℕ) → IsCalm old → old.depth ≡ 0 → i < length old.priorities
    → new ≡ mine.set_priority i p old → (s : State) → StandsFor old s → i < length s.tasks → StandsFor new (set_priority i p s)
does_set_priority {old} {new} i p calm free known is = λ s h l.
    subst (λ (v : Schedule). StandsFor v (set_priority i p s)) (sym is) (stands_prioritised old s i p (calm free) h l known)

-- a task that waits already leaves the Ready tasks
pub stands_placed : (v : Schedule) (s : State) (i : ℕ) → IsFalling v.ready → StandsBefore i v s → StandsFor (mine.block i v) s
stands_placed v s i falling h =
    record {
      ready = lined_up-block i v falling ∙ h.ready;
      current = h.current;
      priorities = h.priorities;
      base_priorities = h.base_priorities;
      depth = h.depth;
      suspensions = h.suspensions;
      suspended = h.suspended;
      table = h.table;
    }

-- A Ready task begins to wait while nobody is pending, and stays in its ready list until it is placed.
stands_begun : (v : Schedule) (s : State) (i : ℕ) (status : ℕ → Status) → v.pending ≡ [] → StandsFor v s
    → i < length s.tasks → is_ready s i ≡ true → HasTicketBelow (s.next_ticket + 1) (status s.next_ticket)
    → ticket_if_ready (status s.next_ticket) ≡ None → can_resume (status s.next_ticket) ≡ false
    → StandsBefore i v (take_ticket i status s)
stands_begun v s i status none h l ready below unready awake =
    let w : Task = record (task_at s i) { status = status s.next_ticket } in
    let table : IsTable (take_ticket i status s) = table-taken s i status h.table below in
    let keyless : ready_key w ≡ None = ap (λ (o : Option ℕ). option_map (key (task_at s i).priority) o) unready in
    let b : StandsFor (mine.block i v) (take_ticket i status s) =
    stands_blocked v s (take_ticket i status s) i w h l refl refl refl keyless
    refl refl table (awake ∙ sym (ready_unsuspended (status_at s i) ready)) in
    record {
      ready = sym (lined_up-block i v (falling_ready v s h)) ∙ b.ready;
      still = ap (has_node i) (sym (lined_up_calm v none)) ∙ ready_same v s i h ∙ ready;
      current = b.current;
      priorities = b.priorities;
      base_priorities = b.base_priorities;
      depth = b.depth;
      suspensions = b.suspensions;
      suspended = b.suspended;
      table = table;
    }

-- at an object
pub stands_waiting : (v : Schedule) (s : State) (i : ℕ) (list : WaitList) → v.pending ≡ []
    → StandsFor v s → i < length s.tasks → is_ready s i ≡ true → StandsBefore i v (wait_in i list s)
unfolding wait_in
stands_waiting v s i list none h l ready =
    let call : CallProgress = record (call_at s i) { waits = true } in
    let u : Task = record (task_at s i) { progress = record (progress_at s i) { call = call } } in
    let s1 : State = with_call i call s in
    let table : IsTable s1 = table-set s i u h.table (ticket_at s.next_ticket i s.tasks h.table.tickets) in
    let h1 : StandsFor v s1 = stands_kept v s s1 i u h l refl refl refl refl refl refl table refl in
    let ready1 : is_ready s1 i ≡ true =
    ap (λ (x : Task). is_some (ticket_if_ready x.status)) (get_or-set_same s.tasks i u no_task l) ∙ ready in
    let priority : ℕ = (task_at s i).priority in
    let deadline : Option ℕ = (call_at s i).deadline in
    stands_begun v s1 i (λ ticket. Waiting (record { list = list; priority = priority; ticket = ticket; deadline = deadline }))
    none h1 (rw length-set l) ready1 (omega arith) refl refl

-- and for bits
pub stands_waiting_bits : (v : Schedule) (s : State) (i group : ℕ) → v.pending ≡ [] → StandsFor v s
    → i < length s.tasks → is_ready s i ≡ true → StandsBefore i v (wait_for_bits i group s)
unfolding wait_for_bits
stands_waiting_bits v s i group none h l ready =
    let deadline : Option ℕ = (call_at s i).deadline in
    stands_begun v s i (λ ticket. WaitingForBits group ticket deadline) none h l ready (omega arith) refl refl

-- and for a notification
pub stands_waiting_notification : (v : Schedule) (s : State) (i : ℕ) → v.pending ≡ [] → StandsFor v s
    → i < length s.tasks → is_ready s i ≡ true → StandsBefore i v (wait_for_notification i s)
unfolding wait_for_notification
stands_waiting_notification v s i none h l ready =
    let deadline : Option ℕ = (call_at s i).deadline in
    stands_begun v s i (λ ticket. WaitingForNotification ticket deadline) none h l ready (omega arith) refl refl

-- A task that is still to be placed, or another, keeps its key.
pub stands_before_kept : (v : Schedule) (s new : State) (i j : ℕ) (t : Task) → StandsBefore i v s → j < length s.tasks
    → new.tasks ≡ set s.tasks j t → new.current ≡ s.current → holds_of new ≡ holds_of s → ready_key t ≡ ready_key (task_at s j)
    → t.priority ≡ (task_at s j).priority → t.base_priority ≡ (task_at s j).base_priority → IsTable new
    → can_resume t.status ≡ can_resume (status_at s j) → StandsBefore i v new
stands_before_kept v s new i j t h l is current held key_same same same_base table alike = record {
  ready = h.ready ∙ list_kept s new j t is key_same;
  still = h.still;
  current = h.current ∙ sym current;
  priorities = numbers_kept (λ (u : Task). u.priority) v.priorities s new j t h.priorities is same;
  base_priorities = numbers_kept (λ (u : Task). u.base_priority) v.base_priorities s new j t h.base_priorities is same_base;
  depth = h.depth ∙ sym (ap depth_by held);
  suspensions = h.suspensions ∙ sym (ap (λ (p : ℕ × Bool). p.0) held);
  suspended = suspended_kept (is_suspended v) s new j t h.suspended is alike;
  table = table;
}

-- A call holds the scheduler, if none did.
pub stands_before_held : (v : Schedule) (s new : State) (i : ℕ) → StandsBefore i v s → s.call_hold ≡ false
    → new.tasks ≡ s.tasks → new.current ≡ s.current → holds_of new ≡ (task_holds_of s, true) → IsTable new
    → StandsBefore i (record v { depth = v.depth + 1 }) new
stands_before_held v s new i h free tasks current held table =
    let before : v.depth ≡ task_holds_of s + 0 = h.depth ∙ ap (λ (b : Bool). task_holds_of s + (if b then 1 else 0)) free in
    let after : depth_of new ≡ task_holds_of s + 1 = ap depth_by held in
    record {
      ready = h.ready ∙ sym (ap (λ ts. with_priorities (list_by ready_key ts)) tasks);
      still = h.still;
      current = h.current ∙ sym current;
      priorities = λ j. h.priorities j ∙ sym (ap (λ (ts : List Task). (get_or ts j no_task).priority) tasks);
      base_priorities = λ j. h.base_priorities j ∙ sym (ap (λ (ts : List Task). (get_or ts j no_task).base_priority) tasks);
      depth = omega (arith, before, after);
      suspensions = h.suspensions ∙ sym (ap (λ (p : ℕ × Bool). p.0) held);
      suspended = λ j. h.suspended j ∙ sym (ap (λ (ts : List Task). can_resume (get_or ts j no_task).status) tasks);
      table = table;
    }
