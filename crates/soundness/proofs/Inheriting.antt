-- What each change of a priority keeps.
use Rattle.std.proofs.Common.{max, ◌≡◌, ◌<◌, ◌≤◌, ℕ, eqb, ltb, List, [], ◌∷◌, length, Option, Some, None, refl, sym, subst, ◌∙◌}
use Rattle.std.proofs.Common.{arith}
use Rattle.std.specs.List.{AllByRecursion}
use Rattle.std.specs.Option.{IfSome, is_some, option_and_then, option_map, unwrap_or}
use Rattle.std.proofs.Math.ListN.{length-set}
use Rattle.std.proofs.lemmas.Bool.{ltb-true}
use Rattle.model.specs.declared.call.WaitList.{WaitList}
use Rattle.model.specs.declared.call.WaitList.TheVariants.{ToReceive}
use Rattle.model.specs.Application.{Application}
use Rattle.model.specs.Scripts.{IsWellFormed}
use Rattle.model.specs.State.{State, Task, Status, Ready, Awake, Waiting, Asleep, WaitingForBits, WaitingForNotification, Suspended}
use Rattle.model.specs.State.{Ended, ticket_if_ready, wait_if_waiting, task_at, status_at, progress_at, call_at, object_at}
use Rattle.model.specs.State.{with_task, for_one, no_task}
use Rattle.model.specs.Order.{Key, Entry, key, first}
use Rattle.model.specs.Switching.{is_ready, to_back}
use Rattle.model.specs.Waiting.{waiters, wait_key, same_list}
use Rattle.model.specs.Mutexes.{set_priority, mutexes_held, raise, inherits, inherit_from, inherit, best_priority, fall_back}
use Rattle.model.specs.Mutexes.{after_timeout, disinherit}
use Rattle.model.specs.Invariant.{Hold, HasPriority, IsSound, wait_of}
use Rattle.model.proofs.Sorting.{by_test}
use Rattle.model.proofs.Lists.{HasKey, list_has}
use Rattle.model.proofs.Tables.{ticket_at, each-set}
use Rattle.soundness.proofs.Sound.{changed, went_back}
use Rattle.soundness.proofs.Called.{waits_key}
use Rattle.std.proofs.Math.Nat.{le-max_left}

-- ---- what another priority leaves as it is

-- a task as it was, except for its priority, its ticket, and whether its wait has inherited
pub record SameBut (old new : Task) : Type 0 where
  pub base_priority : new.base_priority ≡ old.base_priority
  pub op_index : new.progress.op_index ≡ old.progress.op_index
  pub phase : new.progress.call.phase ≡ old.progress.call.phase
  pub deadline : new.progress.call.deadline ≡ old.progress.call.deadline
  pub ready : is_some (ticket_if_ready new.status) ≡ is_some (ticket_if_ready old.status)

same_but : (t : Task) → SameBut t t
same_but t = record { base_priority = refl; op_index = refl; phase = refl; deadline = refl; ready = refl }

same_both : (a b c : Task) → SameBut a b → SameBut b c → SameBut a c
same_both a b c h k = record {
  base_priority = k.base_priority ∙ h.base_priority;
  op_index = k.op_index ∙ h.op_index;
  phase = k.phase ∙ h.phase;
  deadline = k.deadline ∙ h.deadline;
  ready = k.ready ∙ h.ready;
}

-- Every task is the same in this sense, the same one runs, and the objects are as they were.
pub record Reranks (old new : State) : Type 0 where
  pub at : (j : ℕ) → SameBut (task_at old j) (task_at new j)
  pub current : new.current ≡ old.current
  pub objects : new.objects ≡ old.objects

reranks : (s : State) → Reranks s s
reranks s = record { at = λ j. same_but (task_at s j); current = refl; objects = refl }

reranks_both : (a b c : State) → Reranks a b → Reranks b c → Reranks a c
reranks_both a b c h k = record {
  at = λ j. same_both (task_at a j) (task_at b j) (task_at c j) (h.at j) (k.at j);
  current = k.current ∙ h.current;
  objects = k.objects ∙ h.objects;
}

-- one task changes in this way
reranks-with_task : (s : State) (i : ℕ) (t : Task) → SameBut (task_at s i) t → Reranks s (with_task i t s)
reranks-with_task s i t h = record {
  at = each-set no_task (λ j u. SameBut (task_at s j) u) s.tasks i t h (λ j. same_but (task_at s j));
  current = refl;
  objects = refl;
}

reranks-to_back : (s : State) (i : ℕ) → Reranks s (to_back i s)
unfolding to_back
reranks-to_back s i = by_test (is_ready s i)
    (λ t.
    let u : Task = record (task_at s i) { status = Ready s.next_ticket } in
    let h : SameBut (task_at s i) u =
    record { base_priority = refl; op_index = refl; phase = refl; deadline = refl; ready = sym t } in
    let k = reranks-with_task s i u h in
    rw t (record { at = k.at; current = refl; objects = refl }))
    (λ t. rw t (reranks s))

pub reranks-set_priority : (s : State) (i priority : ℕ) → Reranks s (set_priority i priority s)
unfolding set_priority
reranks-set_priority s i priority =
    let u : Task = record (task_at s i) { priority = priority } in
    let t : State = with_task i u s in
    by_test (eqb (task_at s i).priority priority)
    (λ e. rw e (reranks s))
    (λ e.
    rw e (reranks_both s t (to_back i t)
    (reranks-with_task s i u (record { base_priority = refl; op_index = refl; phase = refl; deadline = refl; ready = refl }))
    (reranks-to_back t i)))

reranks-raise : (s : State) (holder priority : ℕ) → Reranks s (raise holder priority s)
reranks-raise s holder priority = by_test (ltb (task_at s holder).priority priority)
    (λ t. rw t (reranks-set_priority s holder priority))
    (λ t. rw t (reranks s))

reranks-inherit_from : (s : State) (i holder : ℕ) → Reranks s (inherit_from i holder s)
reranks-inherit_from s i holder =
    let u : Task =
    record (task_at s i)
    { progress = record (progress_at s i) { call = record (call_at s i) { inherited = inherits i holder s } } } in
    let t : State = with_task i u s in
    reranks_both s t (raise holder (task_at s i).priority t)
    (reranks-with_task s i u (record { base_priority = refl; op_index = refl; phase = refl; deadline = refl; ready = refl }))
    (reranks-raise t holder (task_at s i).priority)

reranks-for_one : (deed : ℕ → State → State) (o : Option ℕ) (s : State)
    → ((i : ℕ) → Reranks s (deed i s)) → Reranks s (for_one deed o s)
reranks-for_one deed None s k = reranks s
reranks-for_one deed (Some i) s k = k i

pub reranks-inherit : (s : State) (i o : ℕ) → Reranks s (inherit i o s)
unfolding inherit
reranks-inherit s i o = reranks-for_one (inherit_from i) (object_at s o).holder s (reranks-inherit_from s i)

reranks-fall_back : (s : State) (o holder : ℕ) → Reranks s (fall_back o holder s)
reranks-fall_back s o holder = by_test (eqb (mutexes_held s holder) 1)
    (λ t. rw t (reranks-set_priority s holder _))
    (λ t. rw t (reranks s))

pub reranks-after_timeout : (s : State) (i o : ℕ) → Reranks s (after_timeout i o s)
unfolding after_timeout
reranks-after_timeout s i o = by_test (call_at s i).inherited
    (λ t. rw t (reranks-for_one (fall_back o) (object_at s o).holder s (reranks-fall_back s o)))
    (λ t. rw t (reranks s))

pub reranks-disinherit : (s : State) (i : ℕ) → Reranks s (disinherit i s)
unfolding disinherit
reranks-disinherit s i = by_test (eqb (mutexes_held s i) 0)
    (λ t. rw t (reranks-set_priority s i (task_at s i).base_priority))
    (λ t. rw t (reranks s))

-- ---- priorities stay within what there is

max_below : (a b n : ℕ) → a < n → b < n → max a b < n
max_below a b n h k = omega arith

-- the priority of a task's key in a waiting list
key_below : (list : WaitList) (u : Status) (k : Key) → IfSome (wait_of u) (λ w. w.priority < 32)
    → option_and_then (wait_key list) (wait_if_waiting u) ≡ Some k → k.priority < 32
key_below list (Ready n) k h e = absurd (cc)
key_below list (Awake w) k h e = absurd (cc)
key_below list (Waiting w) k h e = by_test (same_list w.list list)
    (λ t. let same : Some (key w.priority w.ticket) ≡ Some k = rw t at e in
    let q : key w.priority w.ticket ≡ k = cc in
    subst (λ (x : Key). x.priority < 32) q h)
    (λ t. let none : None ≡ Some k = rw t at e in absurd (cc))
key_below list (Asleep v n) k h e = absurd (cc)
key_below list (WaitingForBits g m d) k h e = absurd (cc)
key_below list (WaitingForNotification m d) k h e = absurd (cc)
key_below list Suspended k h e = absurd (cc)
key_below list Ended k h e = absurd (cc)

best_below : (s : State) (list : WaitList) → ((j : ℕ) → HasPriority (task_at s j)) → best_priority s list < 32
unfolding waits_key
best_below s list h = by_first (waiters s list) (list_has (waits_key list) s.tasks) where
  by_first : (es : List Entry) → AllByRecursion (HasKey (waits_key list) s.tasks) es
      → unwrap_or (option_map (λ (e : Entry). e.key.priority) (first es)) 0 < 32
  by_first [] a = omega arith
  by_first (e ∷ es) a = key_below list (status_at s e.task) e.key (h e.task).2 a.0.key

module _ (app : Application) (formed : IsWellFormed app) (hold : Hold) where
  pub prioritised : (s : State) (i priority : ℕ) → IsSound app hold s → i < length s.tasks
      → (task_at s i).base_priority ≤ priority → priority < 32 → IsSound app hold (set_priority i priority s)
  unfolding set_priority
  prioritised s i priority h l least most =
      let u : Task = record (task_at s i) { priority = priority } in
      let a = h.progress i in
      let c = h.calls i in
      by_test (eqb (task_at s i).priority priority)
      (λ t. rw t h)
      (λ t.
      rw t (went_back app formed hold (with_task i u s) (Some i)
      (changed app formed hold s i u h (ticket_at s.next_ticket i s.tasks h.table.tickets) (
        record { nests = a.nests; loops = a.loops; used = a.used; reckoned = a.reckoned; stamped = a.stamped },
        record { phase = c.phase; wait = c.wait; awake = c.awake; near = c.near },
        (least, most, (h.priorities i).2),
      )) (rw length-set l)))

  raised : (s : State) (holder priority : ℕ) → IsSound app hold s → holder < length s.tasks
      → priority < 32 → IsSound app hold (raise holder priority s)
  raised s holder priority h l most = by_test (ltb (task_at s holder).priority priority)
      (λ t. let below = ltb-true (task_at s holder).priority priority t in
      let least = (h.priorities holder).0 in
      rw t (prioritised s holder priority h l (omega arith) most))
      (λ t. rw t h)

  inherited_from : (s : State) (i holder : ℕ) → IsSound app hold s
      → holder < length s.tasks → IsSound app hold (inherit_from i holder s)
  inherited_from s i holder h l =
      let u : Task =
      record (task_at s i)
      { progress = record (progress_at s i) { call = record (call_at s i) { inherited = inherits i holder s } } } in
      let a = h.progress i in
      let c = h.calls i in
      raised (with_task i u s) holder (task_at s i).priority
      (changed app formed hold s i u h (ticket_at s.next_ticket i s.tasks h.table.tickets) (
        record { nests = a.nests; loops = a.loops; used = a.used; reckoned = a.reckoned; stamped = a.stamped },
        record { phase = c.phase; wait = c.wait; awake = c.awake; near = c.near },
        h.priorities i,
      )) (rw length-set l) (h.priorities i).1

  of_holder : (deed : ℕ → State → State) (o : Option ℕ) (s : State) → IsSound app hold s
      → IfSome o (λ holder. holder < length s.tasks)
      → ((holder : ℕ) → holder < length s.tasks → IsSound app hold (deed holder s)) → IsSound app hold (for_one deed o s)
  of_holder deed None s h l k = h
  of_holder deed (Some holder) s h l k = k holder l

  -- a task that will wait
  pub inherited : (s : State) (i o : ℕ) → IsSound app hold s → IsSound app hold (inherit i o s)
  unfolding inherit
  inherited s i o h =
      of_holder (inherit_from i) (object_at s o).holder s h (h.table.holders o) (λ holder l. inherited_from s i holder h l)

  fallen_back : (s : State) (o holder : ℕ) → IsSound app hold s → holder < length s.tasks → IsSound app hold (fall_back o holder s)
  fallen_back s o holder h l =
      let best : ℕ = best_priority s (ToReceive o) in
      let base : ℕ = (task_at s holder).base_priority in
      let p = h.priorities holder in
      let low : base < 32 = omega arith in
      by_test (eqb (mutexes_held s holder) 1)
      (λ t.
      rw t (prioritised s holder (max base best) h l (le-max_left base best)
      (max_below base best 32 low (best_below s (ToReceive o) h.priorities))))
      (λ t. rw t h)

  -- a call that fails
  pub timed_out : (s : State) (i o : ℕ) → IsSound app hold s → IsSound app hold (after_timeout i o s)
  unfolding after_timeout
  timed_out s i o h = by_test (call_at s i).inherited
      (λ t. rw t (of_holder (fall_back o) (object_at s o).holder s h (h.table.holders o) (λ holder l. fallen_back s o holder h l)))
      (λ t. rw t h)

  -- a task that gives a mutex back
  pub disinherited : (s : State) (i : ℕ) → IsSound app hold s → i < length s.tasks → IsSound app hold (disinherit i s)
  unfolding disinherit
  disinherited s i h l =
      let p = h.priorities i in
      by_test (eqb (mutexes_held s i) 0)
      (λ t. rw t (prioritised s i (task_at s i).base_priority h l (omega arith) (omega arith)))
      (λ t. rw t h)
