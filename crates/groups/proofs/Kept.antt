-- Changes of a state that leave the waits for bits as they are: the groups still represent it.
use Rattle.std.proofs.Common.{get_or, ◌≡◌, ℕ, eqb, true, List, [], ◌∷◌, None, refl, ap, sym, ◌∙◌}
use Rattle.std.specs.List.{AllByRecursion}
use Rattle.std.specs.Option.{is_some}
use Rattle.model.specs.declared.call.CallProgress.{CallProgress}
use Rattle.model.specs.declared.call.Phase.{Phase}
use Rattle.model.specs.State.{State, Task, Object, Progress, Status, Ready, Awake, Waiting, Asleep, WaitingForBits}
use Rattle.model.specs.State.{WaitingForNotification, Suspended}
use Rattle.model.specs.State.{Ended, no_task, task_at, status_at, progress_at, call_at, with_task, with_call, with_object}
use Rattle.model.specs.State.{with_progress, go_on, take_ticket, for_each}
use Rattle.model.specs.Switching.{make_ready, to_back, is_ready}
use Rattle.model.specs.Mutexes.{set_priority}
use Rattle.model.specs.Suspension.{can_resume, resume, resumed}
use Rattle.model.specs.Invariant.{IsTable}
use Rattle.model.proofs.Sorting.{by_test}
use Rattle.model.proofs.Tables.{each-set, table-set, ticket_at}
use Rattle.groups.specs.EventGroups.{EventGroups}
use Rattle.groups.specs.StandsFor.{SameEventWaits, StandsFor, event_wait}
use Rattle.groups.proofs.Keys.{ready_free_of_bits}
use Rattle.groups.proofs.Standing.{stands_same}

-- ---- one deed, and then another

pub same : (s : State) → SameEventWaits s s
same s = record { bits = λ group. refl; waits = λ i. refl; wants = λ i some. refl }

pub same_both : (a b c : State) → SameEventWaits a b → SameEventWaits b c → SameEventWaits a c
same_both a b c h k = record {
  bits = λ group. k.bits group ∙ h.bits group;
  waits = λ i. k.waits i ∙ h.waits i;
  wants = λ i some. k.wants i (ap is_some (h.waits i) ∙ some) ∙ h.wants i some;
}

-- the tasks and the bits are the same: another time, other objects, another one runs, ..
pub same_parts : (s t : State) → t.tasks ≡ s.tasks → t.group_bits ≡ s.group_bits → SameEventWaits s t
same_parts s t tasks bits = record {
  bits = λ group. ap (λ (bs : ℕ → ℕ). bs group) bits;
  waits = λ i. ap (λ (ts : List Task). event_wait (get_or ts i no_task).status) tasks;
  wants = λ i some. ap (λ (ts : List Task). (get_or ts i no_task).progress.call.wants) tasks;
}

-- ---- a task changes

-- and waits for the same as before
pub same_task : (i : ℕ) (t : Task) (s : State) → event_wait t.status ≡ event_wait (status_at s i)
    → (is_some (event_wait (status_at s i)) ≡ true → t.progress.call.wants ≡ (call_at s i).wants)
    → SameEventWaits s (with_task i t s)
same_task i t s waits wants =
    let W : ℕ → Task → Type 0 = λ j u. event_wait u.status ≡ event_wait (status_at s j) in
    let C : ℕ → Task → Type 0 = λ j u. is_some (event_wait (status_at s j)) ≡ true → u.progress.call.wants ≡ (call_at s j).wants in
    record {
      bits = λ group. refl;
      waits = each-set no_task W s.tasks i t waits (λ j. refl);
      wants = each-set no_task C s.tasks i t wants (λ j some. refl);
    }

-- one that doesn't wait for bits, before and after
pub same_free : (i : ℕ) (t : Task) (s : State) → event_wait t.status ≡ None
    → event_wait (status_at s i) ≡ None → SameEventWaits s (with_task i t s)
same_free i t s now was = same_task i t s (now ∙ sym was) (λ some. absurd (let none = ap is_some was in cc))

pub same_status : (i : ℕ) (u : Status) (s : State) → event_wait u ≡ None → event_wait (status_at s i) ≡ None
    → SameEventWaits s (with_task i (record (task_at s i) { status = u }) s)
same_status i u s now was = same_free i (record (task_at s i) { status = u }) s now was

pub same_ticket : (i : ℕ) (f : ℕ → Status) (s : State) → event_wait (f s.next_ticket) ≡ None
    → event_wait (status_at s i) ≡ None → SameEventWaits s (take_ticket i f s)
same_ticket i f s now was =
    let k = same_status i (f s.next_ticket) s now was in
    record { bits = k.bits; waits = k.waits; wants = k.wants }

-- its progress, if its call wants the same as before
pub same_progress : (i : ℕ) (p : Progress) (s : State) → p.call.wants ≡ (call_at s i).wants → SameEventWaits s (with_progress i p s)
same_progress i p s wants = same_task i (record (task_at s i) { progress = p }) s refl (λ some. wants)

-- or if it doesn't wait for bits
pub same_progress_free : (i : ℕ) (p : Progress) (s : State)
    → event_wait (status_at s i) ≡ None → SameEventWaits s (with_progress i p s)
same_progress_free i p s was = same_free i (record (task_at s i) { progress = p }) s was was

pub same_call : (i : ℕ) (call : CallProgress) (s : State) → call.wants ≡ (call_at s i).wants → SameEventWaits s (with_call i call s)
same_call i call s wants = same_progress i (record (progress_at s i) { call = call }) s wants

pub same_go_on : (i : ℕ) (phase : Phase) (s : State) → SameEventWaits s (go_on i phase s)
same_go_on i phase s = same_call i (record (call_at s i) { phase = phase }) s refl

-- ---- the table stays in order

pub table-progress : (s : State) (i : ℕ) (p : Progress) → IsTable s → IsTable (with_progress i p s)
table-progress s i p h = table-set s i (record (task_at s i) { progress = p }) h (ticket_at s.next_ticket i s.tasks h.tickets)

pub stands_progressed : (v : EventGroups) (s : State) (i : ℕ) (p : Progress) → StandsFor v s
    → p.call.wants ≡ (call_at s i).wants → StandsFor v (with_progress i p s)
stands_progressed v s i p h wants =
    stands_same v s (with_progress i p s) h (same_progress i p s wants) (table-progress s i p h.table)

pub stands_progressed_free : (v : EventGroups) (s : State) (i : ℕ) (p : Progress)
    → StandsFor v s → event_wait (status_at s i) ≡ None → StandsFor v (with_progress i p s)
stands_progressed_free v s i p h was =
    stands_same v s (with_progress i p s) h (same_progress_free i p s was) (table-progress s i p h.table)

-- ---- who runs

pub same_ready : (i : ℕ) (s : State) → event_wait (status_at s i) ≡ None → SameEventWaits s (make_ready i s)
same_ready i s was = same_ticket i Ready s refl was

pub same_all_ready : (is : List ℕ) (s : State) → AllByRecursion (λ i. event_wait (status_at s i) ≡ None) is
    → SameEventWaits s (for_each make_ready is s)
same_all_ready [] s h = same s
same_all_ready (i ∷ is) s h =
    let k = same_ready i s h.0 in
    same_both s (make_ready i s) (for_each make_ready is (make_ready i s))
    k (same_all_ready is (make_ready i s) (still is h.1)) where
      still : (js : List ℕ) → AllByRecursion (λ j. event_wait (status_at s j) ≡ None) js
          → AllByRecursion (λ j. event_wait (status_at (make_ready i s) j) ≡ None) js
      still [] h' = tt
      still (j ∷ js) h' = ((same_ready i s h.0).waits j ∙ h'.0, still js h'.1)

-- a Ready task doesn't wait for bits
pub ready_waits_not : (s : State) (i : ℕ) → is_ready s i ≡ true → event_wait (status_at s i) ≡ None
ready_waits_not s i on = ready_free_of_bits (status_at s i) on

pub same_to_back : (i : ℕ) (s : State) → SameEventWaits s (to_back i s)
unfolding to_back
same_to_back i s = by_test (is_ready s i) (λ t. rw t (same_ready i s (ready_waits_not s i t))) (λ t. rw t (same s))

-- ---- objects, priorities, and a task that is resumed

pub same_object : (o : ℕ) (x : Object) (s : State) → SameEventWaits s (with_object o x s)
same_object o x s = same_parts s (with_object o x s) refl refl

pub same_set_priority : (i priority : ℕ) (s : State) → SameEventWaits s (set_priority i priority s)
unfolding set_priority
same_set_priority i priority s =
    let t : Task = record (task_at s i) { priority = priority } in
    let ranked : State = with_task i t s in
    by_test (eqb (task_at s i).priority priority)
    (λ e. rw e (same s))
    (λ e. rw e (same_both s ranked (to_back i ranked) (same_task i t s refl (λ some. refl)) (same_to_back i ranked)))

resumed_waits_not : (u : Status) → can_resume u ≡ true → event_wait u ≡ None
resumed_waits_not (Ready n) t = absurd cc
resumed_waits_not (Awake w) t = absurd cc
resumed_waits_not (Waiting w) t = absurd cc
resumed_waits_not (Asleep w n) t = absurd cc
resumed_waits_not (WaitingForBits g n d) t = absurd cc
resumed_waits_not (WaitingForNotification n d) t = absurd cc
resumed_waits_not Suspended t = refl
resumed_waits_not Ended t = absurd cc

pub same_resume : (i : ℕ) (s : State) → SameEventWaits s (resume i s)
unfolding resume
same_resume i s =
    let p : Progress = resumed s.time (progress_at s i) in
    let on : State = with_progress i p s in
    by_test (can_resume (status_at s i))
    (λ t.
    let was : event_wait (status_at s i) ≡ None = resumed_waits_not (status_at s i) t in
    let k : SameEventWaits s on = same_progress i p s refl in
    rw t (same_both s on (make_ready i on) k (same_ready i on (k.waits i ∙ was))))
    (λ t. rw t (same s))
