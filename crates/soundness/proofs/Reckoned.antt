-- Who wakes when, and calls that go on as time passes.
use Rattle.std.proofs.Common.{◌≡◌, ◌≢◌, ◌<◌, ◌≤◌, ◌+◌, ◌-◌, ℕ, true, false, eqb, List, ◌∷◌, []}
use Rattle.std.proofs.Common.{length, Option, Some, None, refl, sym, subst, arith, get_or-set_same}
use Rattle.std.proofs.Common.{get_or-set_other}
use Rattle.std.specs.List.{AllByRecursion, filter}
use Rattle.std.specs.Option.{IfSome, is_some, option_eq}
use Rattle.std.proofs.Math.ListN.{length-set}
use Rattle.model.specs.declared.op.Op.{Op}
use Rattle.model.specs.declared.call.CallProgress.{CallProgress}
use Rattle.model.specs.State.{State, Task, Status, Wait, Ready, Awake, Waiting, Asleep, WaitingForBits}
use Rattle.model.specs.State.{WaitingForNotification, Suspended, Ended, ticket_if_ready, ticket_of, wake_time_of, no_call, task_at}
use Rattle.model.specs.State.{progress_at, status_at, no_task}
use Rattle.model.specs.Order.{Entry, tasks_of}
use Rattle.model.specs.Switching.{make_ready}
use Rattle.model.specs.Waiting.{is_locked}
use Rattle.model.specs.Time.{is_due}
use Rattle.model.specs.Invariant.{IsReckoned, Hold, course}
use Rattle.model.specs.Invariant.{IsPhaseOf, IsWaitOf, IsCall, wait_of}
use Rattle.model.proofs.Sorting.{by_test}
use Rattle.model.proofs.Lists.{eqb-refl, eqb-same}
use Rattle.model.proofs.Statuses.{free_unwoken}

-- ---- who wakes when

pub later_reckoned : (n now previous : ℕ) (u : Status) → IsReckoned now previous u → IsReckoned (now + n) previous u
later_reckoned n now p (Ready t) h = omega arith
later_reckoned n now p (Awake w) h = omega arith
later_reckoned n now p (Waiting w) h = omega arith
later_reckoned n now p (Asleep w t) h = h
later_reckoned n now p (WaitingForBits g m d) h = omega arith
later_reckoned n now p (WaitingForNotification m d) h = omega arith
later_reckoned n now p Suspended h = tt
later_reckoned n now p Ended h = tt

pub ready_reckoned : (now previous : ℕ) (u : Status) → IsReckoned now previous u
    → is_some (ticket_if_ready u) ≡ true → previous ≤ now
ready_reckoned now p (Ready n) h t = h
ready_reckoned now p (Awake w) h t = h
ready_reckoned now p (Waiting w) h t = h
ready_reckoned now p (Asleep w n) h t = absurd (cc)
ready_reckoned now p (WaitingForBits g m d) h t = absurd (cc)
ready_reckoned now p (WaitingForNotification m d) h t = absurd (cc)
ready_reckoned now p Suspended h t = absurd (cc)
ready_reckoned now p Ended h t = absurd (cc)

pub reckoned_now : (now previous : ℕ) (u : Status) → previous ≤ now → wake_time_of u ≡ None → IsReckoned now previous u
reckoned_now now p (Ready n) h t = h
reckoned_now now p (Awake w) h t = h
reckoned_now now p (Waiting w) h t = h
reckoned_now now p (Asleep w n) h t = absurd (cc)
reckoned_now now p (WaitingForBits g m d) h t = h
reckoned_now now p (WaitingForNotification m d) h t = h
reckoned_now now p Suspended h t = tt
reckoned_now now p Ended h t = tt

-- one who isn't Ready, and has no other ticket either
pub reckoned_ended : (now previous : ℕ) (u : Status) → is_some (ticket_if_ready u) ≡ false
    → is_some (ticket_of u) ≡ is_some (ticket_if_ready u) → IsReckoned now previous u
reckoned_ended now p (Ready n) h t = absurd (cc)
reckoned_ended now p (Awake w) h t = absurd (cc)
reckoned_ended now p (Waiting w) h t = absurd (cc)
reckoned_ended now p (Asleep w n) h t = absurd (cc)
reckoned_ended now p (WaitingForBits g m d) h t = absurd (cc)
reckoned_ended now p (WaitingForNotification m d) h t = absurd (cc)
reckoned_ended now p Suspended h t = tt
reckoned_ended now p Ended h t = tt

pub ready_alone : (u : Status) → is_some (ticket_if_ready u) ≡ true → is_some (ticket_of u) ≡ is_some (ticket_if_ready u)
ready_alone (Ready n) t = refl
ready_alone (Awake w) t = absurd (cc)
ready_alone (Waiting w) t = absurd (cc)
ready_alone (Asleep w n) t = absurd (cc)
ready_alone (WaitingForBits g m d) t = absurd (cc)
ready_alone (WaitingForNotification m d) t = absurd (cc)
ready_alone Suspended t = absurd (cc)
ready_alone Ended t = absurd (cc)

due_reckoned : (now previous : ℕ) (u : Status) → IsReckoned now previous u
    → option_eq eqb (wake_time_of u) (Some now) ≡ true → previous ≤ now
due_reckoned now p (Ready n) h t = absurd (cc)
due_reckoned now p (Awake w) h t = h
due_reckoned now p (Waiting w) h t = h
due_reckoned now p (Asleep w n) h t = let e = eqb-same w now t in omega arith
due_reckoned now p (WaitingForBits g m d) h t = h
due_reckoned now p (WaitingForNotification m d) h t = h
due_reckoned now p Suspended h t = absurd (cc)
due_reckoned now p Ended h t = absurd (cc)

-- a task that may become Ready now
abbrev pub CanBeReady : State → ℕ → Type 0
CanBeReady s i = (i < length s.tasks) × ((progress_at s i).previous_wake ≤ s.time)

pub can_still : (s : State) (i j : ℕ) → CanBeReady s i → CanBeReady s j → CanBeReady (make_ready i s) j
can_still s i j c d = (
  rw length-set d.0,
  by_test (eqb j i)
      (λ u. let same : j ≡ i = eqb-same j i u in
      rw (same, get_or-set_same s.tasks i (record (task_at s i) { status = Ready s.next_ticket }) no_task c.0, progress_at) c.1)
      (λ u. let apart : j ≢ i = (λ q. let w : eqb j i ≡ true = rw q (eqb-refl i) in absurd (cc)) in
      rw (get_or-set_other s.tasks i j (record (task_at s i) { status = Ready s.next_ticket }) no_task apart, progress_at) d.1),
)

pub still_can : (s : State) (i : ℕ) (js : List ℕ) → CanBeReady s i
    → AllByRecursion (CanBeReady s) js → AllByRecursion (CanBeReady (make_ready i s)) js
still_can s i [] c a = tt
still_can s i (j ∷ js) c a = (can_still s i j c a.0, still_can s i js c a.1)

pub due_can : (s : State) → ((i : ℕ) → IsReckoned s.time (progress_at s i).previous_wake (status_at s i)) → (es : List Entry)
    → AllByRecursion (λ (e : Entry). e.task < length s.tasks) es → AllByRecursion (CanBeReady s) (tasks_of (filter (is_due s) es))
due_can s r [] a = tt
due_can s r (e ∷ es) a = by_test (is_due s e)
    (λ t.
    rw t ((a.0, due_reckoned s.time (progress_at s e.task).previous_wake (status_at s e.task) (r e.task) t), due_can s r es a.1))
    (λ t. rw t (due_can s r es a.1))

-- ---- changes of a list of what is kept

-- ---- calls

-- a task that doesn't wait, whose call hasn't begun or goes on as it is
pub call_free : (hold : Hold) (now : ℕ) (op : Option Op) (t : Task) (status : Status)
    → wait_of status ≡ None → IsCall hold now op t → IsCall hold now op (record t { status = status })
call_free hold now op t status free c =
    let W : Option Wait → Type 0 = λ o. IfSome o (λ w. IsWaitOf op t.progress.call.deadline w) in
    let A : Option Wait → Type 0 = λ o. IfSome o (λ w. is_locked hold.locked w.list ≡ true) in
    record { phase = c.phase; wait = subst W (sym free) tt; awake = subst A (sym (free_unwoken status free)) tt; near = c.near }

-- a call that hasn't begun
pub call_none : (hold : Hold) (now : ℕ) (op : Option Op) (t : Task)
    → t.progress.call ≡ no_call → wait_of t.status ≡ None → IsCall hold now op t
call_none hold now op t none free =
    let P : CallProgress → Type 0 = λ call. IsPhaseOf hold (course op) call.phase in
    let W : Option Wait → Type 0 = λ o. IfSome o (λ w. IsWaitOf op t.progress.call.deadline w) in
    let A : Option Wait → Type 0 = λ o. IfSome o (λ w. is_locked hold.locked w.list ≡ true) in
    let N : CallProgress → Type 0 = λ call. IfSome call.deadline (λ deadline. deadline < now + 4294967296) in
    record {
      phase = subst P (sym none) tt;
      wait = subst W (sym free) tt;
      awake = subst A (sym (free_unwoken t.status free)) tt;
      near = subst N (sym none) tt;
    }

-- time passes
near_later : (n : ℕ) (o : Option ℕ) (now : ℕ) → IfSome o (λ deadline. deadline < now + 4294967296)
    → IfSome o (λ deadline. deadline < (now + n) + 4294967296)
near_later n None now h = tt
near_later n (Some deadline) now h = omega arith

pub call_later : (n : ℕ) (hold : Hold) (now : ℕ) (op : Option Op) (t : Task) → IsCall hold now op t → IsCall hold (now + n) op t
call_later n hold now op t c =
    record { phase = c.phase; wait = c.wait; awake = c.awake; near = near_later n t.progress.call.deadline now c.near }
