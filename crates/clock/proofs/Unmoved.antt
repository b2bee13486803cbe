-- A change of a task's priority leaves the sleepers as they are.
use Rattle.std.proofs.Common.{◌≡◌, ℕ, ◌<◌, ◌≤◌, inl, inr, true, List, length, sym, ap, subst, refl, eqb}
use Rattle.std.specs.Option.{is_some}
use Rattle.std.proofs.lemmas.Bool.{cases_lt}
use Rattle.std.proofs.lemmas.List.{get_or_past, set_past}
use Rattle.model.specs.State.{State, Task, Ready, no_task, task_at, status_at, with_task, ticket_if_ready, wake_time_of}
use Rattle.model.specs.Switching.{is_ready, make_ready, to_back}
use Rattle.model.specs.Mutexes.{set_priority}
use Rattle.model.specs.Invariant.{HasTicketBelow}
use Rattle.model.proofs.Sorting.{by_test}
use Rattle.model.proofs.Statuses.{ready_awake}
use Rattle.model.proofs.Tables.{table-make_ready, table-set, ticket_at}
use Rattle.clock.specs.Timeline.{Timeline}
use Rattle.clock.specs.StandsFor.{StandsFor}
use Rattle.clock.proofs.Sleepers.{SleepsAlike, asleep_none, delayed_status_key, stands_kept}

-- a change of a task that isn't in the table is none
with_task-past : (s : State) (i : ℕ) (u : Task) → length s.tasks ≤ i → with_task i u s ≡ s
with_task-past s i u past = ap (λ (ts : List Task). record s { tasks = ts }) (set_past s.tasks i u past)

-- a Ready task is in the table
ready_within : (s : State) (i : ℕ) → is_ready s i ≡ true → i < length s.tasks
ready_within s i on = elim (cases_lt i (length s.tasks)) [
  | inl l ↦ l
  | inr past ↦ absurd (let none = ap (λ (u : Task). is_some (ticket_if_ready u.status)) (get_or_past s.tasks i no_task past) in cc)
]

-- a task changes, but not what it is doing
stands_changed : (t : Timeline) (s : State) (i : ℕ) (u : Task) → StandsFor t s
    → u.status ≡ status_at s i → StandsFor t (with_task i u s)
stands_changed t s i u h same = elim (cases_lt i (length s.tasks)) [
  | inl l ↦
      let alike : SleepsAlike u.status (status_at s i) =
      record { key = ap delayed_status_key same; wake_time = ap wake_time_of same } in
      let below : HasTicketBelow s.next_ticket u.status =
      subst (HasTicketBelow s.next_ticket) (sym same) (ticket_at s.next_ticket i s.tasks h.table.tickets) in
      stands_kept t s (with_task i u s) i u h l refl refl refl alike (table-set s i u h.table below)
  | inr past ↦ subst (StandsFor t) (sym (with_task-past s i u past)) h
]

-- a Ready task goes behind its equals
stands_back : (t : Timeline) (s : State) (i : ℕ) → StandsFor t s → is_ready s i ≡ true → StandsFor t (make_ready i s)
stands_back t s i h on =
    let u : Task = record (task_at s i) { status = Ready s.next_ticket } in
    let alike : SleepsAlike u.status (status_at s i) =
    record { key = sym (asleep_none (status_at s i) on); wake_time = sym (ready_awake (status_at s i) on) } in
    stands_kept t s (make_ready i s) i u h (ready_within s i on) refl refl refl alike (table-make_ready s i h.table)

pub stands_prioritised : (t : Timeline) (s : State) (i priority : ℕ) → StandsFor t s → StandsFor t (set_priority i priority s)
unfolding set_priority to_back
stands_prioritised t s i priority h =
    let ranked : State = with_task i (record (task_at s i) { priority = priority }) s in
    let stands : StandsFor t ranked = stands_changed t s i (record (task_at s i) { priority = priority }) h refl in
    by_test (eqb (task_at s i).priority priority)
    (λ e. rw e h)
    (λ e. rw e (by_test (is_ready ranked i)
    (λ on. rw on (stands_back t ranked i stands on))
    (λ on. rw on stands)))
