-- What the ticks that were held make of the tasks when they are applied.
use Rattle.std.proofs.Common.{◌≡◌, ◌≢◌, ◌+◌, ◌-◌, ℕ, zero, suc, true, eqb, List, [], ◌∷◌, Some, refl, ap, subst, ◌∙◌}
use Rattle.std.proofs.Common.{get_or-set_other, sym}
use Rattle.std.specs.List.{AllByRecursion, filter}
use Rattle.std.specs.Option.{is_some, option_eq}
use Rattle.model.specs.State.{State, Task, Status, Ready, Awake, Waiting, Asleep, WaitingForBits, WaitingForNotification, Suspended}
use Rattle.model.specs.State.{Ended, ticket_if_ready, wake_time_of, task_at, status_at, for_each, no_task}
use Rattle.model.specs.Order.{Entry, tasks_of}
use Rattle.model.specs.Switching.{make_ready, is_ready}
use Rattle.model.specs.Time.{wake_due, due, is_due, delayed_list, advance, apply_one, apply_held}
use Rattle.model.proofs.Unlocking.{current-all_ready}
use Rattle.model.proofs.Sorting.{by_test}

ready_not_due : (now : ℕ) (u : Status) → is_some (ticket_if_ready u) ≡ true → option_eq eqb (wake_time_of u) (Some now) ≡ true → ⊥
ready_not_due now (Ready n) r t = absurd (cc)
ready_not_due now (Awake w) r t = absurd (cc)
ready_not_due now (Waiting w) r t = absurd (cc)
ready_not_due now (Asleep v n) r t = absurd (cc)
ready_not_due now (WaitingForBits g m d) r t = absurd (cc)
ready_not_due now (WaitingForNotification m d) r t = absurd (cc)
ready_not_due now Suspended r t = absurd (cc)
ready_not_due now Ended r t = absurd (cc)

pub due_apart : (s : State) (i : ℕ) → is_ready s i ≡ true → (es : List Entry)
    → AllByRecursion (λ j. j ≢ i) (tasks_of (filter (is_due s) es))
due_apart s i r [] = tt
due_apart s i r (e ∷ es) = by_test (is_due s e)
    (λ t.
    rw t (
      (λ same.
          ready_not_due s.time (status_at s i) r
          (subst (λ k. option_eq eqb (wake_time_of (status_at s k)) (Some s.time) ≡ true) same t)),
      due_apart s i r es,
    ))
    (λ t. rw t (due_apart s i r es))

pub all_but : (js : List ℕ) (i : ℕ) (s : State) → AllByRecursion (λ j. j ≢ i) js
    → task_at (for_each make_ready js s) i ≡ task_at s i
all_but [] i s h = refl
all_but (j ∷ js) i s h =
    all_but js i (make_ready j s) h.1
    ∙ get_or-set_other s.tasks j i (record (task_at s j) { status = Ready s.next_ticket }) no_task (λ e. h.0 (sym e))

one_apart : (s : State) (i : ℕ) → is_ready s i ≡ true → task_at (apply_one s) i ≡ task_at s i
unfolding apply_one advance wake_due
one_apart s i r =
    let t : State = record s { time = s.time + 1; held_ticks = s.held_ticks - 1 } in
    all_but (tasks_of (due t)) i t (due_apart t i r (delayed_list t))

-- ticks that were held leave a Ready task as it is
pub applied_apart : (n : ℕ) (s : State) (i : ℕ) → is_ready s i ≡ true → task_at (apply_held n s) i ≡ task_at s i
applied_apart zero s i r = refl
applied_apart (suc n) s i r =
    let one = one_apart s i r in
    applied_apart n (apply_one s) i (ap (λ (u : Task). is_some (ticket_if_ready u.status)) one ∙ r) ∙ one

-- and the same task runs
pub current-applied : (n : ℕ) (s : State) → (apply_held n s).current ≡ s.current
unfolding apply_one advance wake_due
current-applied zero s = refl
current-applied (suc n) s =
    let later : State = record s { time = s.time + 1; held_ticks = s.held_ticks - 1 } in
    current-applied n (apply_one s) ∙ current-all_ready later (tasks_of (due later))
