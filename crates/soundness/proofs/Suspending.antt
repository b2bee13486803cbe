-- What suspending and resuming keep, of a task and of the scheduler.
use Rattle.std.proofs.Common.{◌≡◌, ◌<◌, ◌≤◌, ◌+◌, ◌-◌, ℕ, zero, suc, true, false, eqb, ltb, ltb-false, min, List, [], ◌∷◌, length}
use Rattle.std.proofs.Common.{get_or, set, None, refl, ap, sym, subst, ◌∙◌, arith, get_or-set_same}
use Rattle.std.proofs.Math.ListN.{length-set}
use Rattle.std.proofs.lemmas.Bool.{ltb-true}
use Rattle.std.proofs.lemmas.List.{get_or_past}
use Rattle.model.specs.Application.{Application}
use Rattle.model.specs.Scripts.{IsWellFormed}
use Rattle.model.specs.State.{State, Task, Progress, Status, Ready, Awake, Waiting, Asleep, WaitingForBits, WaitingForNotification}
use Rattle.model.specs.State.{Suspended, Ended, task_at, status_at, progress_at, with_task, with_progress, no_task}
use Rattle.model.specs.Switching.{make_ready}
use Rattle.model.specs.Time.{advance, apply_one, apply_held}
use Rattle.model.specs.Suspension.{can_suspend, can_resume, suspend, resumed, resume, resume_scheduler}
use Rattle.model.specs.Invariant.{IsReckoned, Hold, Suspension, IsSound, wait_of}
use Rattle.model.proofs.Sorting.{by_test}
use Rattle.model.proofs.Tables.{ticket_at, each-set}
use Rattle.soundness.proofs.Keeping.{keeps-wake_due}
use Rattle.soundness.proofs.Sound.{changed, made_ready, kept_free, held_no_more, otherwise, woken}
use Rattle.soundness.proofs.Called.{phase_again}

-- ---- a task that is resumed

pub suspended_free : (u : Status) → can_resume u ≡ true → wait_of u ≡ None
suspended_free (Ready n) t = absurd (cc)
suspended_free (Awake w) t = absurd (cc)
suspended_free (Waiting w) t = absurd (cc)
suspended_free (Asleep v n) t = absurd (cc)
suspended_free (WaitingForBits g m d) t = absurd (cc)
suspended_free (WaitingForNotification m d) t = absurd (cc)
suspended_free Suspended t = refl
suspended_free Ended t = absurd (cc)

-- one who may be resumed counts from any time
suspended_reckoned : (now previous : ℕ) (u : Status) → can_resume u ≡ true → IsReckoned now previous u
suspended_reckoned now p (Ready n) t = absurd (cc)
suspended_reckoned now p (Awake w) t = absurd (cc)
suspended_reckoned now p (Waiting w) t = absurd (cc)
suspended_reckoned now p (Asleep v n) t = absurd (cc)
suspended_reckoned now p (WaitingForBits g m d) t = absurd (cc)
suspended_reckoned now p (WaitingForNotification m d) t = absurd (cc)
suspended_reckoned now p Suspended t = tt
suspended_reckoned now p Ended t = absurd (cc)

set_twice : {A : Type 0} (xs : List A) (i : ℕ) (x y : A) → set (set xs i x) i y ≡ set xs i y
set_twice [] i x y = refl
set_twice (z ∷ zs) zero x y = refl
set_twice (z ∷ zs) (suc i) x y = ap (λ us. z ∷ us) (set_twice zs i x y)

module _ (s : State) (j : ℕ) (suspended : can_resume (status_at s j) ≡ true) where
  -- where it is in its script from now on
  abbrev pub back : Progress
  back = resumed s.time (progress_at s j)

  -- what it is from now on
  abbrev pub ready_again : Task
  ready_again = record (task_at s j) { progress = back; status = Ready s.next_ticket }

  pub is_there : j < length s.tasks
  is_there = by_test (ltb j (length s.tasks))
      (λ t. ltb-true j (length s.tasks) t)
      (λ t.
      let none : task_at s j ≡ no_task = get_or_past s.tasks j no_task (ltb-false j (length s.tasks) t) in
      let f : can_resume (status_at s j) ≡ false = ap (λ (u : Task). can_resume u.status) none in
      absurd (cc))

  pub resumed_tasks : (make_ready j (with_progress j back s)).tasks ≡ set s.tasks j ready_again
  resumed_tasks =
      let t : Task = record (task_at s j) { progress = back } in
      ap (λ (u : Task). set (set s.tasks j t) j (record u { status = Ready s.next_ticket }))
      (get_or-set_same s.tasks j t no_task is_there)
      ∙ set_twice s.tasks j t (record t { status = Ready s.next_ticket })

  -- What is true of it now, and of each other as it was, is true of each.
  pub each_resumed : (P : ℕ → Task → Type 0) → P j ready_again → ((i : ℕ) → P i (task_at s i))
      → (i : ℕ) → P i (task_at (make_ready j (with_progress j back s)) i)
  each_resumed P one h i =
      subst (λ (ts : List Task). P i (get_or ts i no_task)) (sym resumed_tasks) (each-set no_task P s.tasks j ready_again one h i)

low_min : (a b : ℕ) → min a b ≤ b
low_min a b = omega arith

module _ (app : Application) (formed : IsWellFormed app) (hold : Hold) where
  pub suspended_task : (s : State) (j : ℕ) → IsSound app hold s → IsSound app hold (suspend j s)
  unfolding suspend
  suspended_task s j h = by_test (can_suspend (status_at s j))
      (λ t.
      rw t (changed app formed hold s j (record (task_at s j) { status = Suspended })
      h tt (kept_free app formed hold s j Suspended h refl tt)))
      (λ t. rw t h)

  resumed_one : (s : State) (j : ℕ) → IsSound app hold s → can_resume (status_at s j) ≡ true
      → IsSound app hold (make_ready j (with_progress j (resumed s.time (progress_at s j)) s))
  resumed_one s j h suspended =
      let p : Progress = resumed s.time (progress_at s j) in
      let t : Task = record (task_at s j) { progress = p } in
      let a = h.progress j in
      let c = h.calls j in
      let l : j < length s.tasks = is_there s j suspended in
      let s1 : State = with_task j t s in
      let h1 : IsSound app hold s1 = changed app formed hold s j t h (ticket_at s.next_ticket j s.tasks h.table.tickets) (
        record {
          nests = a.nests;
          loops = a.loops;
          used = a.used;
          reckoned = suspended_reckoned s.time p.previous_wake (status_at s j) suspended;
          stamped = a.stamped;
        },
        record { phase = phase_again hold _ (progress_at s j).call.phase c.phase; wait = c.wait; awake = c.awake; near = c.near },
        h.priorities j,
      ) in
      let at : task_at s1 j ≡ t = get_or-set_same s.tasks j t no_task l in
      let past : (progress_at s1 j).previous_wake ≤ s.time =
      subst (λ (u : Task). u.progress.previous_wake ≤ s.time) (sym at) (low_min (progress_at s j).previous_wake s.time) in
      made_ready app formed hold s1 j h1 (rw length-set l, past)

  pub resumed_task : (s : State) (j : ℕ) → IsSound app hold s → IsSound app hold (resume j s)
  unfolding resume
  resumed_task s j h = by_test (can_resume (status_at s j))
      (λ t. rw t (resumed_one s j h t))
      (λ t. rw t h)

  -- ---- ticks that were held

  one_applied : (s : State) → IsSound app hold s → 0 < s.held_ticks → IsSound app hold (apply_one s)
  unfolding apply_one advance
  one_applied s h some =
      woken app formed hold (record s { time = s.time + 1; held_ticks = s.held_ticks - 1 }) (held_no_more app formed hold s h some)

  held_one_less : (s : State) → (apply_one s).held_ticks ≡ s.held_ticks - 1
  unfolding apply_one advance
  held_one_less s =
      ap (λ (x : Suspension). x.held_ticks)
      (keeps-wake_due (record s { time = s.time + 1; held_ticks = s.held_ticks - 1 })).suspension

  pub all_applied : (n : ℕ) (s : State) → IsSound app hold s → n ≤ s.held_ticks → IsSound app hold (apply_held n s)
  all_applied zero s h le = h
  all_applied (suc n) s h le = let e = held_one_less s in all_applied n (apply_one s) (one_applied s h (omega arith)) (omega arith)

  pub resumed_scheduler : (s : State) → IsSound app hold s → IsSound app hold (resume_scheduler s)
  unfolding resume_scheduler
  resumed_scheduler s h =
      let t : State = record s { suspensions = s.suspensions - 1 } in
      let less : IsSound app hold t = otherwise app formed hold s s.group_bits (s.suspensions - 1) s.sections h in
      by_test (eqb s.suspensions 1)
      (λ q. rw q (all_applied s.held_ticks t less (omega arith)))
      (λ q. rw q less)
