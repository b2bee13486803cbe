-- Tasks that measure time: what `stamp` and `since` do, and that nothing else changes a stamp.
use Rattle.std.proofs.Common.{◌≡◌, ◌<◌, ◌+◌, ◌-◌, not, min, ℕ, zero, suc, Bool, true, eqb, length, List, [], ◌∷◌, map, get_or, inl}
use Rattle.std.proofs.Common.{inr, Option, Some, None, refl, ap, sym, subst, ◌∙◌}
use Rattle.std.specs.Prelude.{slice_get}
use Rattle.std.specs.Option.{IfSome}
use Rattle.model.specs.declared.op.Op.TheVariants.{Since, Stamp}
use Rattle.model.specs.Application.{Application, Definition, Limits, definition_of, op_at}
use Rattle.model.specs.Ops.{answer, called, go_to, since, stamp}
use Rattle.model.specs.Order.{tasks_of}
use Rattle.model.specs.State.{State, Task, Progress, Status, Ready, no_task, for_each, progress_at, status_at, task_at, take_ticket}
use Rattle.model.specs.State.{with_task}
use Rattle.model.specs.Step.{before_step, misuse, nobody_ready, ready_at_reset, reset, step, task_at_reset, with_ops}
use Rattle.model.specs.Switching.{is_critical, is_scheduler_suspended, make_ready, write}
use Rattle.model.specs.Time.{due, wake_due}
use Rattle.model.proofs.Lists.{eqb-refl, eqb-same}
use Rattle.model.proofs.Sorting.{by_test}
use Rattle.laws.specs.Branches.{IsQuiet}
use Rattle.laws.proofs.Blocks.{at-go_to, fits_held, quiet-go_to}
use Rattle.laws.proofs.Deeds.{Keeping}
use Rattle.laws.proofs.Changes.{anyone, kept-step}
use Rattle.laws.proofs.Staying.{Remains, Stays, Stops, one_task}
use Rattle.laws.proofs.Sleeping.{NoneBetween}

-- ---- what the two ops do

pub notes : (app : Application) (i : ℕ) (s : State) → i < length s.tasks → (progress_at (stamp app i s) i).stamp ≡ s.time
unfolding stamp
notes app i s l =
    ap (λ (p : Progress). p.stamp)
    (at-go_to app i ((progress_at s i).op_index + 1) (record (progress_at s i) { stamp = s.time }) s l)

pub answers : (app : Application) (i : ℕ) (s t : State) → i < length t.tasks → (progress_at t i).stamp ≡ s.time
    → (progress_at (since app i t) i).answer ≡ Some (min (t.time - s.time) 4294967295)
unfolding since answer
answers app i s t l is =
    let passed : Option ℕ = Some (min (t.time - (progress_at t i).stamp) 4294967295) in
    let p : Progress = record (progress_at t i) { answer = passed } in
    ap (λ (q : Progress). q.answer) (at-go_to app i (p.op_index + 1) p (write (called i p.op_index passed) t) l)
    ∙ ap (λ n. Some (min (t.time - n) 4294967295)) is

pub stamp_is_quiet : (app : Application) (i : ℕ) (s : State) → i < length s.tasks → IsQuiet i s (stamp app i s)
unfolding stamp
stamp_is_quiet app i s l =
    let p : Progress = progress_at s i in
    quiet-go_to app i s l (p.op_index + 1) (record p { stamp = s.time }) refl

pub since_takes_no_time : (app : Application) (i : ℕ) (s : State)
    → ((since app i s).time ≡ s.time) × ((since app i s).elapsed ≡ s.elapsed) × ((since app i s).current ≡ s.current)
unfolding since answer go_to
since_takes_no_time app i s = (refl, refl, refl)

pub both_allowed : (s : State) (i : ℕ) → (misuse s i Stamp ≡ None) × (misuse s i Since ≡ None)
both_allowed s i = (fits_held (is_scheduler_suspended s) (is_critical s), fits_held (is_scheduler_suspended s) (is_critical s))

-- ---- at reset

stamped_at_reset : (start : ℕ) (ds : List Definition) (i : ℕ)
    → IfSome (slice_get ds i) (λ d. (get_or (map (task_at_reset start) ds) i no_task).progress.stamp ≡ start)
stamped_at_reset start [] i = tt
stamped_at_reset start (d ∷ ds) zero = refl
stamped_at_reset start (d ∷ ds) (suc i) = stamped_at_reset start ds i

-- ---- what changes no stamp

module _ (i : ℕ) (noted : ℕ) where
  -- The task's stamp is this.
  abbrev HasStamp : State → Type 0
  HasStamp s = (progress_at s i).stamp ≡ noted

  has-framed : (s t : State) → t.tasks ≡ s.tasks → t.next_ticket ≡ s.next_ticket
      → t.time ≡ s.time → Stops s.stopped t.stopped → HasStamp s → HasStamp t
  has-framed s t e n m stops h = ap (λ (ts : List Task). (get_or ts i no_task).progress.stamp) e ∙ h

  -- one task changes, and this one's stamp stays
  has-changed : (s : State) (j : ℕ) (t : Task) → (i ≡ j → t.progress.stamp ≡ (progress_at s j).stamp)
      → HasStamp s → HasStamp (with_task j t s)
  has-changed s j t stays h = elim (one_task s.tasks j t i) [
    | inl e ↦ ap (λ (u : Task). u.progress.stamp) e.0 ∙ stays e.1 ∙ ap (λ k. (progress_at s k).stamp) (sym e.1) ∙ h
    | inr e ↦ ap (λ (u : Task). u.progress.stamp) e ∙ h
  ]

  has-taken : (s : State) (j : ℕ) (status : ℕ → Status) → HasStamp s → HasStamp (take_ticket j status s)
  has-taken s j status h = has-changed s j (record (task_at s j) { status = status s.next_ticket }) (λ e. refl) h

  has-all_ready : (js : List ℕ) (s : State) → HasStamp s → HasStamp (for_each make_ready js s)
  has-all_ready [] s h = h
  has-all_ready (j ∷ js) s h = has-all_ready js (make_ready j s) (has-taken s j Ready h)

  has-passed : (n : ℕ) (s : State) → NoneBetween n s → HasStamp s → HasStamp (wake_due (record s { time = s.time + n }))
  unfolding wake_due
  has-passed n s none h = let t : State = record s { time = s.time + n } in has-all_ready (tasks_of (due t)) t h

  -- all may stamp but this one
  abbrev others : ℕ → Bool
  others j = not (eqb i j)

  has-moved : (s : State) (j : ℕ) (t : Task) → Stays (status_at s j) t.status
      → Remains (others j) true (task_at s j) t → HasStamp s → HasStamp (with_task j t s)
  has-moved s j t u remains h = has-changed s j t (λ e. remains.1 (rw e (ap not (eqb-refl j)))) h

  -- It does no `stamp` in this state, if it runs.
  abbrev DoesNoStamp : Application → State → ℕ → Type 0
  DoesNoStamp app s j = s.current ≡ Some j → op_at app j (progress_at s j).op_index ≡ Some Stamp → ⊥

  others_stamp : (app : Application) (s : State) → DoesNoStamp app s i → (j : ℕ)
      → s.current ≡ Some j → op_at app j (progress_at s j).op_index ≡ Some Stamp → others j ≡ true
  others_stamp app s never j runs is = by_test (eqb i j)
      (λ t. let here : DoesNoStamp app s j = subst (DoesNoStamp app s) (eqb-same i j t) never in absurd (here runs is))
      (λ t. ap not t)

  has-kept : Keeping HasStamp others anyone 0 true 0 true true
  has-kept = record {
    framed = λ s t e n m stops left. has-framed s t e n m stops;
    moved = has-moved;
    taken = λ s j status is later. has-taken s j status;
    passed = has-passed;
  }

  pub stays_noted : (app : Application) (limits : Limits) (handlers : List ℕ) (s : State)
      → DoesNoStamp app (before_step app handlers s) i
      → HasStamp s → HasStamp (step app limits handlers s)
  stays_noted app limits handlers s never h =
      kept-step has-kept app (λ no. absurd (cc)) limits handlers s
      (λ j runs. (others_stamp app (before_step app handlers s) never j runs, λ no. absurd (cc), refl, λ no. absurd (cc))) h

pub noted_at_reset : (app : Application) (i : ℕ) → IfSome (definition_of app i) (λ d. (progress_at (reset app) i).stamp ≡ app.start)
unfolding reset ready_at_reset nobody_ready
noted_at_reset app i = of_definition (definition_of app i) (stamped_at_reset app.start app.tasks i) where
  of_definition : (o : Option Definition)
      → IfSome o (λ d. (get_or (map (task_at_reset app.start) app.tasks) i no_task).progress.stamp ≡ app.start)
      → IfSome o (λ d. (progress_at (reset app) i).stamp ≡ app.start)
  of_definition None h = tt
  of_definition (Some d) h = has-all_ready i app.start (with_ops 0 app.tasks) (nobody_ready app) h
