-- A task's base priority is the one that the file gives it, and its priority is not below that.
use Rattle.std.proofs.Common.{◌≡◌, ◌≤◌, ◌+◌, ℕ, zero, suc, true, List, [], ◌∷◌, map, get_or, Option, Some, None, refl, ap, ◌∙◌}
use Rattle.std.specs.Prelude.{slice_get}
use Rattle.std.specs.Option.{IfSome}
use Rattle.model.specs.declared.plan.Injection.{Injection}
use Rattle.model.specs.Application.{Application, Limits, Definition, definition_of}
use Rattle.model.specs.Scripts.{IsWellFormed}
use Rattle.model.specs.State.{State, Status, Task, Ready, no_task, status_at, task_at, with_task, take_ticket, for_each}
use Rattle.model.specs.Order.{tasks_of}
use Rattle.model.specs.Switching.{make_ready}
use Rattle.model.specs.Time.{due, wake_due}
use Rattle.model.specs.Step.{nobody_ready, task_at_reset}
use Rattle.model.specs.Run.{state_after}
use Rattle.model.proofs.Tables.{each-set}
use Rattle.soundness.proofs.Reached.{reached_after}
use Rattle.laws.proofs.Sleeping.{NoneBetween}
use Rattle.laws.proofs.Changes.{kept_after}
use Rattle.laws.proofs.Staying.{Remains, Stays, Stops}

-- ---- base priorities are those at reset

module _ (app : Application) where
  abbrev base_at_reset : ℕ → ℕ
  base_at_reset i = (get_or (map (task_at_reset app.start) app.tasks) i no_task).base_priority

  abbrev AreAtReset : State → Type 0
  AreAtReset s = (i : ℕ) → (task_at s i).base_priority ≡ base_at_reset i

  base-framed : (s t : State) → t.tasks ≡ s.tasks → t.next_ticket ≡ s.next_ticket
      → t.time ≡ s.time → Stops s.stopped t.stopped → AreAtReset s → AreAtReset t
  base-framed s t e n m stops h = λ i. ap (λ (ts : List Task). (get_or ts i no_task).base_priority) e ∙ h i

  base-moved : (s : State) (i : ℕ) (t : Task) → Stays (status_at s i) t.status
      → Remains true true (task_at s i) t → AreAtReset s → AreAtReset (with_task i t s)
  base-moved s i t u remains h = each-set no_task (λ j v. v.base_priority ≡ base_at_reset j) s.tasks i t (remains.0 ∙ h i) h

  base-taken : (s : State) (i : ℕ) (f : ℕ → Status) → AreAtReset s → AreAtReset (take_ticket i f s)
  base-taken s i f h =
      each-set no_task (λ j v. v.base_priority ≡ base_at_reset j) s.tasks
      i (record (task_at s i) { status = f s.next_ticket }) (h i) h

  base-all_ready : (is : List ℕ) (s : State) → AreAtReset s → AreAtReset (for_each make_ready is s)
  base-all_ready [] s h = h
  base-all_ready (i ∷ is) s h = base-all_ready is (make_ready i s) (base-taken s i Ready h)

  base-passed : (n : ℕ) (s : State) → NoneBetween n s → AreAtReset s → AreAtReset (wake_due (record s { time = s.time + n }))
  unfolding wake_due
  base-passed n s none h = let t : State = record s { time = s.time + n } in base-all_ready (tasks_of (due t)) t h

  base-nobody : AreAtReset (nobody_ready app)
  unfolding nobody_ready
  base-nobody = λ i. refl

  base-after : (limits : Limits) (plan : List Injection) (n : ℕ) → AreAtReset (state_after app limits plan n)
  base-after limits plan n =
      kept_after AreAtReset base-framed base-moved (λ s i f is later. base-taken s i f) base-passed app base-nobody limits plan n

-- ---- and those are the file's

of_file : (start : ℕ) (ds : List Definition) (i : ℕ)
    → IfSome (slice_get ds i) (λ d. (get_or (map (task_at_reset start) ds) i no_task).base_priority ≡ d.priority)
of_file start [] i = tt
of_file start (d ∷ ds) zero = refl
of_file start (d ∷ ds) (suc i) = of_file start ds i

pub base_of_file : (app : Application) (limits : Limits) (plan : List Injection) (n task : ℕ)
    → IfSome (definition_of app task) (λ d. (task_at (state_after app limits plan n) task).base_priority ≡ d.priority)
base_of_file app limits plan n task = by_definition (definition_of app task) (of_file app.start app.tasks task) where
  by_definition : (o : Option Definition) → IfSome o (λ d. base_at_reset app task ≡ d.priority)
      → IfSome o (λ d. (task_at (state_after app limits plan n) task).base_priority ≡ d.priority)
  by_definition None h = tt
  by_definition (Some d) h = base-after app limits plan n task ∙ h

pub never_below_base : (app : Application) → IsWellFormed app → (limits : Limits) (plan : List Injection) (n task : ℕ)
    → (task_at (state_after app limits plan n) task).base_priority ≤ (task_at (state_after app limits plan n) task).priority
never_below_base app formed limits plan n task = ((reached_after app formed limits plan n).sound.priorities task).0
