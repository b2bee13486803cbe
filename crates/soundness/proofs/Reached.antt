-- What is true of every state that a run comes to: of that at reset, and so of all.
use Rattle.std.proofs.Common.{◌≡◌, ◌<◌, ◌≤◌, ◌+◌, ℕ, zero, suc, eqb, List, [], ◌∷◌, length, map, get_or, refl, ap, arith}
use Rattle.std.proofs.Common.{length-append, ◌∙◌}
use Rattle.std.specs.List.{AllByRecursion, slice_get}
use Rattle.std.specs.Option.{option_map, unwrap_or}
use Rattle.std.proofs.lemmas.List.{length-map}
use Rattle.model.specs.declared.object.ObjectKind.{ObjectKind}
use Rattle.model.specs.declared.object.ObjectKind.TheVariants.{Queue, Semaphore, Mutex}
use Rattle.model.specs.declared.plan.Injection.{Injection}
use Rattle.model.specs.Application.{Application, Limits, Definition}
use Rattle.model.specs.Scripts.{IsDefinition, IsObjectKind, IsWellFormed}
use Rattle.model.specs.State.{State, no_task, no_object, no_source, for_each}
use Rattle.model.specs.Switching.{make_ready, choice}
use Rattle.model.specs.Step.{source_at_reset}
use Rattle.model.specs.Step.{reset, nobody_ready, ready_at_reset, task_at_reset, object_at_reset, with_ops}
use Rattle.model.specs.Run.{injected, state_after}
use Rattle.model.specs.Invariant.{IsAt, hold_of, IsObject, HasPriority, IsSound, Suspension, suspension_of, IsState}
use Rattle.model.proofs.Sorting.{by_test}
use Rattle.model.proofs.Chosen.{choice_within}
use Rattle.model.proofs.Resets.{none_taken, call-reset, holders-reset}
use Rattle.soundness.proofs.Settled.{settled-reset}
use Rattle.soundness.proofs.InScripts.{used_none}
use Rattle.soundness.proofs.Keeping.{keeps-all_ready}
use Rattle.soundness.proofs.Passing.{task_holds}
use Rattle.soundness.proofs.Moving.{moves-step, suspension-reset}
use Rattle.soundness.proofs.Sound.{all_made_ready, runs}
use Rattle.soundness.proofs.Reckoned.{CanBeReady, call_none}
use Rattle.soundness.proofs.Phases.{free, unsuspended}
use Rattle.soundness.proofs.Stepped.{at_rest}
use Rattle.soundness.proofs.Begun.{reached_step}

-- ---- reset

progress-reset : (start i : ℕ) (ds : List Definition) → AllByRecursion IsDefinition ds
    → IsAt start (unwrap_or (option_map (λ (d : Definition). d.script) (slice_get ds i)) [])
    (get_or (map (task_at_reset start) ds) i no_task).progress (get_or (map (task_at_reset start) ds) i no_task).status
progress-reset start i [] h =
    record {
      nests = record { blocks = []; count = refl; nests = refl };
      loops = tt;
      used = tt;
      reckoned = tt;
      stamped = omega arith;
    }
progress-reset start zero (d ∷ ds) h =
    record {
      nests = record { blocks = []; count = refl; nests = h.0.script.nests };
      loops = tt;
      used = used_none 0 d.script h.0.script.ranges;
      reckoned = tt;
      stamped = omega arith;
    }
progress-reset start (suc i) (d ∷ ds) h = progress-reset start i ds h.1

contents-reset : (o : ℕ) (kinds : List ObjectKind) → AllByRecursion IsObjectKind kinds
    → IsObject (slice_get kinds o) (get_or (map object_at_reset kinds) o no_object)
contents-reset o [] h = tt
contents-reset zero ((Queue size) ∷ kinds) h = (refl, omega arith)
contents-reset zero ((Semaphore most first) ∷ kinds) h = (refl, h.0.2)
contents-reset zero (Mutex ∷ kinds) h = tt
contents-reset (suc o) (kind ∷ kinds) h = contents-reset o kinds h.1

priority-reset : (start i : ℕ) (ds : List Definition) → AllByRecursion IsDefinition ds
    → HasPriority (get_or (map (task_at_reset start) ds) i no_task)
priority-reset start i [] h = (omega arith, omega arith, tt)
priority-reset start zero (d ∷ ds) h = (omega arith, h.0.priority, tt)
priority-reset start (suc i) (d ∷ ds) h = priority-reset start i ds h.1

-- each counts from the time at reset
reset_can : (start : ℕ) (i : ℕ) (ds : List Definition) → i < length ds
    → (get_or (map (task_at_reset start) ds) i no_task).progress.previous_wake ≡ start
reset_can start i [] l = absurd (omega arith)
reset_can start zero (d ∷ ds) l = refl
reset_can start (suc i) (d ∷ ds) l = reset_can start i ds (omega arith)

pub with_ops_within : (i n : ℕ) (ds : List Definition) → i + length ds ≤ n → AllByRecursion (λ j. j < n) (with_ops i ds)
with_ops_within i n [] l = tt
with_ops_within i n (d ∷ ds) l =
    let more = with_ops_within (i + 1) n ds (omega arith) in
    by_test (eqb (length d.script) 0) (λ t. rw t more) (λ t. rw t (omega arith, more))

module _ (app : Application) (formed : IsWellFormed app) where
  pub reached_nobody : IsSound app free (nobody_ready app)
  unfolding nobody_ready
  reached_nobody = record {
    table =
        record {
          tickets = none_taken app.start app.tasks;
          few = rw length-map formed.few;
          current = tt;
          holders = λ o. holders-reset _ o app.objects;
        };
    tasks = length-map app.tasks (task_at_reset app.start);
    objects = length-map app.objects object_at_reset;
    progress = λ i. progress-reset app.start i app.tasks formed.tasks;
    calls = λ i. let at = call-reset app.start i app.tasks in call_none free app.start _ _ at.0 at.1;
    contents = λ o. contents-reset o app.objects formed.objects;
    sources =
        length-append (map source_at_reset app.handlers) (no_source ∷ [])
        ∙ ap (λ (n : ℕ). n + 1) (length-map app.handlers source_at_reset);
    priorities = λ i. priority-reset app.start i app.tasks formed.tasks;
    time = (omega arith, omega arith);
  }

  all_can : (is : List ℕ) → AllByRecursion (λ j. j < length app.tasks) is → AllByRecursion (CanBeReady (nobody_ready app)) is
  unfolding nobody_ready
  all_can [] a = tt
  all_can (i ∷ is) a = ((rw length-map a.0, let e = reset_can app.start i app.tasks a.0 in omega arith), all_can is a.1)

  pub reached_ready : IsSound app free (ready_at_reset app)
  unfolding ready_at_reset
  reached_ready =
      all_made_ready app formed free (nobody_ready app) (with_ops 0 app.tasks) reached_nobody
      (all_can (with_ops 0 app.tasks) (with_ops_within 0 (length app.tasks) app.tasks (omega arith)))

  held_as_before : (js : List ℕ) (s : State) → hold_of (for_each make_ready js s) ≡ hold_of s
  held_as_before js s = (keeps-all_ready js s).hold

  reset_hold : hold_of (ready_at_reset app) ≡ free
  unfolding ready_at_reset nobody_ready
  reset_hold = held_as_before (with_ops 0 app.tasks) _

  calm_by_none : (js : List ℕ) (s : State) → suspension_of (for_each make_ready js s) ≡ suspension_of s
  calm_by_none js s = (keeps-all_ready js s).suspension

  reset_calm : suspension_of (ready_at_reset app) ≡ unsuspended
  unfolding ready_at_reset nobody_ready
  reset_calm = calm_by_none (with_ops 0 app.tasks) _

  pub reached_reset : IsState app (reset app)
  unfolding reset
  reached_reset =
      at_rest app formed _
      (runs app formed free (ready_at_reset app) (choice (ready_at_reset app)) reached_ready (choice_within (ready_at_reset app)))
      reset_hold reset_calm (settled-reset app)

  -- every state of a run
  pub reached_after : (limits : Limits) (plan : List Injection) (n : ℕ) → IsState app (state_after app limits plan n)
  reached_after limits plan zero = reached_reset
  reached_after limits plan (suc n) =
      reached_step app formed limits (injected plan n) (state_after app limits plan n) (reached_after limits plan n)

  -- no more `suspend_all` are in force than steps have been done
  pub suspensions_after : (limits : Limits) (plan : List Injection) (n : ℕ) → (state_after app limits plan n).suspensions ≤ n
  suspensions_after limits plan zero =
      let e : (reset app).suspensions ≡ 0 = ap (λ (x : Suspension). x.suspensions) (suspension-reset app) in
      omega arith
  suspensions_after limits plan (suc n) =
      let e = suspensions_after limits plan n in
      let one = (moves-step app limits (injected plan n) (state_after app limits plan n)).suspensions in
      omega arith

  -- nor does a task hold the scheduler more often
  pub task_holds_after : (limits : Limits) (plan : List Injection) (n : ℕ) → task_holds (state_after app limits plan n) ≤ n
  task_holds_after limits plan zero =
      let e : task_holds (reset app) ≡ 0 = ap (λ (x : Suspension). x.suspensions + x.sections) (suspension-reset app) in
      omega (arith, e)
  task_holds_after limits plan (suc n) =
      let e : task_holds (state_after app limits plan n) ≤ n = task_holds_after limits plan n in
      let one = (moves-step app limits (injected plan n) (state_after app limits plan n)).by_tasks in
      omega (arith, e, one)
