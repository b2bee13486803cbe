-- Which tasks a run that passes has waited for.
use Rattle.std.proofs.Common.{◌≡◌, ◌+◌, ◌&&◌, inl, inr, not, ℕ, zero, suc, Bool, true, false, List, [], ◌∷◌, length, get_or, set}
use Rattle.std.proofs.Common.{Option, Some, None, refl, ap, sym, subst, ◌∙◌, arith}
use Rattle.std.specs.Prelude.{if◌then◌else◌}
use Rattle.std.specs.List.{AllByRecursion, list_all, list_any, slice_get}
use Rattle.std.specs.Option.{IfSome, option_map, option_or, unwrap_or}
use Rattle.model.specs.declared.event.End.{End}
use Rattle.model.specs.declared.event.End.TheVariants.{Pass, Ticks, Steps, Stuck}
use Rattle.model.specs.declared.plan.Injection.{Injection}
use Rattle.model.specs.Application.{Application, Definition, Limits, definition_of, is_any_awaited, is_endless, without_endless}
use Rattle.model.specs.State.{State, Task, for_each, no_task, status_at, with_task}
use Rattle.model.specs.Order.{tasks_of}
use Rattle.model.specs.Switching.{make_ready}
use Rattle.model.specs.Time.{due, wake_due}
use Rattle.model.specs.Step.{is_ended, nobody_ready}
use Rattle.model.specs.Run.{IsRun, Run, are_all_ended, end_of, state_after}
use Rattle.model.proofs.Sorting.{by_test}
use Rattle.soundness.proofs.Sparing.{and_left, and_right}
use Rattle.laws.specs.Looking.{is_by_misuse}
use Rattle.laws.proofs.Changes.{kept_after}
use Rattle.laws.proofs.Staying.{Stops, is_failed_check}
use Rattle.laws.proofs.Sleeping.{NoneBetween}

-- ---- a run is stopped by a failure alone

abbrev IsNoPass : State → Type 0
IsNoPass s = s.stopped ≡ Some Pass → ⊥

no_pass-framed : (s t : State) → t.tasks ≡ s.tasks → t.next_ticket ≡ s.next_ticket
    → t.time ≡ s.time → Stops s.stopped t.stopped → IsNoPass s → IsNoPass t
no_pass-framed s t e n m stops h = elim stops [
  | inl same ↦ (λ passes. h (sym same ∙ passes))
  | inr fails ↦ elim fails [
    | inl check ↦
        (λ passes. let contrary : is_failed_check (Some Pass) ≡ true = subst (λ o. is_failed_check o ≡ true) passes check.1 in
        absurd (cc))
    | inr misused ↦
        (λ passes. let contrary : is_by_misuse (Some Pass) ≡ true = subst (λ o. is_by_misuse o ≡ true) passes misused in
        absurd (cc))
  ]
]

pub stopped-all_ready : (is : List ℕ) (s : State) → (for_each make_ready is s).stopped ≡ s.stopped
stopped-all_ready [] s = refl
stopped-all_ready (i ∷ is) s = stopped-all_ready is (make_ready i s)

no_pass-passed : (n : ℕ) (s : State) → NoneBetween n s → IsNoPass s → IsNoPass (wake_due (record s { time = s.time + n }))
unfolding wake_due
no_pass-passed n s none h =
    let t : State = record s { time = s.time + n } in
    λ passes. h (sym (stopped-all_ready (tasks_of (due t)) t) ∙ passes)

no_pass : (app : Application) (limits : Limits) (plan : List Injection) (n : ℕ) → IsNoPass (state_after app limits plan n)
unfolding nobody_ready
no_pass app limits plan n =
    kept_after IsNoPass no_pass-framed (λ s i t u base h. h) (λ s i status is later h. h)
    no_pass-passed app (λ passes. absurd (cc)) limits plan n

-- ---- the end of a run

passes_alone : (stopped : Option End) (ended ticks steps stuck : Bool) → (stopped ≡ Some Pass → ⊥)
    → option_or stopped (if ended then Some Pass else if ticks then Some Ticks
    else if steps then Some Steps else if stuck then Some Stuck else None)
    ≡ Some Pass
    → ended ≡ true
passes_alone (Some e) ended ticks steps stuck never is = absurd (never is)
passes_alone None true ticks steps stuck never is = refl
passes_alone None false true steps stuck never is = absurd (cc)
passes_alone None false false true stuck never is = absurd (cc)
passes_alone None false false false true never is = absurd (cc)
passes_alone None false false false false never is = absurd (cc)

all_ended : (app : Application) (plan : List Injection) (limits : Limits) (run : Run) → IsRun app plan limits run → run.end ≡ Pass
    → are_all_ended app (state_after app limits plan run.steps) ≡ true
all_ended app plan limits run is passes =
    let s : State = state_after app limits plan run.steps in
    passes_alone s.stopped (are_all_ended app s) _ _ _ (no_pass app limits plan run.steps) (is.ends ∙ ap (λ e. Some e) passes)

-- ---- what is awaited

ended_at : (ds : List Definition) (ts : List Task) (i : ℕ)
    → list_all (λ (t : Task). is_ended t.status) (without_endless ds ts) ≡ true
    → IfSome (slice_get ds i) (λ d. d.endless ≡ false → is_ended (get_or ts i no_task).status ≡ true)
ended_at [] ts i all = tt
ended_at (d ∷ ds) [] zero all = λ e. refl
ended_at (d ∷ ds) [] (suc i) all = ended_at ds [] i (none_left ds) where
  none_left : (ds : List Definition) → list_all (λ (t : Task). is_ended t.status) (without_endless ds []) ≡ true
  none_left [] = refl
  none_left (d ∷ ds) = refl
ended_at (d ∷ ds) (t ∷ ts) zero all = λ e. and_left (is_ended t.status) _ (rw e at all)
ended_at (d ∷ ds) (t ∷ ts) (suc i) all = by_test d.endless
    (λ e. ended_at ds ts i (rw e at all))
    (λ e. ended_at ds ts i (and_right (is_ended t.status) _ (rw e at all)))

pub awaited_ended : (app : Application) (plan : List Injection) (limits : Limits) (run : Run)
    → IsRun app plan limits run → run.end ≡ Pass → (task : ℕ)
    → IfSome (definition_of app task)
    (λ d. d.endless ≡ false → is_ended (status_at (state_after app limits plan run.steps) task) ≡ true)
awaited_ended app plan limits run is passes task =
    let s : State = state_after app limits plan run.steps in
    ended_at app.tasks s.tasks task (and_right (is_any_awaited app) _ (all_ended app plan limits run is passes))

none_awaited : (ds : List Definition) → AllByRecursion (λ (d : Definition). d.endless ≡ true) ds
    → list_any (λ (d : Definition). not d.endless) ds ≡ false
none_awaited [] h = refl
none_awaited (d ∷ ds) h = rw h.0 (none_awaited ds h.1)

pub alone_never : (app : Application) (plan : List Injection) (limits : Limits) (run : Run) → IsRun app plan limits run
    → AllByRecursion (λ (d : Definition). d.endless ≡ true) app.tasks → run.end ≡ Pass → ⊥
alone_never app plan limits run is endless passes =
    let some : is_any_awaited app ≡ true = and_left (is_any_awaited app) _ (all_ended app plan limits run is passes) in
    let none : is_any_awaited app ≡ false = none_awaited app.tasks endless in
    let contrary : true ≡ false = sym some ∙ none in
    absurd (cc)

-- ---- what is not

spared-set : (ds : List Definition) (ts : List Task) (i : ℕ) (t : Task)
    → unwrap_or (option_map (λ (d : Definition). d.endless) (slice_get ds i)) false ≡ true
    → without_endless ds (set ts i t) ≡ without_endless ds ts
spared-set [] ts i t e = absurd (cc)
spared-set (d ∷ ds) [] i t e = refl
spared-set (d ∷ ds) (x ∷ xs) zero t e = rw e refl
spared-set (d ∷ ds) (x ∷ xs) (suc i) t e = by_test d.endless
    (λ q. rw q (spared-set ds xs i t e))
    (λ q. rw q (ap (λ ys. x ∷ ys) (spared-set ds xs i t e)))

pub spared : (app : Application) (s : State) (task : ℕ) (now : Task) → is_endless app task ≡ true
    → are_all_ended app (with_task task now s) ≡ are_all_ended app s
spared app s task now e =
    ap (λ (ts : List Task). is_any_awaited app && list_all (λ (t : Task). is_ended t.status) ts)
    (spared-set app.tasks s.tasks task now e)

all_from_each : (ds : List Definition) (ts : List Task) → length ts ≡ length ds
    → ((i : ℕ) → IfSome (slice_get ds i) (λ d. d.endless ≡ false → is_ended (get_or ts i no_task).status ≡ true))
    → list_all (λ (t : Task). is_ended t.status) (without_endless ds ts) ≡ true
all_from_each [] [] len h = refl
all_from_each [] (t ∷ ts) len h = absurd (omega (arith, len))
all_from_each (d ∷ ds) [] len h = refl
all_from_each (d ∷ ds) (t ∷ ts) len h =
    let rest = all_from_each ds ts (omega (arith, len)) (λ i. h (suc i)) in
    by_test d.endless
    (λ e. rw e rest)
    (λ e. rw (e, h zero e) rest)

pub passes_then : (app : Application) (limits : Limits) (s : State) → s.stopped ≡ None → is_any_awaited app ≡ true
    → ((task : ℕ) → IfSome (definition_of app task) (λ d. d.endless ≡ false → is_ended (status_at s task) ≡ true))
    → length s.tasks ≡ length app.tasks → end_of app limits s ≡ Some Pass
passes_then app limits s goes some h len =
    let all : are_all_ended app s ≡ true = rw some (all_from_each app.tasks s.tasks len h) in
    rw (goes, all) refl
