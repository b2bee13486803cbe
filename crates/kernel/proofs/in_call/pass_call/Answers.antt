use Rattle.std.proofs.Common.{◌≡◌, ◌<◌, ◌≤◌, ◌+◌, ◌&&◌, ℕ, false, List, [], Option, Some, length, subst, sym, ◌∙◌, arith}
use Rattle.std.specs.Option.{IfSome, is_some}
use Rattle.model.specs.declared.call.Phase.TheVariants.{Decide, Leave}
use Rattle.model.specs.declared.plan.Injection.{Injection}
use Rattle.model.specs.Application.{Application, Limits, is_endless, op_at}
use Rattle.model.specs.State.{Progress, State}
use Rattle.model.specs.Scripts.{IsWellFormed}
use Rattle.model.specs.Run.{are_all_ended, state_after}
use Rattle.model.specs.Invariant.{hold_of}
use Rattle.soundness.proofs.Reached.{reached_after}
use Rattle.machine.specs.declared.machine.Machine.{Machine}
use Rattle.machine.specs.StandsFor.{Stands, progress_in}
use Rattle.kernel.specs.Over.{is_at_tick_limit, is_over}
use Rattle.kernel.specs.Along.{IsFree, GoesOn, NoneIsOver, IsGoing, GoesFurther}
use Rattle.kernel.proofs.Along.{further_as_far, goes_still, going_soon, tells_further, tells_on}
use Rattle.kernel.proofs.Bounds.{runs_there}
use Rattle.kernel.proofs.Ending.{not_over_undecided}
use Rattle.kernel.proofs.InCall.{same_phase}
use Rattle.kernel.proofs.in_call.pass_call.Goals as goal

-- The running task is there.
there : (app : Application) → IsWellFormed app → (limits : Limits) (until : ℕ) (k : Machine) (plan : List Injection)
    → IsFree app limits until k plan → (task : ℕ) → k.sched.current ≡ Some task → task < length app.tasks
there app formed limits until k plan free task runs =
    let s = state_after app limits plan k.steps in
    subst (λ (o : Option ℕ). IfSome o (λ task. task < length app.tasks)) runs
    (runs_there app k s (hold_of s) free.way.stands (reached_after app formed limits plan k.steps).sound)

pub is_left_alone-requires : goal.is_left_alone-requires
is_left_alone-requires c =
    there c.args.app.now c.well_formed-2.ensures c.args.limits.now c.args.until c.args.kernel.now c.args.injections.now
    c.requires.free c.args.task c.requires.runs

pub op_of-requires : goal.op_of-requires
op_of-requires c =
    there c.args.app.now c.well_formed-2.ensures c.args.limits.now c.args.until c.args.kernel.now c.args.injections.now
    c.requires.free c.args.task c.requires.runs

-- None is over before the task's call decides.
none_over : (app : Application) → IsWellFormed app → (limits : Limits) (until : ℕ) (k : Machine) (task : ℕ)
    → k.sched.current ≡ Some task → (progress_in k.progress task).call.phase ≡ Decide → k.sched.suspensions ≡ 0
    → is_some k.stopped ≡ false → ((s : State) → Stands k s → is_endless app task && are_all_ended app s ≡ false)
    → ((s : State) → Stands k s → is_at_tick_limit app limits s ≡ false) → NoneIsOver app limits until k k
none_over app formed limits until k task runs decides none on more early = λ plan f.
    not_over_undecided app limits k (state_after app limits plan k.steps) task f.way.stands
    (reached_after app formed limits plan k.steps) runs decides none on (more _ f.way.stands) (early _ f.way.stands)

-- Nor is one after the first phases,
module _ {app : Application} {limits : Limits} {until : ℕ} {first second : Machine}
    (within : first.steps + 3 ≤ until) (none : NoneIsOver app limits until first first)
    (one : GoesFurther app limits (first.steps + 1) first second [] [])
    (after_one : (plan : List Injection) → IsGoing app limits (first.steps + 1) first plan
    → is_over app limits (state_after app limits plan second.steps) ≡ false) where
  first_as_far : GoesFurther app limits until first second [] []
  first_as_far = further_as_far (omega arith) one

  going_second : (plan : List Injection) → IsFree app limits until first plan → IsGoing app limits until second plan
  going_second plan f =
      let g : IsGoing app limits until first plan = record { free = f; going = none plan f } in
      goes_still first_as_far g (after_one plan (going_soon (omega arith) g))

  module _ {third : Machine} (two : GoesFurther app limits (second.steps + 1) second third [] [])
      (after_two : (plan : List Injection) → IsGoing app limits (second.steps + 1) second plan
      → is_over app limits (state_after app limits plan third.steps) ≡ false) where
    second_as_far : GoesFurther app limits until second third [] []
    second_as_far = let far = one.far (omega arith) in further_as_far (omega arith) two

    going_third : (plan : List Injection) → IsFree app limits until first plan → IsGoing app limits until third plan
    going_third plan f =
        let far = one.far (omega arith) in
        let g = going_second plan f in
        goes_still second_as_far g (after_two plan (going_soon (omega arith) g))

    third_soon : (plan : List Injection) → IsFree app limits until first plan → IsGoing app limits (third.steps + 1) third plan
    third_soon plan f =
        let far = one.far (omega arith) in
        let farther = two.far (omega arith) in
        going_soon (omega arith) (going_third plan f)

    -- so that all three are gone through along each run.
    in_three : {last : Machine} → GoesFurther app limits (third.steps + 1) third last [] []
        → GoesOn app limits until first last [] []
    in_three {last} three =
        let far = one.far (omega arith) in
        let farther = two.far (omega arith) in
        tells_on (tells_on (tells_further none first_as_far) (λ plan f. (going_second plan f).going) second_as_far)
        (λ plan f. (going_third plan f).going) (further_as_far (omega arith) three)

pub pass_phase-requires-clause-going : goal.pass_phase-requires-clause-going
pass_phase-requires-clause-going c =
    let left = c.saturating_sub.ensures in
    let three = c.if-saturating_sub-lt3.false in
    let none =
    none_over c.args.app.now c.well_formed-2.ensures c.args.limits.now c.args.until c.args.kernel.now c.args.task
    c.requires.runs c.requires.decides (omega (arith, c.suspensions.ensures.suspensions, c.if-suspensions-gt0.false))
    (sym c.if-is_some.ensures)
    (λ s h. sym (c.if-is_left_alone.ensures s h)) (λ s h. sym (c.if-is_at_tick_limit.ensures s h)) in
    going_soon (omega arith) (record { free = c.requires.free; going = none c.args.injections.now c.requires.free })

pub pass_phase-requires-clause-call : goal.pass_phase-requires-clause-call
pass_phase-requires-clause-call c = record {
  current = c.requires.runs;
  ticks = c.in-Some-call_of.ensures.0;
  op = c.in-Some.op.now;
  at =
      (let P : Progress → Type 0 = λ p. op_at c.args.app.now c.args.task p.op_index ≡ Some c.in-Some.op.now in
      subst P (c.behind-kernel.view_is ∙ c.progress.ensures) c.in-Some.ensures.some);
  on = c.in-Some-call_of.ensures.1;
  reached = c.requires.decides;
  awake = (let e = c.suspensions.ensures.suspensions in let l = c.if-suspensions-gt0.false in omega arith);
}

pub pass_if_next-requires-clause-going : goal.pass_if_next-requires-clause-going
pass_if_next-requires-clause-going c =
    let left = c.saturating_sub.ensures in
    let three = c.if-saturating_sub-lt3.false in
    let far = c.pass_phase.ensures.along.far (omega arith) in
    let none =
    none_over c.args.app.now c.well_formed-2.ensures c.args.limits.now c.args.until c.args.kernel.now c.args.task
    c.requires.runs c.requires.decides (omega (arith, c.suspensions.ensures.suspensions, c.if-suspensions-gt0.false))
    (sym c.if-is_some.ensures)
    (λ s h. sym (c.if-is_left_alone.ensures s h)) (λ s h. sym (c.if-is_at_tick_limit.ensures s h)) in
    going_soon (omega arith) (going_second (omega arith) none c.pass_phase.ensures.along
    c.pass_phase.ensures.going c.args.injections.now c.requires.free)

pub pass_if_next-requires-2-clause-going : goal.pass_if_next-requires-2-clause-going
pass_if_next-requires-2-clause-going c =
    let left = c.saturating_sub.ensures in
    let three = c.if-saturating_sub-lt3.false in
    let none =
    none_over c.args.app.now c.well_formed-2.ensures c.args.limits.now c.args.until c.args.kernel.now c.args.task
    c.requires.runs c.requires.decides (omega (arith, c.suspensions.ensures.suspensions, c.if-suspensions-gt0.false))
    (sym c.if-is_some.ensures)
    (λ s h. sym (c.if-is_left_alone.ensures s h)) (λ s h. sym (c.if-is_at_tick_limit.ensures s h)) in
    third_soon (omega arith) none c.pass_phase.ensures.along c.pass_phase.ensures.going
    c.pass_if_next.ensures.along c.pass_if_next.ensures.going c.args.injections.now c.requires.free

pub returns-then-ne-clause-along : goal.returns-then-ne-clause-along
returns-then-ne-clause-along c =
    let left = c.saturating_sub.ensures in
    let three = c.if-saturating_sub-lt3.false in
    let none =
    none_over c.args.app.now c.well_formed-2.ensures c.args.limits.now c.args.until c.args.kernel.now c.args.task
    c.requires.runs c.requires.decides (omega (arith, c.suspensions.ensures.suspensions, c.if-suspensions-gt0.false))
    (sym c.if-is_some.ensures)
    (λ s h. sym (c.if-is_left_alone.ensures s h)) (λ s h. sym (c.if-is_at_tick_limit.ensures s h)) in
    in_three (omega arith) none c.pass_phase.ensures.along c.pass_phase.ensures.going
    c.pass_if_next.ensures.along c.pass_if_next.ensures.going c.pass_if_next-2.ensures.along

pub returns-clause-along : goal.returns-clause-along
returns-clause-along c =
    let left = c.saturating_sub.ensures in
    let three = c.if-saturating_sub-lt3.false in
    let none =
    none_over c.args.app.now c.well_formed-2.ensures c.args.limits.now c.args.until c.args.kernel.now c.args.task
    c.requires.runs c.requires.decides (omega (arith, c.suspensions.ensures.suspensions, c.if-suspensions-gt0.false))
    (sym c.if-is_some.ensures)
    (λ s h. sym (c.if-is_left_alone.ensures s h)) (λ s h. sym (c.if-is_at_tick_limit.ensures s h)) in
    in_three (omega arith) none c.pass_phase.ensures.along c.pass_phase.ensures.going
    c.pass_if_next.ensures.along c.pass_if_next.ensures.going c.pass_if_next-2.ensures.along

pub returns-clause-going : goal.returns-clause-going
returns-clause-going c = λ plan f.
    let left = c.saturating_sub.ensures in
    let three = c.if-saturating_sub-lt3.false in
    let none =
    none_over c.args.app.now c.well_formed-2.ensures c.args.limits.now c.args.until c.args.kernel.now c.args.task
    c.requires.runs c.requires.decides (omega (arith, c.suspensions.ensures.suspensions, c.if-suspensions-gt0.false))
    (sym c.if-is_some.ensures)
    (λ s h. sym (c.if-is_left_alone.ensures s h)) (λ s h. sym (c.if-is_at_tick_limit.ensures s h)) in
    c.pass_if_next-2.ensures.going plan (third_soon (omega arith) none c.pass_phase.ensures.along
    c.pass_phase.ensures.going c.pass_if_next.ensures.along c.pass_if_next.ensures.going plan f)

pub returns-clause-leaving : goal.returns-clause-leaving
returns-clause-leaving c = (
  c.in-Some-call_of.call.0,
  c.in-Some-call_of.call.1,
  c.pass_if_next-2.ensures.call Leave (sym c.phase.ensures ∙ same_phase c.phase.result Leave c.if-ne.ensures),
)
