use Rattle.std.proofs.Common.{false, ◌^◌, ◌≡◌, ◌≢◌, ◌<◌, ◌≤◌, ◌+◌, ◌++◌, ℕ, suc, List, [], None, length, drop, ap, sym, subst, refl}
use Rattle.std.proofs.Common.{◌∙◌, append-nil, arith}
use Rattle.std.proofs.lemmas.Result.{err_from_is_err_and}
use Rattle.model.specs.declared.plan.Injection.{Injection}
use Rattle.model.specs.Application.{Application, Limits}
use Rattle.model.specs.Scripts.{AreLimits, IsWellFormed}
use Rattle.model.specs.State.{State}
use Rattle.model.specs.Run.{end_of, injected, state_after}
use Rattle.machine.specs.declared.machine.Machine.{Machine}
use Rattle.machine.specs.StandsFor.{Stands}
use Rattle.machine.specs.Can.{IsUnderWay, NonePends}
use Rattle.machine.proofs.Pending.{none_of_any}
use Rattle.kernel.specs.Along.{IsFree}
use Rattle.machine.specs.Logged.{all_of}
use Rattle.kernel.specs.Rows.{events_from}
use Rattle.kernel.proofs.Along.{free_of_limits}
use Rattle.kernel.proofs.Running.{can_step, steps_below, steps_more, goes_on, more_events, more_from, extends_on, told_more}
use Rattle.model.specs.Step.{step}
use Rattle.model.proofs.Injected.{from_here}
use Rattle.kernel.proofs.Planned.{few_left, handlers_are, left_first, left_next, left_on, IsLeft, stands_as}
use Rattle.kernel.proofs.runs.go_to_step.Goals as goal

-- Behind a step the run is free up to where the next of the injections that are left is, if no limit comes before.
module _ (app : Application) (formed : IsWellFormed app) (plan : List Injection) (limits : Limits)
    (are : AreLimits limits.ticks limits.steps) (k next : Machine) (way : IsUnderWay app plan limits k)
    (on : end_of app limits (state_after app limits plan k.steps) ≡ None)
    (injections later : List Injection) (left : IsLeft plan injections k.steps)
    (is : later ≡ drop (length (injected injections k.steps)) injections)
    (stands : (s : State) → Stands k s → Stands next (step app limits (injected injections k.steps) s)) where
  stands_on : (s : State) → Stands k s → Stands next (step app limits (injected plan k.steps) s)
  stands_on =
      stands_as app limits k next (injected injections k.steps) (injected plan k.steps) (left.same k.steps (omega arith)) stands

  left_then : IsLeft plan later next.steps
  left_then =
      let more : next.steps ≡ suc k.steps = steps_more app formed plan limits are k way on next stands_on in
      rw (is, more) (left_next plan injections k.steps left)

  free_then : (until least : ℕ) → ((n : ℕ) → n < least → injected later n ≡ []) → until ≤ least
      → (app.tickless ≡ false → next.steps < until → next.clock.age + next.clock.held + until ≤ limits.ticks + next.steps)
      → (next.steps < until → until ≤ limits.steps) → NonePends next → IsFree app limits until next plan
  free_then until least alone far ticks steps none =
      free_of_limits app limits until next plan (goes_on app formed plan limits are k way on next stands_on)
      (λ n from below. sym (left_then.same n from) ∙ alone n (omega arith)) ticks steps none

pub steps-init : goal.steps-init
steps-init c = record {
  way = c.requires.way;
  on = omega arith;
  far = c.requires.soon;
  events =
      sym (append-nil _)
      ∙ ap (λ l. all_of c.args.trail.now ++ l)
      (sym (from_here c.args.app.now c.args.limits.now c.args.injections.now c.args.kernel.now.steps));
  left = left_first c.args.injections.now c.args.kernel.now.steps c.requires.plan c.requires.ahead;
  meter = omega arith;
}

pub step_by_plan-requires-clause-going : goal.step_by_plan-requires-clause-going
step_by_plan-requires-clause-going c =
    can_step c.args.app.now c.well_formed-2.ensures c.args.injections.now c.args.limits.now c.well_formed-3.ensures
    c.steps.kernel c.steps.invariant.way (sym (c.in_default.ensures _ c.steps.invariant.way.stands))

-- where the next injection is, once the step is done
pub next_injection-requires : goal.next_injection-requires
next_injection-requires c =
    let on : end_of c.args.app.now c.args.limits.now
    (state_after c.args.app.now c.args.limits.now c.args.injections.now c.steps.kernel.steps)
    ≡ None =
    sym (c.in_default.ensures _ c.steps.invariant.way.stands) in
    let m =
    steps_more c.args.app.now c.well_formed-2.ensures c.args.injections.now c.args.limits.now c.well_formed-3.ensures c.steps.kernel
    c.steps.invariant.way on c.step_by_plan.new.kernel
    (stands_as c.args.app.now c.args.limits.now c.steps.kernel c.step_by_plan.new.kernel _ _
    (handlers_are c.args.injections.now c.steps.left.now c.steps.kernel.steps _ refl c.steps.invariant.left)
    c.in_ok-left.ensures.stands) in
    let left : IsLeft c.args.injections.now c.in_ok-left.left.now c.step_by_plan.new.kernel.steps =
    rw (c.in_ok-left.ensures.later, m)
    (left_next c.args.injections.now c.steps.left.now c.steps.kernel.steps c.steps.invariant.left) in
    record { order = left.order }

pub returns-in_err-left-clause-way : goal.returns-in_err-left-clause-way
returns-in_err-left-clause-way c =
    goes_on c.args.app.now c.well_formed-2.ensures c.args.injections.now c.args.limits.now c.well_formed-3.ensures c.steps.kernel
    c.steps.invariant.way (sym (c.in_default.ensures _ c.steps.invariant.way.stands)) c.step_by_plan.new.kernel
    (stands_as c.args.app.now c.args.limits.now c.steps.kernel c.step_by_plan.new.kernel _ _
    (handlers_are c.args.injections.now c.steps.left.now c.steps.kernel.steps _ refl c.steps.invariant.left)
    c.in_err-left.ensures.stands)

pub returns-in_err-left-clause-on : goal.returns-in_err-left-clause-on
returns-in_err-left-clause-on c =
    let m =
    steps_more c.args.app.now c.well_formed-2.ensures c.args.injections.now c.args.limits.now c.well_formed-3.ensures c.steps.kernel
    c.steps.invariant.way (sym (c.in_default.ensures _ c.steps.invariant.way.stands)) c.step_by_plan.new.kernel
    (stands_as c.args.app.now c.args.limits.now c.steps.kernel c.step_by_plan.new.kernel _ _
    (handlers_are c.args.injections.now c.steps.left.now c.steps.kernel.steps _ refl c.steps.invariant.left)
    c.in_err-left.ensures.stands) in
    let o = c.steps.invariant.on in
    omega arith

pub returns-in_err-left-clause-meter : goal.returns-in_err-left-clause-meter
returns-in_err-left-clause-meter c =
    let m =
    steps_more c.args.app.now c.well_formed-2.ensures c.args.injections.now c.args.limits.now c.well_formed-3.ensures c.steps.kernel
    c.steps.invariant.way (sym (c.in_default.ensures _ c.steps.invariant.way.stands)) c.step_by_plan.new.kernel
    (stands_as c.args.app.now c.args.limits.now c.steps.kernel c.step_by_plan.new.kernel _ _
    (handlers_are c.args.injections.now c.steps.left.now c.steps.kernel.steps _ refl c.steps.invariant.left)
    c.in_err-left.ensures.stands) in
    let e = c.in_err-left.ensures.meter in
    let f = c.steps.invariant.meter in
    omega arith

pub returns-in_err-left-clause-memory : goal.returns-in_err-left-clause-memory
returns-in_err-left-clause-memory c =
    let p = err_from_is_err_and c.from_residual.result c.from_residual.ensures.1 in
    rw p.1 (told_more c.args.app.now c.well_formed-2.ensures c.args.injections.now c.args.limits.now c.well_formed-3.ensures
    c.steps.kernel c.steps.invariant.way (sym (c.in_default.ensures _ c.steps.invariant.way.stands)) c.step_by_plan.new.kernel
    (stands_as c.args.app.now c.args.limits.now c.steps.kernel c.step_by_plan.new.kernel _ _
    (handlers_are c.args.injections.now c.steps.left.now c.steps.kernel.steps _ refl c.steps.invariant.left)
    c.in_err-left.ensures.stands)
    (subst (λ (hs : List ℕ).
    0
    < length (step c.args.app.now c.args.limits.now hs
    (state_after c.args.app.now c.args.limits.now c.args.injections.now c.steps.kernel.steps)).log)
    (handlers_are c.args.injections.now c.steps.left.now c.steps.kernel.steps _ refl c.steps.invariant.left)
    (c.in_err-left.ensures.memory _ c.steps.invariant.way.stands)))

pub step_by_plan-requires-clause-meter : goal.step_by_plan-requires-clause-meter
step_by_plan-requires-clause-meter c =
    let on : end_of c.args.app.now c.args.limits.now
    (state_after c.args.app.now c.args.limits.now c.args.injections.now c.steps.kernel.steps)
    ≡ None =
    sym (c.in_default.ensures _ c.steps.invariant.way.stands) in
    let l =
    steps_below c.args.app.now c.well_formed-2.ensures c.args.injections.now
    c.args.limits.now c.well_formed-3.ensures c.steps.kernel c.steps.invariant.way on in
    let most = c.well_formed-3.ensures.3 in
    let low = c.requires.meter in
    let f = c.steps.invariant.meter in
    omega arith

pub step_by_plan-requires-clause-order : goal.step_by_plan-requires-clause-order
step_by_plan-requires-clause-order c = c.steps.invariant.left.order

pub step_by_plan-requires-clause-left : goal.step_by_plan-requires-clause-left
step_by_plan-requires-clause-left c = c.steps.invariant.left.ahead

pub step_by_plan-requires-clause-few : goal.step_by_plan-requires-clause-few
step_by_plan-requires-clause-few c =
    few_left c.args.injections.now c.steps.left.now c.steps.kernel.steps c.requires.plan c.steps.invariant.left

pub steps-smaller-in-Continue-branch-2 : goal.steps-smaller-in-Continue-branch-2
steps-smaller-in-Continue-branch-2 c =
    let on : end_of c.args.app.now c.args.limits.now
    (state_after c.args.app.now c.args.limits.now c.args.injections.now c.steps.kernel.steps)
    ≡ None =
    sym (c.in_default.ensures _ c.steps.invariant.way.stands) in
    let stands =
    stands_as c.args.app.now c.args.limits.now c.steps.kernel c.step_by_plan.new.kernel _ _
    (handlers_are c.args.injections.now c.steps.left.now c.steps.kernel.steps _ refl c.steps.invariant.left)
    c.in_ok-left.ensures.stands in
    let low =
    steps_below c.args.app.now c.well_formed-2.ensures c.args.injections.now
    c.args.limits.now c.well_formed-3.ensures c.steps.kernel c.steps.invariant.way on in
    let m =
    steps_more c.args.app.now c.well_formed-2.ensures c.args.injections.now c.args.limits.now
    c.well_formed-3.ensures c.steps.kernel c.steps.invariant.way on c.step_by_plan.new.kernel stands in
    let p = c.go_on.ensures.to.on in
    omega arith

pub free_until-until-requires : goal.free_until-until-requires
free_until-until-requires c =
    let on : end_of c.args.app.now c.args.limits.now
    (state_after c.args.app.now c.args.limits.now c.args.injections.now c.steps.kernel.steps)
    ≡ None =
    sym (c.in_default.ensures _ c.steps.invariant.way.stands) in
    let stands =
    stands_as c.args.app.now c.args.limits.now c.steps.kernel c.step_by_plan.new.kernel _ _
    (handlers_are c.args.injections.now c.steps.left.now c.steps.kernel.steps _ refl c.steps.invariant.left)
    c.in_ok-left.ensures.stands in
    let m =
    steps_more c.args.app.now c.well_formed-2.ensures c.args.injections.now c.args.limits.now
    c.well_formed-3.ensures c.steps.kernel c.steps.invariant.way on c.step_by_plan.new.kernel stands in
    let left : IsLeft c.args.injections.now c.in_ok-left.left.now c.step_by_plan.new.kernel.steps =
    rw (c.in_ok-left.ensures.later, m)
    (left_next c.args.injections.now c.steps.left.now c.steps.kernel.steps c.steps.invariant.left) in
    let low =
    steps_below c.args.app.now c.well_formed-2.ensures c.args.injections.now
    c.args.limits.now c.well_formed-3.ensures c.steps.kernel c.steps.invariant.way on in
    let most = c.well_formed-3.ensures.3 in
    let small : c.step_by_plan.new.kernel.steps < 2 ^ 32 = omega arith in
    let least = c.next_injection.ensures.least c.step_by_plan.new.kernel.steps small left.ahead in
    let within = c.steps.invariant.far in
    let short : c.steps.kernel.steps ≢ c.args.step = c.if-kernel-step.false in
    omega (arith, least, within, short, m, c.min.ensures)

pub go_on-requires-clause-free : goal.go_on-requires-clause-free
go_on-requires-clause-free c =
    let on : end_of c.args.app.now c.args.limits.now
    (state_after c.args.app.now c.args.limits.now c.args.injections.now c.steps.kernel.steps)
    ≡ None =
    sym (c.in_default.ensures _ c.steps.invariant.way.stands) in
    let free : IsFree c.args.app.now c.args.limits.now c.free_until-until.result c.step_by_plan.new.kernel c.args.injections.now =
    free_then c.args.app.now c.well_formed-2.ensures c.args.injections.now c.args.limits.now c.well_formed-3.ensures
    c.steps.kernel c.step_by_plan.new.kernel c.steps.invariant.way on c.steps.left.now c.in_ok-left.left.now
    c.steps.invariant.left c.in_ok-left.ensures.later c.in_ok-left.ensures.stands c.free_until-until.result
    c.next_injection.result c.next_injection.ensures.alone (omega (arith, c.free_until-until.ensures.far, c.min.ensures))
    c.free_until-until.ensures.ticks c.free_until-until.ensures.steps
    (none_of_any c.step_by_plan.new.kernel.sources.pending (sym c.any_pending.ensures ∙ c.if-not-any_pending.true)) in
    free

pub go_on-requires-clause-meter : goal.go_on-requires-clause-meter
go_on-requires-clause-meter c =
    let on : end_of c.args.app.now c.args.limits.now
    (state_after c.args.app.now c.args.limits.now c.args.injections.now c.steps.kernel.steps)
    ≡ None =
    sym (c.in_default.ensures _ c.steps.invariant.way.stands) in
    let stands =
    stands_as c.args.app.now c.args.limits.now c.steps.kernel c.step_by_plan.new.kernel _ _
    (handlers_are c.args.injections.now c.steps.left.now c.steps.kernel.steps _ refl c.steps.invariant.left)
    c.in_ok-left.ensures.stands in
    let m =
    steps_more c.args.app.now c.well_formed-2.ensures c.args.injections.now c.args.limits.now
    c.well_formed-3.ensures c.steps.kernel c.steps.invariant.way on c.step_by_plan.new.kernel stands in
    let e = c.in_ok-left.ensures.meter in
    let f = c.steps.invariant.meter in
    let low = c.requires.meter in
    omega arith

pub steps-preserved-in-Continue-branch-2 : goal.steps-preserved-in-Continue-branch-2
steps-preserved-in-Continue-branch-2 c =
    let on : end_of c.args.app.now c.args.limits.now
    (state_after c.args.app.now c.args.limits.now c.args.injections.now c.steps.kernel.steps)
    ≡ None =
    sym (c.in_default.ensures _ c.steps.invariant.way.stands) in
    let stands =
    stands_as c.args.app.now c.args.limits.now c.steps.kernel c.step_by_plan.new.kernel _ _
    (handlers_are c.args.injections.now c.steps.left.now c.steps.kernel.steps _ refl c.steps.invariant.left)
    c.in_ok-left.ensures.stands in
    let m =
    steps_more c.args.app.now c.well_formed-2.ensures c.args.injections.now c.args.limits.now
    c.well_formed-3.ensures c.steps.kernel c.steps.invariant.way on c.step_by_plan.new.kernel stands in
    let left : IsLeft c.args.injections.now c.in_ok-left.left.now c.step_by_plan.new.kernel.steps =
    rw (c.in_ok-left.ensures.later, m)
    (left_next c.args.injections.now c.steps.left.now c.steps.kernel.steps c.steps.invariant.left) in
    let e = c.in_ok-left.ensures.meter in
    let f = c.steps.invariant.meter in
    let o = c.steps.invariant.on in
    let free : IsFree c.args.app.now c.args.limits.now c.free_until-until.result c.step_by_plan.new.kernel c.args.injections.now =
    free_then c.args.app.now c.well_formed-2.ensures c.args.injections.now c.args.limits.now c.well_formed-3.ensures
    c.steps.kernel c.step_by_plan.new.kernel c.steps.invariant.way on c.steps.left.now c.in_ok-left.left.now
    c.steps.invariant.left c.in_ok-left.ensures.later c.in_ok-left.ensures.stands c.free_until-until.result
    c.next_injection.result c.next_injection.ensures.alone (omega (arith, c.free_until-until.ensures.far, c.min.ensures))
    c.free_until-until.ensures.ticks c.free_until-until.ensures.steps
    (none_of_any c.step_by_plan.new.kernel.sources.pending (sym c.any_pending.ensures ∙ c.if-not-any_pending.true)) in
    let passed = c.go_on.ensures.to.on in
    let g = c.go_on.ensures.meter in
    let far = c.go_on.ensures.to.far c.free_until-until.ensures.ahead in
    let until = c.free_until-until.ensures.far in
    let whole : all_of c.step_by_plan.new.trail
    ≡ all_of c.args.trail.now
    ++ events_from c.args.app.now c.args.limits.now c.args.injections.now c.args.kernel.now.steps c.step_by_plan.new.kernel.steps =
    more_events c.args.app.now c.well_formed-2.ensures c.args.injections.now c.args.limits.now c.well_formed-3.ensures
    c.steps.kernel c.steps.invariant.way on c.step_by_plan.new.kernel stands c.args.kernel.now.steps c.steps.invariant.on
    (all_of c.args.trail.now) (all_of c.steps.trail) (all_of c.step_by_plan.new.trail) c.steps.invariant.events
    (subst (λ (hs : List ℕ).
    all_of c.step_by_plan.new.trail
    ≡ all_of c.steps.trail
    ++ (step c.args.app.now c.args.limits.now hs
    (state_after c.args.app.now c.args.limits.now c.args.injections.now c.steps.kernel.steps)).log)
    (handlers_are c.args.injections.now c.steps.left.now c.steps.kernel.steps _ refl c.steps.invariant.left)
    (c.in_ok-left.ensures.told _ c.steps.invariant.way.stands)) in
    record {
      way = c.go_on.ensures.to.way c.args.injections.now free;
      on = omega arith;
      far = (let ways = c.min.ensures in omega arith);
      events =
          more_from c.args.app.now c.args.limits.now c.args.injections.now c.args.kernel.now.steps c.step_by_plan.new.kernel.steps
          c.go_on.new.kernel.steps (omega arith) passed (all_of c.args.trail.now) (all_of c.step_by_plan.new.trail)
          (all_of c.go_on.new.trail) whole (c.in_ok-go_on.ensures.along.events c.args.injections.now free);
      left =
          left_on c.args.injections.now c.in_ok-left.left.now c.step_by_plan.new.kernel.steps c.go_on.new.kernel.steps
          passed (c.next_injection.ensures.ahead c.go_on.new.kernel.steps (omega arith)) left;
      meter = omega arith;
    }

pub returns-in_err-go_on-clause-way : goal.returns-in_err-go_on-clause-way
returns-in_err-go_on-clause-way c =
    let on : end_of c.args.app.now c.args.limits.now
    (state_after c.args.app.now c.args.limits.now c.args.injections.now c.steps.kernel.steps)
    ≡ None =
    sym (c.in_default.ensures _ c.steps.invariant.way.stands) in
    let free : IsFree c.args.app.now c.args.limits.now c.free_until-until.result c.step_by_plan.new.kernel c.args.injections.now =
    free_then c.args.app.now c.well_formed-2.ensures c.args.injections.now c.args.limits.now c.well_formed-3.ensures
    c.steps.kernel c.step_by_plan.new.kernel c.steps.invariant.way on c.steps.left.now c.in_ok-left.left.now
    c.steps.invariant.left c.in_ok-left.ensures.later c.in_ok-left.ensures.stands c.free_until-until.result
    c.next_injection.result c.next_injection.ensures.alone (omega (arith, c.free_until-until.ensures.far, c.min.ensures))
    c.free_until-until.ensures.ticks c.free_until-until.ensures.steps
    (none_of_any c.step_by_plan.new.kernel.sources.pending (sym c.any_pending.ensures ∙ c.if-not-any_pending.true)) in
    c.go_on.ensures.to.way c.args.injections.now free

pub returns-in_err-go_on-clause-on : goal.returns-in_err-go_on-clause-on
returns-in_err-go_on-clause-on c =
    let on : end_of c.args.app.now c.args.limits.now
    (state_after c.args.app.now c.args.limits.now c.args.injections.now c.steps.kernel.steps)
    ≡ None =
    sym (c.in_default.ensures _ c.steps.invariant.way.stands) in
    let stands =
    stands_as c.args.app.now c.args.limits.now c.steps.kernel c.step_by_plan.new.kernel _ _
    (handlers_are c.args.injections.now c.steps.left.now c.steps.kernel.steps _ refl c.steps.invariant.left)
    c.in_ok-left.ensures.stands in
    let m =
    steps_more c.args.app.now c.well_formed-2.ensures c.args.injections.now c.args.limits.now
    c.well_formed-3.ensures c.steps.kernel c.steps.invariant.way on c.step_by_plan.new.kernel stands in
    let o = c.steps.invariant.on in
    let passed = c.go_on.ensures.to.on in
    omega arith

pub returns-in_err-go_on-clause-meter : goal.returns-in_err-go_on-clause-meter
returns-in_err-go_on-clause-meter c =
    let on : end_of c.args.app.now c.args.limits.now
    (state_after c.args.app.now c.args.limits.now c.args.injections.now c.steps.kernel.steps)
    ≡ None =
    sym (c.in_default.ensures _ c.steps.invariant.way.stands) in
    let stands =
    stands_as c.args.app.now c.args.limits.now c.steps.kernel c.step_by_plan.new.kernel _ _
    (handlers_are c.args.injections.now c.steps.left.now c.steps.kernel.steps _ refl c.steps.invariant.left)
    c.in_ok-left.ensures.stands in
    let m =
    steps_more c.args.app.now c.well_formed-2.ensures c.args.injections.now c.args.limits.now
    c.well_formed-3.ensures c.steps.kernel c.steps.invariant.way on c.step_by_plan.new.kernel stands in
    let e = c.in_ok-left.ensures.meter in
    let f = c.steps.invariant.meter in
    let g = c.go_on.ensures.meter in
    omega arith

pub returns-in_err-go_on-clause-kept : goal.returns-in_err-go_on-clause-kept
returns-in_err-go_on-clause-kept c =
    let on : end_of c.args.app.now c.args.limits.now
    (state_after c.args.app.now c.args.limits.now c.args.injections.now c.steps.kernel.steps)
    ≡ None =
    sym (c.in_default.ensures _ c.steps.invariant.way.stands) in
    let stands =
    stands_as c.args.app.now c.args.limits.now c.steps.kernel c.step_by_plan.new.kernel _ _
    (handlers_are c.args.injections.now c.steps.left.now c.steps.kernel.steps _ refl c.steps.invariant.left)
    c.in_ok-left.ensures.stands in
    let whole : all_of c.step_by_plan.new.trail
    ≡ all_of c.args.trail.now
    ++ events_from c.args.app.now c.args.limits.now c.args.injections.now c.args.kernel.now.steps c.step_by_plan.new.kernel.steps =
    more_events c.args.app.now c.well_formed-2.ensures c.args.injections.now c.args.limits.now c.well_formed-3.ensures
    c.steps.kernel c.steps.invariant.way on c.step_by_plan.new.kernel stands c.args.kernel.now.steps c.steps.invariant.on
    (all_of c.args.trail.now) (all_of c.steps.trail) (all_of c.step_by_plan.new.trail) c.steps.invariant.events
    (subst (λ (hs : List ℕ).
    all_of c.step_by_plan.new.trail
    ≡ all_of c.steps.trail
    ++ (step c.args.app.now c.args.limits.now hs
    (state_after c.args.app.now c.args.limits.now c.args.injections.now c.steps.kernel.steps)).log)
    (handlers_are c.args.injections.now c.steps.left.now c.steps.kernel.steps _ refl c.steps.invariant.left)
    (c.in_ok-left.ensures.told _ c.steps.invariant.way.stands)) in
    let p = err_from_is_err_and c.from_residual-in_err-go_on.result c.from_residual-in_err-go_on.ensures.1 in
    rw p.1 (extends_on (all_of c.args.trail.now) (all_of c.step_by_plan.new.trail)
    (all_of c.go_on.new.trail) _ whole c.in_err-go_on.ensures.kept)

pub returns-in_err-left-clause-far : goal.returns-in_err-left-clause-far
returns-in_err-left-clause-far c =
    let m =
    steps_more c.args.app.now c.well_formed-2.ensures c.args.injections.now c.args.limits.now c.well_formed-3.ensures c.steps.kernel
    c.steps.invariant.way (sym (c.in_default.ensures _ c.steps.invariant.way.stands)) c.step_by_plan.new.kernel
    (stands_as c.args.app.now c.args.limits.now c.steps.kernel c.step_by_plan.new.kernel _ _
    (handlers_are c.args.injections.now c.steps.left.now c.steps.kernel.steps _ refl c.steps.invariant.left)
    c.in_err-left.ensures.stands) in
    let within = c.steps.invariant.far in
    let short : c.steps.kernel.steps ≢ c.args.step = c.if-kernel-step.false in
    omega (arith, m, within, short)

-- ---- where something is pending after the step

pub steps-smaller : goal.steps-smaller
steps-smaller c =
    let on : end_of c.args.app.now c.args.limits.now
    (state_after c.args.app.now c.args.limits.now c.args.injections.now c.steps.kernel.steps)
    ≡ None =
    sym (c.in_default.ensures _ c.steps.invariant.way.stands) in
    let stands =
    stands_as c.args.app.now c.args.limits.now c.steps.kernel c.step_by_plan.new.kernel _ _
    (handlers_are c.args.injections.now c.steps.left.now c.steps.kernel.steps _ refl c.steps.invariant.left)
    c.in_ok-left.ensures.stands in
    let low =
    steps_below c.args.app.now c.well_formed-2.ensures c.args.injections.now
    c.args.limits.now c.well_formed-3.ensures c.steps.kernel c.steps.invariant.way on in
    let m =
    steps_more c.args.app.now c.well_formed-2.ensures c.args.injections.now c.args.limits.now
    c.well_formed-3.ensures c.steps.kernel c.steps.invariant.way on c.step_by_plan.new.kernel stands in
    omega arith

pub steps-preserved : goal.steps-preserved
steps-preserved c =
    let on : end_of c.args.app.now c.args.limits.now
    (state_after c.args.app.now c.args.limits.now c.args.injections.now c.steps.kernel.steps)
    ≡ None =
    sym (c.in_default.ensures _ c.steps.invariant.way.stands) in
    let stands =
    stands_as c.args.app.now c.args.limits.now c.steps.kernel c.step_by_plan.new.kernel _ _
    (handlers_are c.args.injections.now c.steps.left.now c.steps.kernel.steps _ refl c.steps.invariant.left)
    c.in_ok-left.ensures.stands in
    let m =
    steps_more c.args.app.now c.well_formed-2.ensures c.args.injections.now c.args.limits.now
    c.well_formed-3.ensures c.steps.kernel c.steps.invariant.way on c.step_by_plan.new.kernel stands in
    let left : IsLeft c.args.injections.now c.in_ok-left.left.now c.step_by_plan.new.kernel.steps =
    rw (c.in_ok-left.ensures.later, m)
    (left_next c.args.injections.now c.steps.left.now c.steps.kernel.steps c.steps.invariant.left) in
    let e = c.in_ok-left.ensures.meter in
    let f = c.steps.invariant.meter in
    let o = c.steps.invariant.on in
    let far = c.steps.invariant.far in
    let short : c.steps.kernel.steps ≢ c.args.step = c.if-kernel-step.false in
    let whole : all_of c.step_by_plan.new.trail
    ≡ all_of c.args.trail.now
    ++ events_from c.args.app.now c.args.limits.now c.args.injections.now c.args.kernel.now.steps c.step_by_plan.new.kernel.steps =
    more_events c.args.app.now c.well_formed-2.ensures c.args.injections.now c.args.limits.now c.well_formed-3.ensures
    c.steps.kernel c.steps.invariant.way on c.step_by_plan.new.kernel stands c.args.kernel.now.steps c.steps.invariant.on
    (all_of c.args.trail.now) (all_of c.steps.trail) (all_of c.step_by_plan.new.trail) c.steps.invariant.events
    (subst (λ (hs : List ℕ).
    all_of c.step_by_plan.new.trail
    ≡ all_of c.steps.trail
    ++ (step c.args.app.now c.args.limits.now hs
    (state_after c.args.app.now c.args.limits.now c.args.injections.now c.steps.kernel.steps)).log)
    (handlers_are c.args.injections.now c.steps.left.now c.steps.kernel.steps _ refl c.steps.invariant.left)
    (c.in_ok-left.ensures.told _ c.steps.invariant.way.stands)) in
    record {
      way =
          goes_on c.args.app.now c.well_formed-2.ensures c.args.injections.now c.args.limits.now c.well_formed-3.ensures
          c.steps.kernel c.steps.invariant.way on c.step_by_plan.new.kernel stands;
      on = omega arith;
      far = omega (arith, m, far, short);
      events = whole;
      left = left;
      meter = omega arith;
    }
