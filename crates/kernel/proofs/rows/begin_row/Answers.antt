use Rattle.std.proofs.Common.{◌≡◌, ◌≤◌, List, Option, ap, subst, sym, ◌∙◌, arith, length}
use Rattle.std.specs.Prelude.{IfOk}
use Rattle.model.specs.declared.event.End.{End}
use Rattle.model.specs.declared.plan.Injection.{Injection}
use Rattle.model.specs.Application.{Definition}
use Rattle.model.specs.Plans.{IsPlan}
use Rattle.model.specs.Run.{IsRun, end_of, state_after}
use Rattle.model.proofs.Plans.{point_is_plan}
use Rattle.machine.specs.declared.machine.Machine.{Machine}
use Rattle.machine.specs.Can.{IsUnderWay}
use Rattle.kernel.proofs.Alike.{blank_on_the_way}
use Rattle.kernel.proofs.Injecting.{past_if_ok, refused_by, row_way}
use Rattle.kernel.proofs.Running.{no_further, told_some}
use Rattle.kernel.proofs.rows.begin_row.Goals as goal

pub go_to_step-requires-clause-plan : goal.go_to_step-requires-clause-plan
go_to_step-requires-clause-plan c =
    subst IsPlan (sym (c.as_slice.ensures ∙ c.injections-injections.ensures))
    (point_is_plan c.args.point.now c.well_formed-2.ensures)

pub go_to_step-requires-clause-way : goal.go_to_step-requires-clause-way
go_to_step-requires-clause-way c =
    subst (λ (k : Machine). IsUnderWay c.args.app.now c.as_slice.result.now c.args.limits.now k) (sym c.kernel.view_is)
    (subst (λ (is : List Injection). IsUnderWay c.args.app.now is c.args.limits.now c.args.kernel.now)
    (sym (c.as_slice.ensures ∙ c.injections-injections.ensures))
    (row_way c.args.app.now c.args.limits.now c.args.point.now c.well_formed-2.ensures
    c.args.kernel.now c.requires.way (omega (arith, c.requires.there))))

-- At the first injection the run goes on, so it hasn't ended there.
pub returns-clause-past : goal.returns-clause-past
returns-clause-past c =
    let there = c.requires.there in
    let seen = ap (λ (k : Machine). k.steps) c.kernel.view_is in
    let on = c.go_to_step.ensures.on in
    let end =
    subst (λ (is : List Injection).
    IfOk c.go_to_step.result (λ (end : Option End).
    end
    ≡ end_of c.args.app.now c.args.limits.now (state_after c.args.app.now c.args.limits.now is c.go_to_step.new.kernel.steps)))
    (c.as_slice.ensures ∙ c.injections-injections.ensures) c.go_to_step.ensures.end in
    past_if_ok c.args.app.now c.args.limits.now c.args.point.now c.well_formed-2.ensures c.requires.goes
    c.go_to_step.new.kernel.steps (omega (arith, there, seen, on)) c.args.until c.requires.beyond
    c.go_to_step.result end c.go_to_step.ensures.there

pub returns-clause-refused : goal.returns-clause-refused
returns-clause-refused c =
    refused_by (λ some run is.
    let its =
    subst (λ (point : List Injection). IsRun c.args.app.now point c.args.limits.now run)
    (sym (c.as_slice.ensures ∙ c.injections-injections.ensures)) is in (
      no_further c.args.app.now c.as_slice.result.now c.args.limits.now c.go_to_step.new.kernel c.go_to_step.ensures.way run its,
      told_some c.args.app.now c.as_slice.result.now c.args.limits.now c.go_to_step.new.kernel
          c.go_to_step.ensures.way run its some,
    )) c.go_to_step.result c.go_to_step.ensures.memory

pub invariant_of-kernel : goal.invariant_of-kernel
invariant_of-kernel c = λ task behind.
    blank_on_the_way c.args.app.now c.well_formed-3.ensures c.args.limits.now c.as_slice.result.now c.go_to_step.new.kernel
    c.go_to_step.ensures.way task (subst (λ (ts : List Definition). length ts ≤ task) c.tasks.ensures behind)
