use Rattle.std.proofs.Common.{◌++◌, ◌<◌, ◌+◌, List, length, take, ap, refl, subst, ◌∙◌, arith}
use Rattle.std.proofs.lemmas.Result.{err_from_is_err_and}
use Rattle.model.specs.declared.event.Event.{Event}
use Rattle.model.specs.Points.{first_step}
use Rattle.model.specs.Run.{state_after}
use Rattle.shelf.proofs.Along.{few_before}
use Rattle.shelf.proofs.Whole.{whole_row, whole_refused}
use Rattle.shelf.proofs.shelf.Shelf.reached_row.Goals as goal

pub with_shared-requires : goal.with_shared-requires
with_shared-requires c =
    let few = few_before c.args.app.now c.args.self.now c.requires.shelf (first_step c.args.point.now) c.requires.reached in
    let before = c.in_ok-before.ensures.before in
    omega (arith, few, before)

pub returns-in_err-events-clause-refused : goal.returns-in_err-events-clause-refused
returns-in_err-events-clause-refused c =
    let p = err_from_is_err_and c.from_residual-in_err-events.result c.from_residual-in_err-events.ensures.1 in
    let none = c.truncate.ensures in
    let k = c.begin_row_after.new.simulation.kernel in
    let begun = c.in_ok-before.ensures.begun in
    rw p.1 (whole_refused c.args.app.now c.args.self.now c.requires.shelf c.args.point.now c.requires.reached
    k _ _ none c.in_ok-before.field-0 begun c.in_ok-before.ensures.before c.in-Some.end c.in-Some.is
    (state_after c.args.app.now c.args.self.now.limits c.args.point.now k.steps).elapsed refl
    c.args.simulation.now.meter c.begin_row_after.new.simulation.meter
    c.in_ok-before.ensures.meter
    (subst (λ (events : List Event). 0 < c.in_ok-before.field-0.before + length events)
    c.events.ensures c.in_err-events.ensures.memory))

pub returns-clause-row : goal.returns-clause-row
returns-clause-row c =
    let none = c.truncate.ensures in
    let begun = c.in_ok-before.ensures.begun in (
      refl,
      refl,
      rw c.steps.ensures (whole_row c.args.app.now c.args.self.now c.requires.shelf c.args.point.now c.requires.reached
          c.begin_row_after.new.simulation.kernel _ _ none c.in_ok-before.field-0 begun c.in_ok-before.ensures.before
          c.in-Some.end c.in-Some.is c.ticks.result (c.ticks.ensures _ begun.way.stands)
          c.in_ok-events.events.items (c.in_ok-events.ensures.events
          ∙ ap (λ (events : List Event). take c.in_ok-before.field-0.before c.args.self.now.base.events ++ events)
          c.events.ensures)),
    )
