use Rattle.std.proofs.Common.{◌≡◌, ◌<◌, ◌∙◌, None, [], ap, sym, arith}
use Rattle.model.specs.Points.{first_step, last_step}
use Rattle.kernel.proofs.Running.{steps_under}
use Rattle.model.proofs.Injected.{first_to_last}
use Rattle.machine.specs.declared.machine.Machine.{Machine}
use Rattle.shelf.specs.Shelves.{Shelved}
use Rattle.shelf.proofs.Begun.{has_begun}
use Rattle.shelf.proofs.shelf.Shelf.begin_row_after.Goals as goal

pub begin_row-requires-clause-beyond : goal.begin_row-requires-clause-beyond
begin_row-requires-clause-beyond c =
    let first = first_to_last c.args.point.now c.well_formed-2.ensures.in_order in
    let goes = c.requires.shelf.is_base.goes_on (first_step c.args.point.now) c.requires.reached in
    let under = steps_under c.args.app.now [] c.args.self.now.limits (first_step c.args.point.now) goes in
    let until = c.requires.beyond in
    omega arith

pub begin_row-requires-clause-meter : goal.begin_row-requires-clause-meter
begin_row-requires-clause-meter c =
    let copied = ap (λ (k : Machine). k.steps) c.set_from.ensures in
    let there = c.requires.there in
    let low = c.requires.meter in
    omega (arith, there, copied, low)

pub returns-clause-begun : goal.returns-clause-begun
returns-clause-begun c =
    let row = c.in_ok-end.ensures in
    let beyond : c.in_ok-end.end ≡ None → last_step c.args.point.now < c.begin_row.new.kernel.steps = λ goes. (
    let there = row.there goes in
    let under =
    steps_under c.args.app.now c.args.point.now c.self.inside.limits c.begin_row.new.kernel.steps (sym row.end ∙ goes) in
    let seen = ap (λ (s : Shelved). s.limits.steps) c.self.view_is in
    let until = c.requires.beyond in
    omega arith) in
    has_begun c.args.app.now c.args.point.now c.well_formed-2.ensures _ c.args.self.now.limits
    (ap (λ (s : Shelved). s.limits) c.self.view_is) _ _ _ _ row.way row.past beyond row.end
    row.events
