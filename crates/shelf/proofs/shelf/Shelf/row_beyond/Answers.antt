use Rattle.std.proofs.Common.{◌∙◌, ◌+◌, false, ap, arith, sym}
use Rattle.model.specs.Points.{first_step}
use Rattle.shelf.proofs.Along.{cost_beyond, way_is}
use Rattle.shelf.proofs.Whole.{missed_few, reached_few, walk_few}
use Rattle.shelf.proofs.shelf.Shelf.row_beyond.Goals as goal

pub walk_to-requires-clause-walk : goal.walk_to-requires-clause-walk
walk_to-requires-clause-walk c = c.new-walk.ensures.walk c.args.self.now.limits

pub returns-in_err-walk_to-clause-refused : goal.returns-in_err-walk_to-clause-refused
returns-in_err-walk_to-clause-refused c =
    let way = way_is c.args.self.now.stride c.new-walk.result.kernel.steps (first_step c.args.point.now) c.new-walk.ensures.steps in
    let most = c.walk_to.ensures.at_most in
    walk_few c.args.app.now c.args.self.now c.requires.shelf c.args.point.now c.well_formed-2.ensures c.args.simulation.now.meter
    c.walk_to.new.simulation.meter c.requires.reached (omega (arith, way, most)) c.in_err-walk_to.ensures.memory
    c.from_residual.result

pub returns-then-branch-clause-refused : goal.returns-then-branch-clause-refused
returns-then-branch-clause-refused c =
    let way = way_is c.args.self.now.stride c.new-walk.result.kernel.steps (first_step c.args.point.now) c.new-walk.ensures.steps in
    let risen = c.in_ok-walk_to.ensures.meter in
    reached_few c.args.app.now c.args.self.now c.requires.shelf c.args.point.now c.args.simulation.now.meter
    c.walk_to.new.simulation.meter
    c.reached_row.new.simulation.meter c.requires.reached (sym c.in_ok-walk_to.ensures.comes ∙ c.if-branch.true)
    (risen ∙ ap (λ n. c.args.simulation.now.meter + n) way)
    c.reached_row.result c.reached_row.ensures.refused

pub returns-else-branch-clause-refused : goal.returns-else-branch-clause-refused
returns-else-branch-clause-refused c =
    let way = way_is c.args.self.now.stride c.new-walk.result.kernel.steps (first_step c.args.point.now) c.new-walk.ensures.steps in
    let risen = c.in_ok-walk_to.ensures.meter in
    missed_few c.args.app.now c.args.self.now c.requires.shelf c.args.point.now c.args.simulation.now.meter
    c.walk_to.new.simulation.meter
    (sym c.in_ok-walk_to.ensures.comes ∙ c.if-branch.false)
    (λ steps. let cost = cost_beyond c.args.self.now c.args.point.now c.requires.reached false steps in
    omega (arith, cost, way, risen))
    c.missed_row.result c.missed_row.ensures.memory
