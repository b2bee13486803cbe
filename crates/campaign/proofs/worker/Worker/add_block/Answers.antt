use Rattle.std.proofs.Common.{◌≡◌, ◌≤◌, ◌+◌, ◌-◌, ◌∙◌, ◌∷◌, [], ℕ, List, ap, refl, subst, length, take, drop, length-drop}
use Rattle.std.proofs.Common.{arith}
use Rattle.std.proofs.lemmas.List.{take_all, length-take-le}
use Rattle.model.specs.declared.plan.Injection.{Injection}
use Rattle.deal.specs.Parts.{zeros}
use Rattle.campaign.specs.Working.{counted, store_in, GainsRows}
use Rattle.campaign.proofs.Counters.{none_added}
use Rattle.campaign.proofs.Keeping.{gains_at_once, gains_none, gains_both, gained_few, next_point}
use Rattle.campaign.proofs.worker.Worker.add_block.Goals as goal

pub loop-point-init : goal.loop-point-init
loop-point-init c = record {
  walk = c.requires.walk;
  blocks = refl;
  known = c.requires.known;
  rows =
      rw c.new-counts.ensures
      (gains_none c.args.setup.now.app.now c.args.setup.now.shelf.now.limits
      c.args.setup.now.view.now c.args.setup.now.shelf.now.base c.args.self.now.kept
      (store_in c.args.self.now.runner.value) (counted c.args.setup.now.tally.now zeros) c.requires.known.legs);
}

pub add_row-requires-clause-room : goal.add_row-requires-clause-room
add_row-requires-clause-room c kind l =
    let shelf = c.args.setup.now.shelf.now in
    let all = c.args.setup.now.points.now in
    let points = take (c.args.first + c.args.count - c.args.first) (drop c.args.first all) in
    let within : c.args.first + c.args.count - c.args.first ≤ length (drop c.args.first all) =
    omega (arith, length-drop c.args.first all, c.requires.points) in
    let long = length-take-le (c.args.first + c.args.count - c.args.first) (drop c.args.first all) within in
    let few =
    gained_few c.args.setup.now.app.now shelf.limits c.args.setup.now.view.now
    shelf.base _ _ _ _ _ _ _ c.loop-point.invariant.rows kind l in
    let none = none_added kind in
    let on = c.loop-point-test.true in
    let room = c.requires.room kind l in
    let count = length-take-le c.loop-point.point-index points (omega arith) in
    omega arith

pub loop-point-preserved : goal.loop-point-preserved
loop-point-preserved c =
    let shelf = c.args.setup.now.shelf.now in
    let points = take (c.args.first + c.args.count - c.args.first) (drop c.args.first c.args.setup.now.points.now) in
    record {
      walk = c.in_ok-add_row.ensures.walk;
      blocks = c.in_ok-add_row.ensures.blocks ∙ c.loop-point.invariant.blocks;
      known = c.in_ok-add_row.ensures.known;
      rows = rw (next_point points c.loop-point.point-index c.point-item.result c.loop-point-test.true c.point-item.is)
          (gains_both c.args.setup.now.app.now shelf.limits c.args.setup.now.view.now
          shelf.base (take c.loop-point.point-index points) (c.point-item.result ∷ [])
          _ _ _ _ _ _ _ _ _ c.loop-point.invariant.rows c.in_ok-add_row.ensures.row);
    }

pub add_to-requires-clause-room : goal.add_to-requires-clause-room
add_to-requires-clause-room c kind l =
    let shelf = c.args.setup.now.shelf.now in
    let all = c.args.setup.now.points.now in
    let points = take (c.args.first + c.args.count - c.args.first) (drop c.args.first all) in
    let within : c.args.first + c.args.count - c.args.first ≤ length (drop c.args.first all) =
    omega (arith, length-drop c.args.first all, c.requires.points) in
    let long = length-take-le (c.args.first + c.args.count - c.args.first) (drop c.args.first all) within in
    let end : length points ≤ c.loop-point.point-index = omega (arith, c.loop-point-test.false) in
    let few =
    gained_few c.args.setup.now.app.now shelf.limits c.args.setup.now.view.now
    shelf.base _ _ _ _ _ _ _ c.loop-point.invariant.rows kind l in
    let same = ap (λ (ps : List (List Injection)). length ps) (take_all c.loop-point.point-index points end) in
    let none = none_added kind in
    let room = c.requires.room kind l in
    omega arith

pub returns-clause-rows : goal.returns-clause-rows
returns-clause-rows c =
    let setup = c.args.setup.now in
    let after = drop c.args.first setup.points.now in
    let points = take (c.args.first + c.args.count - c.args.first) after in
    let end : length points ≤ c.loop-point.point-index = omega (arith, c.loop-point-test.false) in
    let count : c.args.first + c.args.count - c.args.first ≡ c.args.count = omega arith in
    let same = take_all c.loop-point.point-index points end ∙ ap (λ (n : ℕ). take n after) count in
    subst (λ (ps : List (List Injection)).
    GainsRows setup.app.now setup.shelf.now.limits setup.view.now setup.shelf.now.base
    ps c.args.self.now.kept c.loop-point.self.kept (store_in c.args.self.now.runner.value)
    (store_in c.loop-point.self.runner.value) c.args.seat.now c.add_to.new.seat)
    same
    (gains_at_once setup.app.now setup.shelf.now.limits setup.view.now setup.shelf.now.base _ _ _ _ _ setup.tally.now
    c.loop-point.counts.kinds c.args.seat.now c.add_to.new.seat c.loop-point.invariant.rows c.add_to.ensures)
