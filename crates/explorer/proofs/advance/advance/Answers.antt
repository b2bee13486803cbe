use Rattle.std.proofs.Common.{◌≤◌, ◌+◌, ◌-◌, ◌∷◌, [], ◌++◌, List, Global, Vec, ap, arith, length, subst}
use Rattle.model.specs.Placements.{Found}
use Rattle.explorer.specs.declared.layer.Layer.{Layer}
use Rattle.explorer.specs.declared.layer.Node.{Node}
use Rattle.explorer.specs.Frontiers.{everything}
use Rattle.explorer.specs.Questions.{app_in, handlers_in, levels_in, limits_in}
use Rattle.explorer.proofs.Advancing.{AreLeft, all_passed, few_in_all, its_least, its_passed, its_room, its_step, its_way}
use Rattle.explorer.proofs.Advancing.{live_left, none_there}
use Rattle.explorer.proofs.Advancing.{room_for_all}
use Rattle.explorer.proofs.advance.advance.Goals as goal

pub pass-requires : goal.pass-requires
pass-requires c =
    let block = c.args.block.now in
    let app = app_in block in
    let limits = limits_in block in
    let handlers = handlers_in block in
    let levels = levels_in block in
    let ready = c.requires.ready in
    let n = ready.n in
    let until = block.until in
    let all = everything app limits handlers levels in
    let node = c.in-Some.node in
    let rest = c.pop.new.self.items in
    let next = c.loop-node.frontier in
    let left : AreLeft app limits handlers levels n (n + 1) until (λ plan. length plan ≤ levels - 1) (rest ++ node ∷ []) next all =
    subst (λ (nodes : List Node).
    AreLeft app limits handlers levels n (n + 1) until (λ plan. length plan ≤ levels - 1) nodes next all)
    c.in-Some.ensures.items (c.loop-node.invariant n all
    (live_left app limits handlers levels n until c.args.frontier.now c.take_live.new.self c.take_live.new.layer.nodes.items all
    ready.holds (ap (λ (ns : Vec Node Global). ns.items) c.take_live.ensures.taken) c.take_live.ensures.none
    (ap (λ (kernels : Layer). kernels.nodes.items) c.take_live.ensures.spent)
    (ap (λ (fs : Vec Found Global). fs.items) c.take_live.ensures.found))) in
    let step = its_step app limits handlers levels n (n + 1) until (λ plan. length plan ≤ levels - 1) rest node next all left in
    let short = its_least app limits handlers levels n (n + 1) until (λ plan. length plan ≤ levels - 1) rest node next all left in
    let room = its_room app limits handlers levels n (n + 1) until (λ plan. length plan ≤ levels - 1) rest node next all left in
    let few = few_in_all app limits handlers levels ready.few c.requires.choices.few ready.short in
    let some = ready.some in
    let before = ready.ahead in
    record {
      way = its_way app limits handlers levels n (n + 1) until (λ plan. length plan ≤ levels - 1) rest node next all left;
      choices = c.requires.choices;
      left = omega (arith, short, some);
      ahead = omega (arith, step, before);
      room = room_for_all handlers levels node.least _ node.count ready.few c.requires.choices.few (omega (arith, room, few));
      found = omega (arith, room, few);
    }

pub loop-node-init : goal.loop-node-init
loop-node-init c = λ n all left. left

pub loop-node-preserved : goal.loop-node-preserved
loop-node-preserved c = λ n all left.
    let block = c.args.block.now in
    let app = app_in block in
    let limits = limits_in block in
    let handlers = handlers_in block in
    let levels = levels_in block in
    let until = block.until in
    let node = c.in-Some.node in
    let rest = c.pop.new.self.items in
    let next = c.loop-node.frontier in
    its_passed app limits handlers levels n (n + 1) until (λ plan. length plan ≤ levels - 1) rest node next all
    (subst (λ (nodes : List Node).
    AreLeft app limits handlers levels n (n + 1) until (λ plan. length plan ≤ levels - 1) nodes next all)
    c.in-Some.ensures.items (c.loop-node.invariant n all left)) c.pass.new.frontier
    (λ more base are of holds. c.in_ok-pass.ensures n more base of holds)

pub returns : goal.returns
returns c = λ n h.
    let long = c.loop-node.layer.nodes.ok.0 in
    let over = c.in_default.ensures.cases.0 in
    let block = c.args.block.now in
    let app = app_in block in
    let limits = limits_in block in
    let handlers = handlers_in block in
    let levels = levels_in block in
    let all = everything app limits handlers levels in
    all_passed app limits handlers levels n (n + 1) block.until (λ plan. length plan ≤ levels - 1)
    c.loop-node.layer.nodes.items c.loop-node.frontier all (none_there c.loop-node.layer.nodes.items (omega (arith, long, over)))
    (c.loop-node.invariant n all
    (live_left app limits handlers levels n block.until c.args.frontier.now c.take_live.new.self c.take_live.new.layer.nodes.items
    all h (ap (λ (ns : Vec Node Global). ns.items) c.take_live.ensures.taken) c.take_live.ensures.none
    (ap (λ (kernels : Layer). kernels.nodes.items) c.take_live.ensures.spent)
    (ap (λ (fs : Vec Found Global). fs.items) c.take_live.ensures.found)))
