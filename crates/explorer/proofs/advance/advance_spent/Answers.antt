use Rattle.std.proofs.Common.{◌≤◌, ◌-◌, ◌∷◌, [], ◌++◌, List, Global, Vec, ap, arith, length, subst}
use Rattle.model.specs.Placements.{Found}
use Rattle.explorer.specs.declared.layer.Layer.{Layer}
use Rattle.explorer.specs.declared.layer.Node.{Node}
use Rattle.explorer.specs.Questions.{app_in, limits_in}
use Rattle.explorer.proofs.Advancing.{AreLeft, all_passed, its_passed, its_room, its_step, its_way, none_there, spent_left}
use Rattle.explorer.proofs.advance.advance_spent.Goals as goal

pub pass_spent-requires : goal.pass_spent-requires
pass_spent-requires c =
    let app = app_in c.args.block.now in
    let limits = limits_in c.args.block.now in
    let ready = c.requires.ready in
    let end = c.args.end in
    let until = c.args.block.now.until in
    let node = c.in-Some.node in
    let rest = c.pop.new.self.items in
    let next = c.loop-node.frontier in
    let left : AreLeft app limits ready.handlers ready.levels end ready.n until (λ plan. ready.levels - 1 ≤ length plan)
    (rest ++ node ∷ []) next ready.total =
    subst (λ (nodes : List Node). AreLeft app limits ready.handlers ready.levels end ready.n until
    (λ plan. ready.levels - 1 ≤ length plan) nodes next ready.total)
    c.in-Some.ensures.items (c.loop-node.invariant ready.handlers ready.levels ready.n ready.total
    (spent_left app limits ready.handlers ready.levels ready.n end until c.args.frontier.now c.take_spent.new.self
    c.take_spent.new.layer.nodes.items ready.total ready.holds (ap (λ (ns : Vec Node Global). ns.items) c.take_spent.ensures.taken)
    c.take_spent.ensures.none (ap (λ (kernels : Layer). kernels.nodes.items) c.take_spent.ensures.live)
    (ap (λ (fs : Vec Found Global). fs.items) c.take_spent.ensures.found))) in
    let step = its_step app limits ready.handlers ready.levels end ready.n until (λ plan. ready.levels - 1 ≤ length plan) rest node
    next ready.total left in
    let room = its_room app limits ready.handlers ready.levels end ready.n until (λ plan. ready.levels - 1 ≤ length plan) rest node
    next ready.total left in
    let few = ready.few in
    let ahead = c.requires.ahead in
    record {
      within = record {
        way =
            its_way app limits ready.handlers ready.levels end ready.n until (λ plan. ready.levels - 1 ≤ length plan) rest node
            next ready.total left;
        ahead = omega (arith, step, ahead);
      };
      room = omega (arith, room, few);
    }

pub loop-node-init : goal.loop-node-init
loop-node-init c = λ handlers levels n all left. left

pub loop-node-preserved : goal.loop-node-preserved
loop-node-preserved c = λ handlers levels n all left.
    let app = app_in c.args.block.now in
    let limits = limits_in c.args.block.now in
    let end = c.args.end in
    let until = c.args.block.now.until in
    let node = c.in-Some.node in
    let rest = c.pop.new.self.items in
    let next = c.loop-node.frontier in
    its_passed app limits handlers levels end n until (λ plan. levels - 1 ≤ length plan) rest node next all
    (subst (λ (nodes : List Node). AreLeft app limits handlers levels end n until (λ plan. levels - 1 ≤ length plan) nodes next all)
    c.in-Some.ensures.items (c.loop-node.invariant handlers levels n all left)) c.pass_spent.new.frontier
    (λ more base are of holds. c.in_ok-pass_spent.ensures handlers levels end n more base are of holds)

pub returns : goal.returns
returns c = λ handlers levels n all h.
    let long = c.loop-node.layer.nodes.ok.0 in
    let over = c.in_default.ensures.cases.0 in
    let app = app_in c.args.block.now in
    let limits = limits_in c.args.block.now in
    let until = c.args.block.now.until in
    all_passed app limits handlers levels c.args.end n until (λ plan. levels - 1 ≤ length plan)
    c.loop-node.layer.nodes.items c.loop-node.frontier all (none_there c.loop-node.layer.nodes.items (omega (arith, long, over)))
    (c.loop-node.invariant handlers levels n all
    (spent_left app limits handlers levels n c.args.end until c.args.frontier.now c.take_spent.new.self
    c.take_spent.new.layer.nodes.items all h (ap (λ (ns : Vec Node Global). ns.items) c.take_spent.ensures.taken)
    c.take_spent.ensures.none (ap (λ (kernels : Layer). kernels.nodes.items) c.take_spent.ensures.live)
    (ap (λ (fs : Vec Found Global). fs.items) c.take_spent.ensures.found)))
