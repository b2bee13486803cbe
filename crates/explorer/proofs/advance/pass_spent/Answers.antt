use Rattle.std.proofs.Common.{◌≡◌, ◌∙◌, Global, List, Vec, ap, refl, subst, sym}
use Rattle.machine.specs.declared.machine.Machine.{Machine}
use Rattle.explorer.specs.declared.layer.Node.{Node}
use Rattle.explorer.specs.Questions.{AreSettled, AreWithin, app_in, batch_of, limits_in}
use Rattle.explorer.proofs.Holding.{spent_passes}
use Rattle.explorer.proofs.Results.{on_ok}
use Rattle.explorer.proofs.advance.pass_spent.Goals as goal

pub settle-requires-clause-within : goal.settle-requires-clause-within
settle-requires-clause-within c =
    subst (λ (k : Machine). AreWithin c.args.block.now k (batch_of c.args.node))
    (sym (c.restore.ensures ∙ c.deref.ensures)) c.requires.within

pub returns : goal.returns
returns c = on_ok c.settle.result
    (λ settles.
    let block = c.args.block.now in
    let batch = batch_of c.args.node in
    let old = c.args.frontier.now in
    let kept : c.keep_memory.new.self.nodes.items ≡ old.spent.nodes.items =
    ap (λ (ns : Vec Node Global). ns.items) c.keep_memory.ensures in
    let at : AreSettled block c.args.node.kernel.value batch old.spent.nodes.items c.settle.new.layer.nodes.items
    old.findings.items c.settle.new.findings.items =
    subst (λ (k : Machine). AreSettled block k batch old.spent.nodes.items c.settle.new.layer.nodes.items
    old.findings.items c.settle.new.findings.items) (c.restore.ensures ∙ c.deref.ensures)
    (subst (λ (nodes : List Node). AreSettled block c.restore.new.self batch nodes c.settle.new.layer.nodes.items
    old.findings.items c.settle.new.findings.items) kept settles) in
    spent_passes (app_in block) (limits_in block) block.until c.args.node old _ at refl)
    c.settle.ensures.settles
