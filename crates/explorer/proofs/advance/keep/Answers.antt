use Rattle.std.proofs.Common.{ℕ, arith, refl, subst}
use Rattle.explorer.specs.Frontiers.{Settles}
use Rattle.explorer.specs.Questions.{app_in, levels_in, limits_in}
use Rattle.explorer.proofs.Passing.{takes_live, takes_spent}
use Rattle.explorer.proofs.Results.{on_ok}
use Rattle.explorer.proofs.advance.keep.Goals as goal

pub returns-then-len-levels-clause-takes : goal.returns-then-len-levels-clause-takes
returns-then-len-levels-clause-takes c =
    let block = c.args.block.now in
    let app = app_in block in
    let limits = limits_in block in
    let all = c.len-levels.ensures in
    let long = c.len.ensures in
    let levels = block.question.now.choices.now.levels.ok.0 in
    let test = c.if-len-levels.true in
    on_ok c.settle.result
    (λ settles.
    takes_live app limits (levels_in block) block.until c.args.kernel.now c.args.batch.count c.args.batch.least
    c.args.frontier.now (record c.args.frontier.now { live = c.settle.new.layer; findings = c.settle.new.findings })
    (omega (arith, long, all, levels, test))
    (subst (λ (here : ℕ). Settles app limits here c.args.kernel.now c.args.batch.count c.args.batch.least
    c.args.frontier.now.live.nodes.items c.settle.new.layer.nodes.items
    c.args.frontier.now.findings.items c.settle.new.findings.items) c.steps.ensures settles) refl)
    c.settle.ensures.settles

pub returns-else-len-levels-clause-takes : goal.returns-else-len-levels-clause-takes
returns-else-len-levels-clause-takes c =
    let block = c.args.block.now in
    let all = c.len-levels.ensures in
    let long = c.len.ensures in
    let levels = block.question.now.choices.now.levels.ok.0 in
    let test = c.if-len-levels.false in
    on_ok c.settle-else-len-levels.result
    (λ settles.
    takes_spent (app_in block) (limits_in block) (levels_in block) block.until c.args.kernel.now
    c.args.batch.count c.args.batch.least c.args.frontier.now (record c.args.frontier.now {
      spent = c.settle-else-len-levels.new.layer;
      findings = c.settle-else-len-levels.new.findings;
    })
    (omega (arith, long, all, levels, test)) settles refl)
    c.settle-else-len-levels.ensures.settles
