use Rattle.std.proofs.Common.{ℕ, subst}
use Rattle.explorer.specs.Nodes.{IsAlike}
use Rattle.explorer.proofs.Carrying.{join_gains, put_gains}
use Rattle.explorer.proofs.Results.{on_ok}
use Rattle.explorer.proofs.layer.Layer.add.Goals as goal

pub returns-in-Some-clause-gains : goal.returns-in-Some-clause-gains
returns-in-Some-clause-gains c = λ app limits n plans more carries at.
    join_gains app limits n c.args.self.now.nodes.items c.join.new.self.nodes.items c.args.kernel.now c.in-Some.number
    c.args.count c.args.least plans more
    (subst (λ (long : ℕ). IsAlike c.args.self.now.nodes.items c.args.kernel.now long c.in-Some.number) c.len.ensures
    c.in-Some.ensures) c.join.ensures carries at

pub returns-in-None-clause-gains : goal.returns-in-None-clause-gains
returns-in-None-clause-gains c = on_ok c.put.result
    (λ put app limits n plans more carries at.
    put_gains app limits n c.args.self.now.nodes.items c.put.new.self.nodes.items c.args.kernel.now c.args.count c.args.least
    plans more put carries at)
    c.put.ensures
