use Rattle.std.proofs.Common.{◌≡◌, true}
use Rattle.model.specs.Blocks.{edge_of_isr, may_stand}
use Rattle.random_apps.proofs.Nesting.{nest_on}
use Rattle.random_apps.proofs.handler_ops.HandlerOps.push.Goals as goal

pub invariant_of-self : goal.invariant_of-self
invariant_of-self c =
    let may : may_stand (edge_of_isr c.args.op) c.self.inside.blocks ≡ true = cc in
    rw (c.in-Ok.ensures.items, c.pass.ensures, c.edge-edge.ensures) (nest_on _ _ c.args.op c.self.invariant may)
