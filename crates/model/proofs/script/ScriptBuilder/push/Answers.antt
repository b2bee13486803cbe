use Rattle.std.proofs.Common.{◌≡◌, true, length, ◌<◌}
use Rattle.model.specs.Blocks.{edge_of, may_stand}
use Rattle.model.specs.Scripts.{InRange}
use Rattle.model.proofs.Nesting.{ending_in_range, pushed}
use Rattle.model.proofs.script.ScriptBuilder.push.Goals as goal

pub invariant_of-self : goal.invariant_of-self
invariant_of-self c =
    let may : may_stand (edge_of c.ending-op.result) c.self.inside.blocks ≡ true = cc in
    let room : length c.self.inside.ops.items < 256 = rw c.self.view_is c.requires.room in
    let range : InRange c.ending-op.result =
    rw c.ending-op.ensures (ending_in_range c.self.inside.blocks c.args.op c.requires.range) in
    rw (c.in-Ok.ensures.items, c.pass.ensures, c.edge-in-Ok.ensures) (pushed _ _ _ c.self.invariant range room may)
