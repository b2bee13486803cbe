use Rattle.std.proofs.Common.{◌<◌, ap, arith}
use Rattle.std.specs.Option.{option_map}
use Rattle.lists.specs.declared.ids.NodeId.{NodeId}
use Rattle.task_lists.proofs.task_lists.task_of.Goals as goal

pub invariant_of-result : goal.invariant_of-result
invariant_of-result c = c.requires c.in-Some.node.number (ap (option_map (λ (node : NodeId). node.number)) c.in-Some.is)

pub overflow_cast-result : goal.overflow_cast-result
overflow_cast-result c =
    let known : c.in-Some.node.number < 32 =
    c.requires c.in-Some.node.number (ap (option_map (λ (node : NodeId). node.number)) c.in-Some.is) in
    omega (arith, known)
