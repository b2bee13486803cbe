use Rattle.std.proofs.Common.{arith}
use Rattle.lists.proofs.Rings.{front_node, ring_seen}
use Rattle.lists.proofs.Spelled.{sound}
use Rattle.lists.proofs.table.Table.front.Goals as goal

pub invariant_of-result : goal.invariant_of-result
invariant_of-result g c =
    let h = ring_seen c.self.invariant.rings c.self.view_is in
    let nodes = c.self.invariant.nodes_fit in
    let front = front_node h c.args.list.number c.requires.list c.requires.some in
    rw c.end.ensures (omega (arith, nodes, front.1))

pub returns-clause-first : goal.returns-clause-first
returns-clause-first g c =
    let h = ring_seen c.self.invariant.rings c.self.view_is in
    rw c.end.ensures (front_node h c.args.list.number c.requires.list c.requires.some).0

pub returns-clause-known : goal.returns-clause-known
returns-clause-known g c =
    let h = ring_seen c.self.invariant.rings c.self.view_is in
    rw c.end.ensures (front_node h c.args.list.number c.requires.list c.requires.some).1

pub returns-clause-sound : goal.returns-clause-sound
returns-clause-sound g c =
    let h = ring_seen c.self.invariant.rings c.self.view_is in
    sound h.spells
