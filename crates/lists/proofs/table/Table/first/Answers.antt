use Rattle.std.proofs.Common.{◌∙◌}
use Rattle.lists.proofs.Rings.{ring_first, ring_seen}
use Rattle.lists.proofs.Spelled.{sound}
use Rattle.lists.proofs.table.Table.first.Goals as goal

pub returns-clause-first : goal.returns-clause-first
returns-clause-first g c =
    let h = ring_seen c.self.invariant.rings c.self.view_is in
    c.node_at.ensures ∙ rw c.end.ensures (ring_first h c.args.list.number c.requires)

pub returns-clause-sound : goal.returns-clause-sound
returns-clause-sound g c =
    let h = ring_seen c.self.invariant.rings c.self.view_is in
    sound h.spells
