use Rattle.std.proofs.Common.{sym, ◌∙◌}
use Rattle.lists.proofs.Rings.{next_room, read_node, ring_seen}
use Rattle.lists.proofs.Spelled.{next_is, sound}
use Rattle.lists.proofs.table.Table.next_in_list.Goals as goal

pub returns-clause-next : goal.returns-clause-next
returns-clause-next g c = λ l has.
    let h = ring_seen c.self.invariant.rings c.self.view_is in
    c.node_at.ensures ∙ sym (read_node _ _ c.args.node.number c.requires (next_room h)) ∙ next_is h.spells c.args.node.number l has

pub returns-clause-sound : goal.returns-clause-sound
returns-clause-sound g c =
    let h = ring_seen c.self.invariant.rings c.self.view_is in
    sound h.spells
