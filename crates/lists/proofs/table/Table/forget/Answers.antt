use Rattle.std.proofs.Common.{◌∙◌}
use Rattle.lists.proofs.Rings.{ring_forgotten, ring_lists, ring_seen, ring_sound, ring_table}
use Rattle.lists.proofs.Spelled.{place_is}
use Rattle.lists.proofs.table.Table.forget.Goals as goal

pub invariant_of-self : goal.invariant_of-self
invariant_of-self g c =
    let h = ring_seen c.self.invariant.rings c.self.view_is in
    let free = place_is h.spells c.args.node.number ∙ c.requires.free in
    ring_table (ring_forgotten h c.args.node.number c.args.node.number 0 c.requires.node free)
    c.self.invariant.lists_fit c.self.invariant.nodes_fit

pub returns-clause-same : goal.returns-clause-same
returns-clause-same g c =
    let h = ring_seen c.self.invariant.rings c.self.view_is in
    let free = place_is h.spells c.args.node.number ∙ c.requires.free in
    ring_lists (ring_forgotten h c.args.node.number c.args.node.number 0 c.requires.node free)

pub returns-clause-sound : goal.returns-clause-sound
returns-clause-sound g c =
    let h = ring_seen c.self.invariant.rings c.self.view_is in
    let free = place_is h.spells c.args.node.number ∙ c.requires.free in
    ring_sound (ring_forgotten h c.args.node.number c.args.node.number 0 c.requires.node free)
