use Rattle.std.proofs.Common.{◌∙◌}
use Rattle.lists.proofs.Rings.{ring_lists, ring_put, ring_seen, ring_sound, ring_table, splits, within}
use Rattle.lists.proofs.Spelled.{place_is}
use Rattle.lists.proofs.table.Table.put_before.Goals as goal

pub bounds-self-inside-before : goal.bounds-self-inside-before
bounds-self-inside-before g c =
    let p = c.requires.split in
    let h = ring_seen c.self.invariant.rings c.self.view_is in
    let s = splits h c.args.list.number c.args.after p.before p.rest c.requires.list p.whole p.here c.requires.end in
    within h c.args.list.number _ c.requires.list s.before_end

pub invariant_of-self : goal.invariant_of-self
invariant_of-self g c =
    let p = c.requires.split in
    let h = ring_seen c.self.invariant.rings c.self.view_is in
    let free = place_is h.spells c.args.node.number ∙ c.requires.free in
    rw c.to.ensures.to
    (ring_table (ring_put h c.args.list.number c.args.node.number c.args.value c.args.after
    p.before p.rest c.requires.list c.requires.node free p.whole p.here c.requires.end)
    c.self.invariant.lists_fit c.self.invariant.nodes_fit)

pub returns-clause-put : goal.returns-clause-put
returns-clause-put g c = λ before rest whole here.
    let h = ring_seen c.self.invariant.rings c.self.view_is in
    let free = place_is h.spells c.args.node.number ∙ c.requires.free in
    ring_lists (ring_put h c.args.list.number c.args.node.number c.args.value c.args.after
    before rest c.requires.list c.requires.node free whole here c.requires.end)

pub returns-clause-sound : goal.returns-clause-sound
returns-clause-sound g c =
    let p = c.requires.split in
    let h = ring_seen c.self.invariant.rings c.self.view_is in
    let free = place_is h.spells c.args.node.number ∙ c.requires.free in
    ring_sound (ring_put h c.args.list.number c.args.node.number c.args.value c.args.after
    p.before p.rest c.requires.list c.requires.node free p.whole p.here c.requires.end)
