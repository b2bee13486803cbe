use Rattle.lists.proofs.Rings.{ring_lists, ring_sound, ring_table, rings_empty}
use Rattle.lists.proofs.table.Table.new.Goals as goal

pub invariant_of-result : goal.invariant_of-result
invariant_of-result g c =
    rw c.none.ensures.none (ring_table
    (rings_empty g.row.L g.row.N g.row.M c.closed-links.result c.requires.links
    c.closed-links.ensures.length c.closed-links.ensures.closed)
    c.requires.lists c.requires.nodes)

pub returns-clause-empty : goal.returns-clause-empty
returns-clause-empty g c =
    ring_lists (rings_empty g.row.L g.row.N g.row.M c.closed-links.result
    c.requires.links c.closed-links.ensures.length c.closed-links.ensures.closed)

pub returns-clause-sound : goal.returns-clause-sound
returns-clause-sound g c =
    ring_sound (rings_empty g.row.L g.row.N g.row.M c.closed-links.result
    c.requires.links c.closed-links.ensures.length c.closed-links.ensures.closed)
