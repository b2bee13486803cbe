use Rattle.std.proofs.Common.{◌<◌, ◌≤◌, ◌+◌, get_or, refl}
use Rattle.lists.proofs.Rings.{ring_lists, ring_seen, ring_sound, ring_table}
use Rattle.lists.proofs.Rotating.{last_within, nobody_first, nobody_second, ring_rotated, somebody_second}
use Rattle.lists.proofs.Spelled.{sound}
use Rattle.lists.proofs.table.Table.rotate.Goals as goal

pub bounds-self-inside-last : goal.bounds-self-inside-last
bounds-self-inside-last g c =
    let h = ring_seen c.self.invariant.rings c.self.view_is in
    let first : get_or c.self.inside.rings.next (g.row.N + c.args.list.number) 0 < g.row.N = rw
    c.end-end.ensures at c.if-first.true in
    rw c.end-end.ensures (last_within h c.args.list.number c.requires _ refl first _ refl)

pub invariant_of-self : goal.invariant_of-self
invariant_of-self g c =
    let h = ring_seen c.self.invariant.rings c.self.view_is in
    let first : get_or c.self.inside.rings.next (g.row.N + c.args.list.number) 0 < g.row.N = rw
    c.end-end.ensures at c.if-first.true in
    rw c.end-end.ensures (ring_table (ring_rotated h c.args.list.number c.requires _ refl first _ refl)
    c.self.invariant.lists_fit c.self.invariant.nodes_fit)

pub returns-then-second-clause-rotated : goal.returns-then-second-clause-rotated
returns-then-second-clause-rotated g c =
    let h = ring_seen c.self.invariant.rings c.self.view_is in
    let first : get_or c.self.inside.rings.next (g.row.N + c.args.list.number) 0 < g.row.N = rw
    c.end-end.ensures at c.if-first.true in
    rw c.end-end.ensures (ring_lists (ring_rotated h c.args.list.number c.requires _ refl first _ refl))

pub returns-then-second-clause-second : goal.returns-then-second-clause-second
returns-then-second-clause-second g c =
    let h = ring_seen c.self.invariant.rings c.self.view_is in
    let first : get_or c.self.inside.rings.next (g.row.N + c.args.list.number) 0 < g.row.N = rw
    c.end-end.ensures at c.if-first.true in
    let second : get_or c.self.inside.rings.next (get_or c.self.inside.rings.next (g.row.N + c.args.list.number) 0) 0 < g.row.N =
    rw c.end-end.ensures at c.if-second.true in
    rw c.end-end.ensures (somebody_second h c.args.list.number c.requires _ refl first second)

pub returns-then-second-clause-sound : goal.returns-then-second-clause-sound
returns-then-second-clause-sound g c =
    let h = ring_seen c.self.invariant.rings c.self.view_is in
    let first : get_or c.self.inside.rings.next (g.row.N + c.args.list.number) 0 < g.row.N = rw
    c.end-end.ensures at c.if-first.true in
    rw c.end-end.ensures (ring_sound (ring_rotated h c.args.list.number c.requires _ refl first _ refl))

pub returns-else-second-clause-rotated : goal.returns-else-second-clause-rotated
returns-else-second-clause-rotated g c =
    let h = ring_seen c.self.invariant.rings c.self.view_is in
    let first : get_or c.self.inside.rings.next (g.row.N + c.args.list.number) 0 < g.row.N = rw
    c.end-end.ensures at c.if-first.true in
    let second : g.row.N ≤ get_or c.self.inside.rings.next (get_or c.self.inside.rings.next (g.row.N + c.args.list.number) 0) 0 =
    rw c.end-end.ensures at c.if-second.false in
    (nobody_second h c.args.list.number c.requires _ refl first second).same

pub returns-else-second-clause-second : goal.returns-else-second-clause-second
returns-else-second-clause-second g c =
    let h = ring_seen c.self.invariant.rings c.self.view_is in
    let first : get_or c.self.inside.rings.next (g.row.N + c.args.list.number) 0 < g.row.N = rw
    c.end-end.ensures at c.if-first.true in
    let second : g.row.N ≤ get_or c.self.inside.rings.next (get_or c.self.inside.rings.next (g.row.N + c.args.list.number) 0) 0 =
    rw c.end-end.ensures at c.if-second.false in
    (nobody_second h c.args.list.number c.requires _ refl first second).none

pub returns-else-second-clause-sound : goal.returns-else-second-clause-sound
returns-else-second-clause-sound g c =
    let h = ring_seen c.self.invariant.rings c.self.view_is in
    sound h.spells

pub returns-else-first-clause-rotated : goal.returns-else-first-clause-rotated
returns-else-first-clause-rotated g c =
    let h = ring_seen c.self.invariant.rings c.self.view_is in
    let first : g.row.N ≤ get_or c.self.inside.rings.next (g.row.N + c.args.list.number) 0 = rw
    c.end-end.ensures at c.if-first.false in
    (nobody_first h c.args.list.number c.requires first).same

pub returns-else-first-clause-second : goal.returns-else-first-clause-second
returns-else-first-clause-second g c =
    let h = ring_seen c.self.invariant.rings c.self.view_is in
    let first : g.row.N ≤ get_or c.self.inside.rings.next (g.row.N + c.args.list.number) 0 = rw
    c.end-end.ensures at c.if-first.false in
    (nobody_first h c.args.list.number c.requires first).none

pub returns-else-first-clause-sound : goal.returns-else-first-clause-sound
returns-else-first-clause-sound g c =
    let h = ring_seen c.self.invariant.rings c.self.view_is in
    sound h.spells
