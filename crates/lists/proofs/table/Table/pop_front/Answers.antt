use Rattle.std.proofs.Common.{rules, ◌<◌, ◌≤◌, ◌+◌, get_or, refl, ◌∙◌}
use Rattle.lists.proofs.Rings.{ring_lists, ring_seen, ring_table}
use Rattle.lists.proofs.Rotating.{first_here, nobody_popped, popped_free, ring_popped, second_within}
use Rattle.lists.proofs.Spelled.{sound}
use Rattle.lists.proofs.table.Table.pop_front.Goals as goal

pub bounds-self-inside-second : goal.bounds-self-inside-second
bounds-self-inside-second g c =
    let h = ring_seen c.self.invariant.rings c.self.view_is in
    let first : get_or c.self.inside.rings.next (g.row.N + c.args.list.number) 0 < g.row.N = rw
    c.end-end.ensures at c.if-first.true in
    rw c.end-end.ensures (second_within h c.args.list.number c.requires _ refl first)

pub forget-requires : goal.forget-requires
forget-requires g c =
    let h = ring_seen c.self.invariant.rings c.self.view_is in
    let first : get_or c.self.inside.rings.next (g.row.N + c.args.list.number) 0 < g.row.N = rw
    c.end-end.ensures at c.if-first.true in
    let free = popped_free h c.args.list.number c.requires _ refl first _ refl in
    (search rules, (rw c.end-end.ensures first, rw c.end-end.ensures free))

pub invariant_of-self : goal.invariant_of-self
invariant_of-self g c =
    let h = ring_seen c.self.invariant.rings c.self.view_is in
    let first : get_or c.self.inside.rings.next (g.row.N + c.args.list.number) 0 < g.row.N = rw
    c.end-end.ensures at c.if-first.true in
    rw (c.end-end.ensures, c.none.ensures.none)
    (ring_table (ring_popped h c.args.list.number c.requires _ refl first _ refl)
    c.self.invariant.lists_fit c.self.invariant.nodes_fit)

pub returns-then-first-clause-first : goal.returns-then-first-clause-first
returns-then-first-clause-first g c =
    let h = ring_seen c.self.invariant.rings c.self.view_is in
    let first : get_or c.self.inside.rings.next (g.row.N + c.args.list.number) 0 < g.row.N = rw
    c.end-end.ensures at c.if-first.true in
    rw c.end-end.ensures (first_here h c.args.list.number c.requires _ refl first)

pub returns-then-first-clause-rest : goal.returns-then-first-clause-rest
returns-then-first-clause-rest g c =
    let h = ring_seen c.self.invariant.rings c.self.view_is in
    let first : get_or c.self.inside.rings.next (g.row.N + c.args.list.number) 0 < g.row.N = rw
    c.end-end.ensures at c.if-first.true in
    c.forget.ensures.same
    ∙ rw c.end-end.ensures (ring_lists (ring_popped h c.args.list.number c.requires _ refl first _ refl))

pub returns-then-first-clause-sound : goal.returns-then-first-clause-sound
returns-then-first-clause-sound g c =
    let h = ring_seen c.self.invariant.rings c.self.view_is in
    let first : get_or c.self.inside.rings.next (g.row.N + c.args.list.number) 0 < g.row.N = rw
    c.end-end.ensures at c.if-first.true in
    c.forget.ensures.sound

pub returns-clause-first : goal.returns-clause-first
returns-clause-first g c =
    let h = ring_seen c.self.invariant.rings c.self.view_is in
    let first : g.row.N ≤ get_or c.self.inside.rings.next (g.row.N + c.args.list.number) 0 = rw
    c.end-end.ensures at c.if-first.false in
    (nobody_popped h c.args.list.number c.requires first).0

pub returns-clause-rest : goal.returns-clause-rest
returns-clause-rest g c =
    let h = ring_seen c.self.invariant.rings c.self.view_is in
    let first : g.row.N ≤ get_or c.self.inside.rings.next (g.row.N + c.args.list.number) 0 = rw
    c.end-end.ensures at c.if-first.false in
    (nobody_popped h c.args.list.number c.requires first).1

pub returns-clause-sound : goal.returns-clause-sound
returns-clause-sound g c =
    let h = ring_seen c.self.invariant.rings c.self.view_is in
    sound h.spells
