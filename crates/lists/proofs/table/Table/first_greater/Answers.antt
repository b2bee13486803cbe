use Rattle.std.proofs.Common.{◌+◌, ◌<◌, ℕ, List, Option, [], get_or, length, refl, ◌∙◌, ap, subst, arith}
use Rattle.lists.specs.Lists.{entries_of, first_of}
use Rattle.lists.specs.Links.{ends_of, links_of, lists_of, node_at, upper, walk}
use Rattle.lists.proofs.Rings.{next_room, node-below, read_node, ring_first}
use Rattle.lists.proofs.Search.{Search, shows}
use Rattle.lists.proofs.table.Table.first_greater.Goals as goal

pub loop-at-init : goal.loop-at-init
loop-at-init g c =
    let h = c.self.invariant.rings in
    let entries =
    entries_of (lists_of g.row.N (links_of g.row.N c.self.inside.rings.next) c.self.inside.rings.values
    (ends_of g.row.N c.self.inside.rings.next))
    c.args.list.number in
    let start : Search c.args.value entries (node_at g.row.N (get_or c.self.inside.rings.next (g.row.N + c.args.list.number) 0)) =
    record { before = []; rest = entries; whole = refl; here = ring_first h c.args.list.number c.requires; same = refl } in
    rw c.end-end.ensures start

pub returns-then-value-self-clause-found : goal.returns-then-value-self-clause-found
returns-then-value-self-clause-found g c =
    let is = node-below g.row.N c.loop-at.at c.loop-at-test.true in
    let at =
    shows c.self.invariant.rings.spells c.args.list.number c.requires c.args.value
    c.loop-at.at (node_at g.row.N c.loop-at.at) c.loop-at.invariant is in
    at.greater (omega arith)
    ∙ ap (λ (xs : List (List (ℕ × ℕ))). first_of (upper c.args.value (entries_of xs c.args.list.number))) c.self.view_is

pub loop-at-smaller : goal.loop-at-smaller
loop-at-smaller g c =
    let links = links_of g.row.N c.self.inside.rings.next in
    let is = node-below g.row.N c.loop-at.at c.loop-at-test.true in
    let at =
    shows c.self.invariant.rings.spells c.args.list.number c.requires c.args.value
    c.loop-at.at (node_at g.row.N c.loop-at.at) c.loop-at.invariant is in
    subst (λ (o : Option ℕ).
    length (walk links c.self.inside.rings.values g.row.N o)
    < length (walk links c.self.inside.rings.values g.row.N (node_at g.row.N c.loop-at.at)))
    (read_node g.row.N c.self.inside.rings.next c.loop-at.at c.loop-at-test.true (next_room c.self.invariant.rings)) at.shorter

pub loop-at-preserved : goal.loop-at-preserved
loop-at-preserved g c =
    let entries =
    entries_of (lists_of g.row.N (links_of g.row.N c.self.inside.rings.next) c.self.inside.rings.values
    (ends_of g.row.N c.self.inside.rings.next))
    c.args.list.number in
    let is = node-below g.row.N c.loop-at.at c.loop-at-test.true in
    let at =
    shows c.self.invariant.rings.spells c.args.list.number c.requires c.args.value
    c.loop-at.at (node_at g.row.N c.loop-at.at) c.loop-at.invariant is in
    subst (Search c.args.value entries)
    (read_node g.row.N c.self.inside.rings.next c.loop-at.at c.loop-at-test.true (next_room c.self.invariant.rings))
    (at.goes_on (omega arith))
