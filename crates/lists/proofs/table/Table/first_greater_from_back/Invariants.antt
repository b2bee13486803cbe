use Rattle.std.proofs.Common.{◌≡◌, ◌+◌, ◌-◌, ◌≤◌, length}
use Rattle.lists.specs.Lists.{entries_of}
use Rattle.lists.specs.Links.{ends_of, links_of, lists_of, node_at, walk}
use Rattle.lists.proofs.SearchBack.{SearchBack}
use Rattle.lists.proofs.table.Table.first_greater_from_back.Given as goal

abbrev pub invariant-loop-at : goal.invariant-loop-at
invariant-loop-at g l =
    SearchBack l.value
    (entries_of (lists_of g.row.N (links_of g.row.N l.self-inside.rings.next) l.self-inside.rings.values
    (ends_of g.row.N l.self-inside.rings.next))
    l.fn.list.number)
    (node_at g.row.N l.at) (node_at g.row.N l.after)
    × (g.row.N ≤ l.after → l.after ≡ g.row.N + l.fn.list.number)

abbrev pub decreases-loop-at : goal.decreases-loop-at
decreases-loop-at g l =
    g.row.N - length (walk (links_of g.row.N l.self-inside.rings.next) l.self-inside.rings.values g.row.N (node_at g.row.N l.after))
