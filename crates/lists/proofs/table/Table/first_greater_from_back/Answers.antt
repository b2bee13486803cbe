use Rattle.std.proofs.Common.{◌+◌, ◌<◌, ◌≤◌, ℕ, List, Option, None, Some, get_or, length, refl, sym, ◌∙◌, ap, subst, arith}
use Rattle.lists.specs.Lists.{IsSorted, entries_of, first_of}
use Rattle.lists.specs.Links.{ends_of, links_of, lists_of, node_at, upper, walk}
use Rattle.lists.proofs.Rings.{end-none, node-below, prev_room, read_end, read_node, within}
use Rattle.lists.proofs.SearchBack.{SearchBack, ends_back, shows_back, starts}
use Rattle.lists.proofs.table.Table.first_greater_from_back.Goals as goal

pub loop-at-init : goal.loop-at-init
loop-at-init g c =
    let h = c.self.invariant.rings in
    let l = c.args.list.number in
    let entries =
    entries_of
    (lists_of g.row.N (links_of g.row.N c.self.inside.rings.next) c.self.inside.rings.values
    (ends_of g.row.N c.self.inside.rings.next)) l in
    let room : g.row.N + l < length c.self.inside.rings.prev =
    subst (λ (k : ℕ). g.row.N + l < k) (sym h.prev_length) (within h l (g.row.N + l) c.requires.list (λ past. refl)) in
    let start : SearchBack c.args.value entries
    (node_at g.row.N (get_or c.self.inside.rings.prev (g.row.N + l) 0)) (node_at g.row.N (g.row.N + l)) =
    subst (SearchBack c.args.value entries (node_at g.row.N (get_or c.self.inside.rings.prev (g.row.N + l) 0)))
    (sym (end-none g.row.N (g.row.N + l) (omega arith)))
    (subst (λ (o : Option ℕ). SearchBack c.args.value entries o None)
    (read_end g.row.N l c.self.inside.rings.prev room) (starts h.spells l c.requires.list c.args.value)) in
    rw c.end-after.ensures (start, λ past. refl)

pub returns-then-self-at-clause-found : goal.returns-then-self-at-clause-found
returns-then-self-at-clause-found g c =
    let is = node-below g.row.N c.loop-at.at c.loop-at-test.true in
    let at =
    shows_back c.self.invariant.rings.spells c.args.list.number c.requires.list c.args.value c.loop-at.at
    (node_at g.row.N c.loop-at.at) (node_at g.row.N c.loop-at.after) c.loop-at.invariant.0 is in
    let sorted =
    subst (λ (xs : List (List (ℕ × ℕ))). IsSorted (entries_of xs c.args.list.number)) (sym c.self.view_is) c.requires.sorted in
    at.found sorted (omega arith)
    ∙ ap (λ (xs : List (List (ℕ × ℕ))). first_of (upper c.args.value (entries_of xs c.args.list.number))) c.self.view_is

pub loop-at-smaller : goal.loop-at-smaller
loop-at-smaller g c =
    let N = g.row.N in
    let links = links_of N c.self.inside.rings.next in
    let is = node-below N c.loop-at.at c.loop-at-test.true in
    let at =
    shows_back c.self.invariant.rings.spells c.args.list.number c.requires.list c.args.value
    c.loop-at.at (node_at N c.loop-at.at) (node_at N c.loop-at.after) c.loop-at.invariant.0 is in
    let longer =
    subst (λ (o : Option ℕ).
    length (walk links c.self.inside.rings.values N (node_at N c.loop-at.after)) < length
    (walk links c.self.inside.rings.values N o))
    (sym is) at.longer in
    let few = subst (λ (o : Option ℕ). length (walk links c.self.inside.rings.values N o) ≤ N) (sym is) at.few in
    omega (arith, longer, few)

pub loop-at-preserved : goal.loop-at-preserved
loop-at-preserved g c =
    let N = g.row.N in
    let entries =
    entries_of (lists_of N (links_of N c.self.inside.rings.next) c.self.inside.rings.values (ends_of N c.self.inside.rings.next))
    c.args.list.number in
    let is = node-below N c.loop-at.at c.loop-at-test.true in
    let at =
    shows_back c.self.invariant.rings.spells c.args.list.number c.requires.list c.args.value
    c.loop-at.at (node_at N c.loop-at.at) (node_at N c.loop-at.after) c.loop-at.invariant.0 is in
    let further =
    subst (λ (o : Option ℕ). SearchBack c.args.value entries o (Some c.loop-at.at))
    (read_node N c.self.inside.rings.prev c.loop-at.at c.loop-at-test.true (prev_room c.self.invariant.rings))
    (at.goes_on (omega arith)) in (
      subst (SearchBack c.args.value entries (node_at N (get_or c.self.inside.rings.prev c.loop-at.at 0))) (sym is) further,
      λ past. absurd (omega arith),
    )

pub returns-clause-found : goal.returns-clause-found
returns-clause-found g c =
    let none = end-none g.row.N c.loop-at.at c.loop-at-test.false in
    ends_back c.self.invariant.rings.spells c.args.list.number c.requires.list c.args.value
    (node_at g.row.N c.loop-at.at) (node_at g.row.N c.loop-at.after) c.loop-at.invariant.0 none
    ∙ ap (λ (xs : List (List (ℕ × ℕ))). first_of (upper c.args.value (entries_of xs c.args.list.number))) c.self.view_is
