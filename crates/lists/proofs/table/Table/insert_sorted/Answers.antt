use Rattle.std.proofs.Common.{rules, sym, ◌∙◌, ap, set, List, ℕ}
use Rattle.lists.specs.Lists.{entries_of}
use Rattle.lists.specs.Links.{SplitsBefore, node_at, upper}
use Rattle.lists.proofs.Search.{lower, lower-upper, insert_sorted-lower-upper}
use Rattle.lists.proofs.table.Table.insert_sorted.Goals as goal

pub put_before-requires : goal.put_before-requires
put_before-requires g c =
    let entries = entries_of c.args.self.now c.args.list.number in
    let split : SplitsBefore entries (node_at g.row.N c.first_greater-after.result) = record {
      before = lower c.args.value entries;
      rest = upper c.args.value entries;
      whole = lower-upper c.args.value entries;
      here = c.first_greater-after.ensures.found;
    } in
    (search rules, (c.requires.list, (c.requires.node, (c.requires.free, (split, c.first_greater-after.ensures.end)))))

pub returns-clause-put : goal.returns-clause-put
returns-clause-put g c =
    let entries = entries_of c.args.self.now c.args.list.number in
    c.put_before.ensures.put (lower c.args.value entries) (upper c.args.value entries)
    (lower-upper c.args.value entries) c.first_greater-after.ensures.found
    ∙ ap (λ (xs : List (ℕ × ℕ)). set c.args.self.now c.args.list.number xs)
    (sym (insert_sorted-lower-upper c.args.node.number c.args.value entries))
