use Rattle.std.proofs.Common.{rules, [], sym, append-nil, arith}
use Rattle.lists.specs.Lists.{entries_of}
use Rattle.lists.specs.Links.{SplitsBefore, node_at}
use Rattle.lists.proofs.Rings.{end-none}
use Rattle.lists.proofs.table.Table.push_back.Goals as goal

pub put_before-requires : goal.put_before-requires
put_before-requires g c =
    let entries = entries_of c.args.self.now c.args.list.number in
    let end = end-none g.row.N c.end.result (let is = c.end.ensures in omega (arith, is)) in
    let split : SplitsBefore entries (node_at g.row.N c.end.result) =
    record { before = entries; rest = []; whole = sym (append-nil entries); here = end } in
    (search rules, (c.requires.list, (c.requires.node, (c.requires.free, (split, λ past. c.end.ensures)))))

pub returns-clause-put : goal.returns-clause-put
returns-clause-put g c =
    let entries = entries_of c.args.self.now c.args.list.number in
    c.put_before.ensures.put entries [] (sym (append-nil entries))
    (end-none g.row.N c.end.result (let is = c.end.ensures in omega (arith, is)))
