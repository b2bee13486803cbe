use Rattle.std.proofs.Common.{arith}
use Rattle.rows.proofs.LookedUp.{as_many}
use Rattle.rows.proofs.kept_rows.KeptRows.len.Goals as goal

pub returns-clause-value : goal.returns-clause-value
returns-clause-value c =
    let rows = c.self.inside in
    let many = as_many rows.different.items rows.places.items c.args.self.now c.self.view_is c.self.invariant in
    let long = rows.places.ok.0 in
    let len = c.len.ensures in
    omega arith

pub returns-clause-fits : goal.returns-clause-fits
returns-clause-fits c =
    let within = c.self.inside.places.ok.1 in
    let small = c.self.inside.places.small in
    let len = c.len.ensures in
    omega arith
