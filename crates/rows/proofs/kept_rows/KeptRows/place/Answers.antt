use Rattle.std.proofs.Common.{arith}
use Rattle.rows.proofs.LookedUp.{as_many}
use Rattle.rows.proofs.kept_rows.KeptRows.place.Goals as goal

pub index-requires : goal.index-requires
index-requires c =
    let rows = c.self.inside in
    let many = as_many rows.different.items rows.places.items c.args.self.now c.self.view_is c.self.invariant in
    let long = rows.places.ok.0 in
    let low = c.requires in
    omega arith
